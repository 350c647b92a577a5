use Rattle.std.proofs.Common.{ap}
use Rattle.row_group.specs.PageLeft.{page_left}
use Rattle.row_group.specs.Left.{reader_view}
use Rattle.row_group.specs.inner.Readers.{last_taken}
use Rattle.row_group.proofs.Readers.{page_advanced, none_taken}
use Rattle.row_group.proofs.Causes.{advance_cause}
use Rattle.row_group.proofs.chunk_reader.ChunkReader.advance.Goals as goal

pub returns-in-Some-clause-advances : goal.returns-in-Some-clause-advances
returns-in-Some-clause-advances c =
    page_advanced (reader_view c.args.self.now) (reader_view c.fill.new.self) c.in-Some.page c.advance.new.self c.advance.result c.in_ok-fill.ensures.fills (ap page_left c.in-Some.is) c.fill.new.self.of_leaf c.advance.ensures

pub returns-in-None-clause-advances : goal.returns-in-None-clause-advances
returns-in-None-clause-advances c = none_taken (reader_view c.args.self.now) (reader_view c.fill.new.self) (last_taken c.fill.new.self) c.in_ok-fill.ensures.fills (ap page_left c.in-None.is)

pub returns-in-Some-clause-caused : goal.returns-in-Some-clause-caused
returns-in-Some-clause-caused c = (c.in_ok-fill.ensures.caused.0, advance_cause (reader_view c.args.self.now) c.in-Some.page c.advance.new.self c.advance.result c.in_ok-fill.ensures.fills.0 c.advance.ensures)

pub returns-in-None-clause-caused : goal.returns-in-None-clause-caused
returns-in-None-clause-caused c = (c.in_ok-fill.ensures.caused.0, tt)
