use Rattle.std.proofs.Common.{ap}
use Rattle.row_group.specs.PageLeft.{page_left}
use Rattle.row_group.specs.Left.{reader_view}
use Rattle.row_group.proofs.Readers.{given_plain, no_fault}
use Rattle.row_group.proofs.chunk_reader.ChunkReader.next_plain.Goals as goal

pub returns-in-Some-clause-gives : goal.returns-in-Some-clause-gives
returns-in-Some-clause-gives c = given_plain (reader_view c.args.self.now) c.in-Some.page c.next_plain.new.self c.next_plain.result (no_fault c.args.self.now.fault c.args.self.now.page c.in-Some.page c.in-Some.is c.args.self.now.no_page_refused) (ap page_left c.in-Some.is) c.args.self.now.of_leaf c.next_plain.ensures

pub returns-in-Some-clause-caused : goal.returns-in-Some-clause-caused
returns-in-Some-clause-caused c = λ e h. h
