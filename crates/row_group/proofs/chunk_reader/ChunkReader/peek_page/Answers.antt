use Rattle.std.proofs.Common.{ap}
use Rattle.row_group.specs.PageLeft.{page_left}
use Rattle.row_group.specs.Left.{reader_view}
use Rattle.row_group.proofs.Readers.{page_peeks, no_fault}
use Rattle.row_group.proofs.chunk_reader.ChunkReader.peek_page.Goals as goal

pub returns-in-Some : goal.returns-in-Some
returns-in-Some c = page_peeks (reader_view c.args.self.now) c.in-Some.page c.peek.result (no_fault c.args.self.now.fault c.args.self.now.page c.in-Some.page c.in-Some.is c.args.self.now.no_page_refused) (ap page_left c.in-Some.is) c.peek.ensures
