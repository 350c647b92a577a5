use Rattle.std.proofs.Common.{arith}
use Rattle.std.proofs.lemmas.List.{nil_from_length as empty}
use Rattle.row_group.specs.PageLeft.{page_left}
use Rattle.row_group.proofs.chunk_reader.ChunkReader.fill.Goals as goal

pub read_next_page-requires : goal.read_next_page-requires
read_next_page-requires c = empty (page_left c.args.self.now.page) (omega (arith, c.page_len.ensures, c.if-page_len-gt0.false))

pub returns-then-page_len-gt0-clause-caused : goal.returns-then-page_len-gt0-clause-caused
returns-then-page_len-gt0-clause-caused c = (λ e h. h, tt)
