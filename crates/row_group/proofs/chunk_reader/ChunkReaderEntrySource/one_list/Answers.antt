use Rattle.row_group.specs.Left.{reader_view}
use Rattle.row_group.proofs.OneRest.{one_reader}
use Rattle.row_group.proofs.chunk_reader.ChunkReaderEntrySource.one_list.Goals as goal

pub returns : goal.returns
returns c = record { one = λ es fs p q. one_reader c.one_page.ensures.page c.one_page.ensures.chunk (reader_view c.args.self.now) es fs p q }
