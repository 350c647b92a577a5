use Rattle.std.proofs.Common.{ℕ, Option, ap, subst}
use Rattle.row_group.specs.PageLeft.{page_left}
use Rattle.row_group.specs.Left.{reader_view}
use Rattle.row_group.specs.inner.Readers.{PeeksPage}
use Rattle.row_group.proofs.Readers.{peeked, page_shows, none_shows}
use Rattle.row_group.proofs.chunk_reader.ChunkReaderEntrySource.peek.Goals as goal

pub returns-in-Some-clause-shows : goal.returns-in-Some-clause-shows
returns-in-Some-clause-shows c =
    let r = reader_view c.args.self.now in
    peeked r c.in-Some.levels (subst (λ (o : Option (ℕ × ℕ)). PeeksPage r o) c.in-Some.is c.peek_page.ensures)

pub returns-in-Some-page-clause-shows : goal.returns-in-Some-page-clause-shows
returns-in-Some-page-clause-shows c =
    page_shows (reader_view c.args.self.now) (reader_view c.fill.new.self) c.in-Some-page.page c.peek.result c.in_ok-fill.ensures.fills (ap page_left c.in-Some-page.is) c.peek.ensures

pub returns-in-None-clause-shows : goal.returns-in-None-clause-shows
returns-in-None-clause-shows c = none_shows (reader_view c.args.self.now) (reader_view c.fill.new.self) c.in_ok-fill.ensures.fills (ap page_left c.in-None.is)
