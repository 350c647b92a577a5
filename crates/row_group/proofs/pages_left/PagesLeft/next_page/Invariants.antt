use Rattle.std.proofs.Common.{[]}
use Rattle.row_group.specs.Left.{pages_view}
use Rattle.row_group.specs.inner.Pages.{Passes}
use Rattle.row_group.proofs.pages_left.PagesLeft.next_page.Given as goal

-- all pages so far had no entries
abbrev pub invariant-pages : goal.invariant-pages
invariant-pages l = Passes (pages_view l.initial.self) (pages_view l.self) []
