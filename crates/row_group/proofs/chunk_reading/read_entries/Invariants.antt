use Rattle.std.proofs.Common.{map}
use Rattle.schema.specs.Views.{entry_view}
use Rattle.row_group.specs.Left.{pages_view}
use Rattle.row_group.specs.inner.Pages.{Passes}
use Rattle.row_group.proofs.chunk_reading.read_entries.Given as goal

-- the entries are those of the pages so far
abbrev pub invariant-loop-entries : goal.invariant-loop-entries
invariant-loop-entries l = Passes (pages_view l.initial.pages) (pages_view l.pages) (map entry_view l.entries.items)

abbrev pub decreases-loop-entries : goal.decreases-loop-entries
decreases-loop-entries l = l.pages.lacking
