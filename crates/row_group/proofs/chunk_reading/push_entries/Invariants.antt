use Rattle.std.proofs.Common.{◌≡◌, ◌++◌, map, length}
use Rattle.schema.specs.Views.{entry_view}
use Rattle.pages.specs.Left.{entries_left}
use Rattle.row_group.proofs.chunk_reading.push_entries.Given as goal

-- the entries so far, and those that are left, are all
abbrev pub invariant-loop-page : goal.invariant-loop-page
invariant-loop-page l = map entry_view l.entries.items ++ entries_left l.page ≡ map entry_view l.initial.entries.items ++ entries_left l.initial.page

abbrev pub decreases-loop-page : goal.decreases-loop-page
decreases-loop-page l = length (entries_left l.page)
