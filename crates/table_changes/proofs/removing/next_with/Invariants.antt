use Rattle.std.proofs.Common.{◌≡◌, ◌≤◌, ◌<◌, ◌⊎◌, take}
use Rattle.std.specs.List.{AllByRecursion}
use Rattle.manifest.specs.Groups.{Group as FileGroup}
use Rattle.planning.specs.Numbered.{brought}
use Rattle.planning.specs.Replaced.{changes_view}
use Rattle.planning.specs.Told.{IsNextOf}
use Rattle.table_changes.proofs.removing.next_with.Given as goal

abbrev pub invariant-loop-change : goal.invariant-loop-change
invariant-loop-change l = record {
  falls : l.next ≤ l.after;
  above : AllByRecursion (λ (f : FileGroup). f.number < l.after) (brought (changes_view (take l.change-index l.changes)));
  least : (l.after ≡ l.next) ⊎ IsNextOf l.after (brought (changes_view (take l.change-index l.changes)));
}
