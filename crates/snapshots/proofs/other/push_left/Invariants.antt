use Rattle.std.proofs.Common.{◌≡◌, ◌++◌, drop}
use Rattle.manifest.specs.Groups.{handles_view}
use Rattle.snapshots.specs.inner.Found.{came}
use Rattle.snapshots.specs.inner.Spells.{others_view, left_over}
use Rattle.snapshots.proofs.other.push_left.Given as goal

abbrev pub invariant-loop-group : goal.invariant-loop-group
invariant-loop-group l = others_view l.out.items ++ left_over (came l.before) (came l.next) l.now (handles_view (drop l.group-index l.groups)) ≡ others_view l.initial.out.items ++ left_over (came l.before) (came l.next) l.now (handles_view l.groups)
