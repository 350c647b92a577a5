use Rattle.std.proofs.Common.{drop}
use Rattle.manifest.specs.Groups.{root_of, handles_view}
use Rattle.manifest.specs.Root.{CanHave}
use Rattle.manifest.proofs.description.Manifest.can_have.Given as goal

-- the table can have what is left just where it can have all
abbrev pub invariant-loop-group : goal.invariant-loop-group
invariant-loop-group l = record {
  whole : CanHave (root_of l.self) (handles_view (drop l.group-index l.groups)) → CanHave (root_of l.self) (handles_view l.groups);
  left : CanHave (root_of l.self) (handles_view l.groups) → CanHave (root_of l.self) (handles_view (drop l.group-index l.groups));
}
