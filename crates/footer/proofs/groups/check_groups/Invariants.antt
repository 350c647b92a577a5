use Rattle.std.proofs.Common.{List, map, drop}
use Rattle.schema.specs.Values.{ValueTrees}
use Rattle.metadata.specs.Views.{group_meta_view}
use Rattle.footer.specs.Left.{GroupsHold}
use Rattle.footer.proofs.groups.check_groups.Given as goal

-- with rows of the groups that are left, there are rows of all groups
abbrev pub invariant-loop-group : goal.invariant-loop-group
invariant-loop-group l = record {
  hold : (rest : List ValueTrees) → GroupsHold l.front l.schema (map group_meta_view (drop l.group-index l.groups)) rest
      → (rows : List ValueTrees) × GroupsHold l.front l.schema (map group_meta_view l.groups) rows;
}
