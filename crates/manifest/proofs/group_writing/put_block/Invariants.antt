use Rattle.std.proofs.Common.{map, take}
use Rattle.std.specs.List.{AllByRecursion}
use Rattle.schema.specs.Keys.{key_columns_view}
use Rattle.manifest.specs.Groups.{handles_view}
use Rattle.manifest.specs.Laid.{group_record}
use Rattle.manifest.specs.inner.Writing.{IsSized, PutsGroups}
use Rattle.manifest.proofs.group_writing.put_block.Given as goal

abbrev pub invariant-loop-group : goal.invariant-loop-group
invariant-loop-group l = AllByRecursion IsSized (handles_view l.groups)
    → PutsGroups (map (group_record (key_columns_view l.keys)) (handles_view (take l.group-index l.groups))) l.fn.out.items l.out.items
