use Rattle.std.proofs.Common.{◌≡◌, ◌++◌, List, map, drop}
use Rattle.std.specs.List.{AllByRecursion}
use Rattle.schema.specs.Keys.{key_columns_view}
use Rattle.metadata.specs.Records.{GroupMeta}
use Rattle.manifest.specs.Handles.{groups_of_blocks}
use Rattle.manifest.specs.Groups.{groups_in}
use Rattle.manifest.specs.Laid.{group_record}
use Rattle.manifest.specs.inner.Writing.{IsSized, PutsGroups}
use Rattle.manifest.proofs.group_writing.put_groups.Given as goal

-- those of the blocks so far are written, and those of the others are left
abbrev pub invariant-loop-block : goal.invariant-loop-block
invariant-loop-block l = AllByRecursion IsSized (groups_in l.groups)
    → (ms : List GroupMeta) × PutsGroups ms l.fn.out.items l.out.items
    × (ms ++ map (group_record (key_columns_view l.keys)) (groups_of_blocks (drop l.block-index l.block-items)) ≡ map (group_record (key_columns_view l.keys)) (groups_in l.groups))
