use Rattle.std.proofs.Common.{◌+◌, ◌-◌, ◌*◌, length}
use Rattle.schema.specs.Keys.{key_columns_view}
use Rattle.upkeep.specs.Reading.{Looks}
use Rattle.folders.specs.Named.{IsIn}
use Rattle.upkeep.specs.inner.Walk.{paths_of}
use Rattle.upkeep.proofs.Walking.{SoFar}
use Rattle.upkeep.proofs.walk.+find.Given as goal

-- the columns that remain, and whether the folder is still to be listed
abbrev pub decreases-find : goal.decreases-find
decreases-find g l = 2 * (length l.keys.now - l.depth) + 1

abbrev pub decreases-find_below : goal.decreases-find_below
decreases-find_below g l = 2 * (length l.keys.now - l.depth)

abbrev pub invariant-find-loop-entry : goal.invariant-find-loop-entry
invariant-find-loop-entry g l = record {
  looks : Looks 0 (g.D.Disk.state l.initial.vault.disk) (g.D.Disk.state l.vault.disk);
  found : (g.D.Disk.state l.initial.vault.disk).honest → SoFar (key_columns_view l.keys) (IsIn l.named) (l.depth + 1) l.folder l.entry-items l.entry-index (g.D.Disk.state l.initial.vault.disk).seen (paths_of l.initial.found) (paths_of l.found);
}
