use Rattle.std.proofs.Common.{◌+◌, ◌-◌, ◌*◌, length}
use Rattle.upkeep.specs.Reading.{Looks}
use Rattle.upkeep.proofs.obstacles.+seek.Given as goal

-- the columns that remain, and whether the folder is still to be listed
abbrev pub decreases-seek : goal.decreases-seek
decreases-seek g l = 2 * (length l.keys.now - l.depth) + 1

abbrev pub decreases-seek_at : goal.decreases-seek_at
decreases-seek_at g l = 2 * (length l.keys.now - l.depth)

abbrev pub invariant-seek-loop-entry : goal.invariant-seek-loop-entry
invariant-seek-loop-entry g l = Looks 0 (g.D.Disk.state l.initial.vault.disk) (g.D.Disk.state l.vault.disk)
