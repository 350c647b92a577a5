use Rattle.upkeep.specs.Reading.{Looks}
use Rattle.upkeep.proofs.unnamed.bytes_at.Given as goal

abbrev pub invariant-loop-path : goal.invariant-loop-path
invariant-loop-path g l = Looks 0 (g.D.Disk.state l.fn.vault.disk) (g.D.Disk.state l.vault.disk)
