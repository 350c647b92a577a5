use Rattle.upkeep.specs.Reading.{Looks}
use Rattle.upkeep.proofs.surveying.missing_files.Given as goal

abbrev pub invariant-loop-i : goal.invariant-loop-i
invariant-loop-i g l = Looks l.i (g.D.Disk.state l.fn.vault.disk) (g.D.Disk.state l.vault.disk)
