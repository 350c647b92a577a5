use Rattle.std.proofs.Common.{drop}
use Rattle.upkeep.specs.inner.Columns.{AreColumns}
use Rattle.upkeep.proofs.columns.fault_of_columns.Given as goal

-- where the columns that are left are, all are
abbrev pub invariant-loop-i : goal.invariant-loop-i
invariant-loop-i l = AreColumns l.front (drop l.i l.leaves) (drop l.i l.chunks) (drop l.i l.stats) → AreColumns l.front l.leaves l.chunks l.stats
