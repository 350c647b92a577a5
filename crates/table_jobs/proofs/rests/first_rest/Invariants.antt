use Rattle.std.proofs.Common.{◌≤◌, ◌++◌, List, length}
use Rattle.std.specs.List.{AllByRecursion}
use Rattle.schema.specs.Shape.{Fields}
use Rattle.partition.specs.Splitting.{KeyRows}
use Rattle.gather.specs.KeyBuffers.{Hold}
use Rattle.table_jobs.specs.Rests.{IsAsLong, IsShorter}
use Rattle.table_jobs.proofs.rests.first_rest.Given as goal

-- the groups so far are full
abbrev pub invariant-loop-i : goal.invariant-loop-i
invariant-loop-i l = (fs : Fields) (full rests : List KeyRows) → Hold fs l.groups (full ++ rests) → AllByRecursion (IsAsLong l.size) full → AllByRecursion (IsShorter l.size) rests
    → l.i ≤ length full
