use Rattle.folders.specs.Named.{IsIn}
use Rattle.upkeep.specs.inner.Walk.{paths_of}
use Rattle.upkeep.proofs.Walking.{FilesSoFar}
use Rattle.upkeep.proofs.walk.find_files.Given as goal

abbrev pub invariant-loop-entry : goal.invariant-loop-entry
invariant-loop-entry l = FilesSoFar (IsIn l.named) l.folder l.entries l.entry-index (paths_of l.fn.found) (paths_of l.found)
