use Rattle.std.proofs.Common.{◌≡◌, drop}
use Rattle.table_reads.specs.Stepping.{source_in}
use Rattle.table_reads.proofs.sources.source_at.Given as goal

-- the place among the sources of the runs that are left
abbrev pub invariant-loop-run : goal.invariant-loop-run
invariant-loop-run l = source_in (drop l.run-index l.runs) l.left ≡ source_in l.runs l.place
