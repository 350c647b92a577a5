use Rattle.std.proofs.Common.{◌≡◌, ◌==◌, false, take}
use Rattle.std.specs.List.{AllByRecursion}
use Rattle.table_state.specs.declared.jobs.OpenCursor.{OpenCursor}
use Rattle.table_reads.proofs.passing.move_cursor.Given as goal

-- it is none of those before
abbrev pub invariant-loop-i : goal.invariant-loop-i
invariant-loop-i l = record { same : l.cursors ≡ l.initial.cursors; none : AllByRecursion (λ (c : OpenCursor). (c.number == l.number) ≡ false) (take l.i l.initial.cursors) }
