use Rattle.std.proofs.Common.{◌≡◌, ◌++◌, map, drop}
use Rattle.partition.specs.Splitting.{key_rows_view}
use Rattle.table_jobs.specs.Completing.{completed_buffers}
use Rattle.table_jobs.proofs.completing.completed_buffers.Given as goal

-- what is copied and what is left make all
abbrev pub invariant-loop-buffer : goal.invariant-loop-buffer
invariant-loop-buffer l = map key_rows_view l.copies.items ++ completed_buffers l.stored (map key_rows_view (drop l.buffer-index l.waiting)) ≡ completed_buffers l.stored (map key_rows_view l.waiting)
