use Rattle.std.proofs.Common.{◌≤◌, ◌+◌, map, drop, length, List, ℕ}
use Rattle.std.specs.Prelude.{sum_by}
use Rattle.std.specs.Rc.{rc_str_bytes}
use Rattle.table_changes.proofs.root_limit.bytes_of_names.Given as goal

-- what is left makes the sum whole, or more than it is
abbrev pub invariant-loop-name : goal.invariant-loop-name
invariant-loop-name l = l.bytes + sum_by (λ (name : List ℕ). length name) (map rc_str_bytes (drop l.name-index l.names)) ≤ sum_by (λ (name : List ℕ). length name) (map rc_str_bytes l.names)
