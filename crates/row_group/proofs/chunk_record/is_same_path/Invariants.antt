use Rattle.std.proofs.Common.{◌≡◌, map, drop}
use Rattle.std.specs.Rc.{rc_str_bytes}
use Rattle.row_group.proofs.chunk_record.is_same_path.Given as goal

-- what is left is the same just where all is
abbrev pub invariant-loop-i : goal.invariant-loop-i
invariant-loop-i l = record {
  whole : map (λ s. s.items) (drop l.i l.path) ≡ map rc_str_bytes (drop l.i l.names) → map (λ s. s.items) l.path ≡ map rc_str_bytes l.names;
  left : map (λ s. s.items) l.path ≡ map rc_str_bytes l.names → map (λ s. s.items) (drop l.i l.path) ≡ map rc_str_bytes (drop l.i l.names);
}
