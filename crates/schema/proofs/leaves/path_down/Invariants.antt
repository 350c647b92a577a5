use Rattle.std.proofs.Common.{◌≡◌, take, map, length}
use Rattle.std.specs.Rc.{rc_str_bytes}
use Rattle.schema.proofs.leaves.path_down.Given as goal

-- the names so far are there
abbrev pub invariant-loop-name : goal.invariant-loop-name
invariant-loop-name l = record {
  is : map rc_str_bytes l.down.items ≡ map rc_str_bytes (take l.name-index l.path);
  len : length l.down.items ≡ l.name-index;
}
