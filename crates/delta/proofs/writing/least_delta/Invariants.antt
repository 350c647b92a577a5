use Rattle.std.proofs.Common.{◌≡◌, ◌-◌, ◌<◌, map}
use Rattle.std.specs.List.{range_with_len}
use Rattle.std.specs.Int.{int_wrap}
use Rattle.delta.specs.Written.{delta_at, IsLeast}
use Rattle.delta.proofs.writing.least_delta.Given as goal

abbrev pub invariant-loop-i : goal.invariant-loop-i
invariant-loop-i g l = record {
  begun : l.at < l.i;
  least : IsLeast (map (delta_at g.T.Integer.width (map g.T.Integer.seen l.values)) (range_with_len (l.at - 1) (l.i - l.at))) l.least;
  fits : int_wrap g.T.Integer.width l.least ≡ l.least;
}
