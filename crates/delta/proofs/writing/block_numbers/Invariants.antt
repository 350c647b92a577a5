use Rattle.std.proofs.Common.{◌≡◌, ℕ, ◌+◌, ◌-◌, ◌*◌, ◌^◌, ◌<◌, ◌≤◌, length, map, take}
use Rattle.std.specs.Prelude.{pos, ◌+ℤ◌, All, slice_index}
use Rattle.std.specs.Int.{byte_len, int_wrap}
use Rattle.delta.specs.Written.{delta_at, deltas_from, IsLeast}
use Rattle.delta.specs.inner.Taken.{Adds, deltas_of}
use Rattle.delta.proofs.writing.block_numbers.Given as goal

abbrev pub invariant-loop-i : goal.invariant-loop-i
invariant-loop-i g l = record {
  count : length l.numbers ≡ 128;
  narrow : All (λ x. x < 2 ^ (8 * byte_len g.T.Integer.width)) l.numbers;
  added : Adds g.T.Integer.width (deltas_of l.least (take l.i l.numbers)) (take l.at (map g.T.Integer.seen l.values)) (take (l.at + l.i) (map g.T.Integer.seen l.values));
  exact : int_wrap g.T.Integer.width l.least ≡ l.least → IsLeast (deltas_from g.T.Integer.width (map g.T.Integer.seen l.values) (l.at - 1)) l.least
      → (k : ℕ) → k < l.i → l.least +ℤ pos (slice_index l.numbers k) ≡ delta_at g.T.Integer.width (map g.T.Integer.seen l.values) (l.at - 1 + k);
  zeros : (k : ℕ) → l.i ≤ k → slice_index l.numbers k ≡ 0;
}
