use Rattle.std.proofs.Common.{ℕ, ◌^◌, ◌<◌, ◌≤◌}
use Rattle.std.specs.Prelude.{All, slice_index}
use Rattle.delta.proofs.writing.width_of.Given as goal

abbrev pub invariant-loop-number : goal.invariant-loop-number
invariant-loop-number l = record {
  top : (k : ℕ) → k < l.number-index → slice_index l.numbers k ≤ l.largest;
  below : (b : ℕ) → All (λ x. x < 2 ^ b) l.numbers → l.largest < 2 ^ b;
}
