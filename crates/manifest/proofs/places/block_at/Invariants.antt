use Rattle.std.proofs.Common.{◌<◌, ◌≤◌, ◌-◌, length}
use Rattle.std.specs.Prelude.{IfSome}
use Rattle.std.specs.List.{slice_get}
use Rattle.manifest.proofs.places.block_at.Given as goal

abbrev pub invariant-loop-low : goal.invariant-loop-low
invariant-loop-low l = record {
  in_order : l.low < l.high;
  there : l.high ≤ length l.starts;
  at_most : IfSome (slice_get l.starts l.low) (λ start. start ≤ l.place);
  later : IfSome (slice_get l.starts l.high) (λ start. l.place < start);
}

abbrev pub decreases-loop-low : goal.decreases-loop-low
decreases-loop-low l = l.high - l.low
