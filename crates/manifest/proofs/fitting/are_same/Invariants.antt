use Rattle.std.proofs.Common.{◌≡◌, drop, map}
use Rattle.statistics.specs.Bounds.{statistics_of}
use Rattle.manifest.proofs.fitting.are_same.Given as goal

-- what is left is the same just where all is
abbrev pub invariant-loop-i : goal.invariant-loop-i
invariant-loop-i l = record {
  whole : map statistics_of (drop l.i l.a) ≡ map statistics_of (drop l.i l.b) → map statistics_of l.a ≡ map statistics_of l.b;
  left : map statistics_of l.a ≡ map statistics_of l.b → map statistics_of (drop l.i l.a) ≡ map statistics_of (drop l.i l.b);
}
