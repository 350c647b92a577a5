use Rattle.std.proofs.Common.{◌≡◌, drop}
use Rattle.upkeep.proofs.records.are_same_numbers.Given as goal

abbrev pub invariant-loop-i : goal.invariant-loop-i
invariant-loop-i l = record {
  whole : drop l.i l.a ≡ drop l.i l.b → l.a ≡ l.b;
  left : l.a ≡ l.b → drop l.i l.a ≡ drop l.i l.b;
}
