use Rattle.std.proofs.Common.{◌≡◌, drop}
use Rattle.schema.specs.Values.{views}
use Rattle.schema.proofs.value.+same.Given as goal

-- what is left is the same just where all is
abbrev pub invariant-same_all-loop-i : goal.invariant-same_all-loop-i
invariant-same_all-loop-i l = record {
  whole : views (drop l.i l.a) ≡ views (drop l.i l.b) → views l.a ≡ views l.b;
  left : views l.a ≡ views l.b → views (drop l.i l.a) ≡ views (drop l.i l.b);
}
