use Rattle.std.proofs.Common.{◌≡◌, drop}
use Rattle.schema.specs.Values.{views}
use Rattle.filter.specs.Same.{same_each}
use Rattle.filter.proofs.equality.are_same.Given as goal

abbrev pub invariant-loop-i : goal.invariant-loop-i
invariant-loop-i l = same_each (views (drop l.i l.a)) (views (drop l.i l.b)) ≡ same_each (views l.a) (views l.b)
