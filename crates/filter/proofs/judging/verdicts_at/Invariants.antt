use Rattle.std.proofs.Common.{◌≡◌, ◌++◌, drop, map}
use Rattle.schema.specs.Values.{views, member_at}
use Rattle.filter.specs.Deciding.{holds}
use Rattle.filter.specs.Test.{test_view}
use Rattle.filter.proofs.judging.verdicts_at.Given as goal

abbrev pub invariant-loop-term : goal.invariant-loop-term
invariant-loop-term l =
    l.verdicts.items ++ map (λ t. holds t (member_at t.leaf (views l.leaves))) (map test_view (drop l.term-index l.terms))
    ≡ map (λ t. holds t (member_at t.leaf (views l.leaves))) (map test_view l.terms)
