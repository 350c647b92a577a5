use Rattle.std.proofs.Common.{◌≡◌, drop, map}
use Rattle.std.specs.List.{list_all}
use Rattle.schema.specs.Values.{views, member_at}
use Rattle.filter.specs.Test.{test_view}
use Rattle.filter.specs.Deciding.{holds}
use Rattle.filter.proofs.holding.all_hold_at.Given as goal

abbrev pub invariant-loop-term : goal.invariant-loop-term
invariant-loop-term l = list_all (λ t. holds t (member_at t.leaf (views l.leaves))) (map test_view (drop l.term-index l.terms)) ≡ list_all (λ t. holds t (member_at t.leaf (views l.leaves))) (map test_view l.terms)
