use Rattle.std.proofs.Common.{◌≡◌, drop, map}
use Rattle.std.specs.List.{list_all}
use Rattle.schema.specs.Values.{views}
use Rattle.filter.specs.Test.{test_view, value_of}
use Rattle.filter.specs.Deciding.{holds}
use Rattle.filter.proofs.holding.all_hold.Given as goal

abbrev pub invariant-loop-term : goal.invariant-loop-term
invariant-loop-term l = list_all (λ t. holds t (value_of t (views l.row))) (map test_view (drop l.term-index l.terms)) ≡ list_all (λ t. holds t (value_of t (views l.row))) (map test_view l.terms)
