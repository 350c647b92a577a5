use Rattle.std.proofs.Common.{◌≡◌, drop, map}
use Rattle.std.specs.List.{list_any}
use Rattle.filter.specs.Test.{test_view, is_at}
use Rattle.filter.proofs.looking.one_is_at.Given as goal

abbrev pub invariant-loop-term : goal.invariant-loop-term
invariant-loop-term l = list_any (is_at l.leaf) (map test_view (drop l.term-index l.terms)) ≡ list_any (is_at l.leaf) (map test_view l.terms)
