use Rattle.std.proofs.Common.{◌≡◌, drop, map}
use Rattle.std.specs.List.{list_any}
use Rattle.schema.specs.Values.{view}
use Rattle.filter.specs.Test.{test_view}
use Rattle.statistics.specs.Bounds.{known_of}
use Rattle.schema.specs.Keys.{places_of, key_columns_view}
use Rattle.filter.specs.inner.Excluded.{is_out}
use Rattle.filter.proofs.pruning.some_out.Given as goal

abbrev pub invariant-loop-term : goal.invariant-loop-term
invariant-loop-term l = list_any (is_out (places_of (key_columns_view l.keys)) (map view l.key) (known_of l.known)) (map test_view (drop l.term-index l.terms)) ≡ list_any (is_out (places_of (key_columns_view l.keys)) (map view l.key) (known_of l.known)) (map test_view l.terms)
