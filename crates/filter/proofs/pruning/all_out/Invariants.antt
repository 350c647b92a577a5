use Rattle.std.proofs.Common.{◌≡◌, drop, map}
use Rattle.std.specs.List.{list_any, list_all}
use Rattle.schema.specs.Values.{view}
use Rattle.filter.specs.Test.{ands_view}
use Rattle.statistics.specs.Bounds.{known_of}
use Rattle.schema.specs.Keys.{places_of, key_columns_view}
use Rattle.filter.specs.inner.Excluded.{is_out}
use Rattle.filter.proofs.pruning.all_out.Given as goal

abbrev pub invariant-loop-terms : goal.invariant-loop-terms
invariant-loop-terms l = list_all (λ terms. list_any (is_out (places_of (key_columns_view l.keys)) (map view l.key) (known_of l.known)) terms) (ands_view (drop l.terms-index l.ands)) ≡ list_all (λ terms. list_any (is_out (places_of (key_columns_view l.keys)) (map view l.key) (known_of l.known)) terms) (ands_view l.ands)
