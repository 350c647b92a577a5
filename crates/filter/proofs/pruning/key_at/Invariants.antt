use Rattle.std.proofs.Common.{◌≡◌, drop, map}
use Rattle.schema.specs.Values.{view}
use Rattle.schema.specs.Keys.{places_of, key_columns_view}
use Rattle.filter.specs.RuledOut.{key_at}
use Rattle.filter.proofs.pruning.key_at.Given as goal

abbrev pub invariant-loop-i : goal.invariant-loop-i
invariant-loop-i l = key_at (places_of (key_columns_view (drop l.i l.keys))) (map view (drop l.i l.key)) l.place ≡ key_at (places_of (key_columns_view l.keys)) (map view l.key) l.place
