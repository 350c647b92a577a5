use Rattle.std.proofs.Common.{◌≡◌, drop}
use Rattle.schema.specs.Cutting.{is_among}
use Rattle.schema.specs.Keys.{key_columns_view, places_of}
use Rattle.schema.proofs.key_checks.has_place.Given as goal

abbrev pub invariant-loop-key : goal.invariant-loop-key
invariant-loop-key l = is_among (places_of (key_columns_view (drop l.key-index l.keys))) l.place ≡ is_among (places_of (key_columns_view l.keys)) l.place
