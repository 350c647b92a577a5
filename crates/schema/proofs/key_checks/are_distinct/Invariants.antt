use Rattle.std.proofs.Common.{◌≡◌, length}
use Rattle.schema.specs.Keys.{key_columns_view, places_of}
use Rattle.schema.specs.inner.Keyed.{are_distinct}
use Rattle.schema.proofs.key_checks.are_distinct.Given as goal

-- the answer for the keys that are left is that for all
abbrev pub invariant-loop-key : goal.invariant-loop-key
invariant-loop-key l = are_distinct (places_of (key_columns_view l.rest)) ≡ are_distinct (places_of (key_columns_view l.keys))

abbrev pub decreases-loop-key : goal.decreases-loop-key
decreases-loop-key l = length l.rest
