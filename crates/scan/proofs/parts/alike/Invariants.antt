use Rattle.std.proofs.Common.{◌≡◌, ◌<◌, ◌≤◌, ◌-◌, length, take}
use Rattle.std.specs.List.{AllByRecursion}
use Rattle.schema.specs.Keys.{key_columns_view, places_of}
use Rattle.scan.specs.Cost.{is_stored}
use Rattle.scan.proofs.parts.alike.Given as goal

abbrev pub invariant-alike : goal.invariant-alike
invariant-alike l = record {
  some : 0 < l.count;
  within : l.count ≤ length l.places;
  same : AllByRecursion (λ p. is_stored (places_of (key_columns_view l.keys)) l.width p ≡ l.first) (take l.count l.places);
}

abbrev pub decreases-alike : goal.decreases-alike
decreases-alike l = length l.places - l.count
