-- What the test of a version says.
use Rattle.std.proofs.Common.{◌≡◌, ℕ, Bool, true, false, not, List, [], ◌∷◌, None, refl, ap}
use Rattle.std.specs.Ordering.{is_le}
use Rattle.std.proofs.lemmas.Bool.{and_parts, and_from as both, not-true as to_not}
use Rattle.bits.specs.declared.refusal.Refusal.TheVariants.{Page, Stale, NoJob}
use Rattle.schema.specs.Values.{ValueTree}
use Rattle.schema.specs.Cutting.{is_among as is_number_among}
use Rattle.schema.specs.Keys.{AreDistinct}
use Rattle.partition.specs.Order.{key_cmp, AreInTableOrder}
use Rattle.manifest.specs.Groups.{keys_of}
use Rattle.snapshots.specs.State.{numbers_of, are_distinct, are_in_order, is_version, unless, first_of, has_groups, job_is_open, sources_of}
use Rattle.snapshots.specs.Ordered.{VersionsAreTold, CommittedAreVersions}

distinct_to : (ns : List ℕ) → are_distinct ns ≡ true → AreDistinct ns
distinct_to [] h = tt
distinct_to (n ∷ ns) h = let parts = and_parts (not (is_number_among ns n)) (are_distinct ns) h in (to_not (is_number_among ns n) parts.0, distinct_to ns parts.1)

distinct_from : (ns : List ℕ) → AreDistinct ns → are_distinct ns ≡ true
distinct_from [] h = refl
distinct_from (n ∷ ns) h = both (not (is_number_among ns n)) (are_distinct ns) (ap not h.0) (distinct_from ns h.1)

order_to : (ks : List (List ValueTree)) → are_in_order ks ≡ true → AreInTableOrder ks
order_to [] h = tt
order_to (k ∷ []) h = tt
order_to (k ∷ l ∷ ks) h = let parts = and_parts (is_le (key_cmp k l)) (are_in_order (l ∷ ks)) h in (parts.0, order_to (l ∷ ks) parts.1)

order_from : (ks : List (List ValueTree)) → AreInTableOrder ks → are_in_order ks ≡ true
order_from [] h = refl
order_from (k ∷ []) h = refl
order_from (k ∷ l ∷ ks) h = both (is_le (key_cmp k l)) (are_in_order (l ∷ ks)) h.0 (order_from (l ∷ ks) h.1)

pub versions_are_told : VersionsAreTold
versions_are_told version = (
  λ h. let parts = and_parts (are_distinct (numbers_of version)) (are_in_order (keys_of version)) h in record { distinct = distinct_to (numbers_of version) parts.0; in_order = order_to (keys_of version) parts.1 },
  λ v. both (are_distinct (numbers_of version)) (are_in_order (keys_of version)) (distinct_from (numbers_of version) v.distinct) (order_from (keys_of version) v.in_order),
)

third : (a b c : Bool) → first_of (unless a NoJob ∷ unless b Stale ∷ unless c Page ∷ []) ≡ None → c ≡ true
third true true true h = refl
third true true false h = cc
third true false c h = cc
third false b c h = cc

pub committed_are_versions : CommittedAreVersions
committed_are_versions s version job h = (versions_are_told version).0 (third (job_is_open s job) (has_groups s.current (sources_of s job)) (is_version version) h)
