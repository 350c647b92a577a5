-- A group's file has a chunk, and it is read where each column that the file can have is wanted.
use Rattle.std.proofs.Common.{◌≡◌, ◌≤◌, ◌<◌, ◌+◌, ◌-◌, ℕ, zero, suc, Bool, true, false, not, ◌&&◌, ◌||◌, nat_lt, List, [], ◌∷◌, length, Some, refl, ap, sym, ◌∙◌, subst, arith, add-zero, zero-add}
use Rattle.std.specs.Prelude.{cond, count_by}
use Rattle.std.specs.List.{slice_get}
use Rattle.std.proofs.lemmas.Bool.Decides.{nat_tests}
use Rattle.lists.proofs.Slices.{slice_get_append as get_front}
use Rattle.schema.specs.Cutting.{is_among}
use Rattle.schema.specs.Keys.{KeyColumn, AreKeys, places_of, field_at, fields_besides, without_keys}
use Rattle.schema.specs.Law.{IsFilled, IsValid, AreValid, IsSchema}
use Rattle.schema.specs.Shape.{Field, leaf, fields, Fields, no_fields, field, count, repetition_of}
use Rattle.schema.specs.Stripe.{Step, Leaf, leaves, leaves_from, leaves_of, leaf_at, below}
use Rattle.schema.proofs.LeafPlaces.{count_gone, one_if, count_places, leaves_before, leaf_stands, get_mapped}
use Rattle.filter.specs.Test.{Test, looks_at}
use Rattle.manifest.specs.Groups.{Group}
use Rattle.manifest.specs.Records.{IsGroup}
use Rattle.scan.specs.Cost.{place_of, keys_before, is_stored, is_read, count_read, chunks_read}

-- ---- a field has a leaf

mutual
  leaf_of : (f : Field) → IsValid f → (l : Leaf) × (slice_get (leaves f) 0 ≡ Some l)
  leaf_of (leaf n r t) valid = (leaf_at [] [] t, refl)
  leaf_of (fields n r a fs) valid = first_leaf 0 fs valid.0.some valid.1

  first_leaf : (i : ℕ) (fs : Fields) → IsFilled fs → AreValid fs → (l : Leaf) × (slice_get (leaves_from i fs) 0 ≡ Some l)
  first_leaf i no_fields some valid = absurd some
  first_leaf i (field f fs) some valid =
      let own = leaf_of f valid.0 in
      (below i f own.0, get_front _ (leaves_from (suc i) fs) 0 (below i f own.0) (get_mapped (below i f) (leaves f) 0 own.0 own.1))

valid_at : (p : ℕ) (fs : Fields) (f : Field) → field_at p fs ≡ Some f → AreValid fs → IsValid f
valid_at p no_fields f at valid = absurd (cc)
valid_at zero (field g fs) f at valid = let same : g ≡ f = cc in subst IsValid same valid.0
valid_at (suc p) (field g fs) f at valid = valid_at p fs f at valid.1

low_at : (p : ℕ) (fs : Fields) (f : Field) → field_at p fs ≡ Some f → p < count fs
low_at p no_fields f at = absurd (cc)
low_at zero (field g fs) f at = omega arith
low_at (suc p) (field g fs) f at = let low = low_at p fs f at in omega (arith, low)

-- ---- the first column that is no key

record Kept (gone : ℕ → Bool) (i : ℕ) (fs : Fields) : Type 0 where
  place : ℕ
  of : Field
  there : field_at place fs ≡ Some of
  kept : gone (i + place) ≡ false
  before : count_gone gone i place ≡ place

first_kept : (gone : ℕ → Bool) (i : ℕ) (fs : Fields) → 1 ≤ count (fields_besides gone i fs) → Kept gone i fs
first_kept gone i no_fields some = absurd (omega (arith, some))
first_kept gone i (field f fs) some = by (gone i) refl some (first_kept gone (suc i) fs)
  where
    by : (b : Bool) → gone i ≡ b → 1 ≤ count (cond b (fields_besides gone (suc i) fs) (field f (fields_besides gone (suc i) fs))) → (1 ≤ count (fields_besides gone (suc i) fs) → Kept gone (suc i) fs) → Kept gone i (field f fs)
    by true e s more =
        let rest = more s in
        let before = rest.before in record {
          place = suc rest.place;
          of = rest.of;
          there = rest.there;
          kept = subst (λ (n : ℕ). gone n ≡ false) (omega arith) rest.kept;
          before = ap (λ (b : Bool). one_if b + count_gone gone (suc i) rest.place) e ∙ omega (arith, before);
        }
    by false e s more = record { place = 0; of = f; there = refl; kept = ap gone (add-zero i) ∙ e; before = refl }

-- ---- a leaf that is read is counted

module _ (tests : List (List Test)) (keys : List ℕ) (width : ℕ) (places : List ℕ) where
  counted : (n : ℕ) (ls : List Leaf) (k : ℕ) (l : Leaf) → slice_get ls k ≡ Some l → is_read tests keys width places (n + k) l ≡ true → 1 ≤ count_read tests keys width places n ls
  counted n [] k l at read = absurd (cc)
  counted n (x ∷ ls) zero l at read =
      let same : x ≡ l = cc in
      let here : is_read tests keys width places n x ≡ true = ap (λ (y : Leaf). is_read tests keys width places n y) same ∙ ap (λ (m : ℕ). is_read tests keys width places m l) (sym (add-zero n)) ∙ read in
      let one : one_if (is_read tests keys width places n x) ≡ 1 = ap one_if here in
      omega (arith, one)
  counted n (x ∷ ls) (suc k) l at read =
      let rest = counted (suc n) ls k l at (subst (λ (m : ℕ). is_read tests keys width places m l ≡ true) (omega arith) read) in
      omega (arith, rest)

  read_so : (n : ℕ) (l : Leaf) → is_among keys (place_of l.steps) ≡ false → keys_before keys (place_of l.steps) ≡ place_of l.steps → 1 ≤ width → is_among places (place_of l.steps) ≡ true → is_read tests keys width places n l ≡ true
  read_so n l kept before some wanted =
      let first : nat_lt (place_of l.steps - keys_before keys (place_of l.steps)) width ≡ true = grind (arith, nat_tests, before, some) in
      let stored : is_stored keys width (place_of l.steps) ≡ true = ap (λ (b : Bool). not b && nat_lt (place_of l.steps - keys_before keys (place_of l.steps)) width) kept ∙ first in
      ap (λ (b : Bool). b && (is_among places (place_of l.steps) || looks_at tests n)) stored ∙ ap (λ (b : Bool). b || looks_at tests n) wanted

-- where each column that a file can have is wanted, some chunk is read
pub some_chunk : (tests : List (List Test)) (keys : List KeyColumn) (fs : Fields) (g : Group) (places : List ℕ) → IsSchema fs → AreKeys keys fs → IsGroup keys (without_keys keys fs) g
    → ((p : ℕ) → p < count fs → is_among (places_of keys) p ≡ false → is_among places p ≡ true) → chunks_read tests keys fs g places ≡ 0 → ⊥
some_chunk tests keys fs g places schema are group wanted none =
    let some = group.file.some in
    let within = group.file.there in
    let first = first_kept (is_among (places_of keys)) 0 fs (omega (arith, some, within)) in
    let at : 0 + first.place ≡ first.place = zero-add first.place in
    let own = leaf_of first.of (valid_at first.place fs first.of first.there schema.1) in
    let stands = leaf_stands 0 first.place 0 fs first.of own.0 first.there own.1 in
    let l = below (0 + first.place) first.of own.0 in
    let kept = first.kept in
    let before : keys_before (places_of keys) (0 + first.place) ≡ 0 + first.place = ap (keys_before (places_of keys)) at ∙ count_places (places_of keys) are.distinct first.place ∙ first.before ∙ sym at in
    let chosen : is_among places (0 + first.place) ≡ true = wanted (0 + first.place) (let low = low_at first.place fs first.of first.there in omega (arith, low)) kept in
    let one = counted tests (places_of keys) g.width places 0 (leaves_of fs) (leaves_before first.place fs + 0) l stands (read_so tests (places_of keys) g.width places (0 + (leaves_before first.place fs + 0)) l kept before some chosen) in
    omega (arith, one, none)
