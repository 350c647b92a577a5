-- The fields of a table, made place by place of its key columns and of the other fields.
use Rattle.std.proofs.Common.{◌≡◌, ℕ, zero, suc, ◌+◌, ◌<◌, Bool, true, false, ◌||◌, nat_eq, nat_lt, List, [], ◌∷◌, ◌++◌, length, Option, Some, None, refl, ap, sym, ◌∙◌, subst, arith, add-zero, eqb-true, append_assoc}
use Rattle.std.specs.Prelude.{cond, count_by}
use Rattle.std.specs.List.{AllByRecursion}
use Rattle.std.proofs.lemmas.Bool.Decides.{nat_tests}
use Rattle.std.proofs.lemmas.List.Sums.{sum_by-cons}
use Rattle.schema.specs.Annotations.{converted_type}
use Rattle.schema.specs.declared.key.KeyKind.TheVariants.{Boolean, Int32, Int64, Utf8}
use Rattle.schema.specs.declared.key.KeyKind.{KeyKind}
use Rattle.schema.specs.Shape.{Field, Fields, no_fields, field, count}
use Rattle.schema.specs.Elements.{Element}
use Rattle.schema.specs.Listed.{listing, listings, group_element, root_name}
use Rattle.schema.specs.Law.{IsLeafType, IsValid, AreValid}
use Rattle.schema.specs.Keys.{KeyColumn, AreKeys, without_keys, places_of, fields_besides, field_at, key_field, key_type}
use Rattle.schema.specs.inner.Reading.{join_fields}
use Rattle.schema.proofs.LeafPlaces.{count_gone, count_places}
use Rattle.schema.specs.Fronts.{fields_after}
use Rattle.schema.specs.inner.Keyed.{key_at, has_key, IsMade, IsMadeWhole}

-- ---- fields one behind the other

join_none : (fs : Fields) → join_fields fs no_fields ≡ fs
join_none no_fields = refl
join_none (field f fs) = ap (field f) (join_none fs)

join_one : (fs : Fields) (f : Field) (rest : Fields) → join_fields fs (field f rest) ≡ join_fields (join_fields fs (field f no_fields)) rest
join_one no_fields f rest = refl
join_one (field g fs) f rest = ap (field g) (join_one fs f rest)

count_join : (fs gs : Fields) → count (join_fields fs gs) ≡ count fs + count gs
count_join no_fields gs = omega arith
count_join (field f fs) gs = let h = count_join fs gs in omega (arith, h)

at_join : (fs gs : Fields) → field_at (count fs) (join_fields fs gs) ≡ field_at 0 gs
at_join no_fields gs = refl
at_join (field f fs) gs = at_join fs gs

listings_join : (fs : Fields) (f : Field) → listings (join_fields fs (field f no_fields)) ≡ listings fs ++ listing f
listings_join no_fields f = append_none (listing f)
  where
    append_none : (es : List Element) → es ++ [] ≡ es
    append_none [] = refl
    append_none (e ∷ es) = ap (λ (l : List Element). e ∷ l) (append_none es)
listings_join (field g fs) f = ap (λ (l : List Element). listing g ++ l) (listings_join fs f) ∙ sym (append_assoc (listing g) (listings fs) (listing f))

valid_join : (fs : Fields) (f : Field) → AreValid fs → IsValid f → AreValid (join_fields fs (field f no_fields))
valid_join no_fields f h k = (k, tt)
valid_join (field g fs) f h k = (h.0, valid_join fs f h.1 k)

-- ---- fields besides those at some places

besides_join : (gone : ℕ → Bool) (i : ℕ) (fs gs : Fields) → fields_besides gone i (join_fields fs gs) ≡ join_fields (fields_besides gone i fs) (fields_besides gone (i + count fs) gs)
besides_join gone i no_fields gs = ap (λ (n : ℕ). fields_besides gone n gs) (sym (add-zero i))
besides_join gone i (field f fs) gs = by (gone i) (besides_join gone (suc i) fs gs ∙ ap (λ (n : ℕ). join_fields (fields_besides gone (suc i) fs) (fields_besides gone n gs)) (omega arith))
  where
    by : (b : Bool) → fields_besides gone (suc i) (join_fields fs gs) ≡ join_fields (fields_besides gone (suc i) fs) (fields_besides gone (i + suc (count fs)) gs)
        → cond b (fields_besides gone (suc i) (join_fields fs gs)) (field f (fields_besides gone (suc i) (join_fields fs gs)))
        ≡ join_fields (cond b (fields_besides gone (suc i) fs) (field f (fields_besides gone (suc i) fs))) (fields_besides gone (i + suc (count fs)) gs)
    by true e = e
    by false e = ap (field f) e

one_gone : (gone : ℕ → Bool) (i : ℕ) (f : Field) (fs : Fields) → gone i ≡ true → fields_besides gone i (field f fs) ≡ fields_besides gone (suc i) fs
one_gone gone i f fs h = ap (λ (b : Bool). cond b (fields_besides gone (suc i) fs) (field f (fields_besides gone (suc i) fs))) h

one_kept : (gone : ℕ → Bool) (i : ℕ) (f : Field) (fs : Fields) → gone i ≡ false → fields_besides gone i (field f fs) ≡ field f (fields_besides gone (suc i) fs)
one_kept gone i f fs h = ap (λ (b : Bool). cond b (fields_besides gone (suc i) fs) (field f (fields_besides gone (suc i) fs))) h

-- ---- how many there are

one_if : Bool → ℕ
one_if true = 1
one_if false = 0

count_besides : (gone : ℕ → Bool) (i : ℕ) (fs : Fields) → count (fields_besides gone i fs) + count_gone gone i (count fs) ≡ count fs
count_besides gone i no_fields = refl
count_besides gone i (field f fs) = by (gone i) (count_besides gone (suc i) fs)
  where
    by : (b : Bool) → count (fields_besides gone (suc i) fs) + count_gone gone (suc i) (count fs) ≡ count fs
        → count (cond b (fields_besides gone (suc i) fs) (field f (fields_besides gone (suc i) fs))) + (cond b 1 0 + count_gone gone (suc i) (count fs)) ≡ suc (count fs)
    by true e = omega (arith, e)
    by false e = omega (arith, e)

at_within : (i : ℕ) (fs : Fields) (f : Field) → field_at i fs ≡ Some f → i < count fs
at_within i no_fields f e = cc
at_within zero (field g fs) f e = omega arith
at_within (suc i) (field g fs) f e = let h = at_within i fs f e in omega (arith, h)

pub all_below : (keys : List KeyColumn) (fs : Fields) → AllByRecursion (λ (k : KeyColumn). field_at k.at fs ≡ Some (key_field k)) keys → count_by (λ a. nat_lt a (count fs)) (places_of keys) ≡ length keys
all_below [] fs h = refl
all_below (k ∷ keys) fs h =
    let lt : nat_lt k.at (count fs) ≡ true = lt_true k.at (count fs) (at_within k.at fs (key_field k) h.0) in
    let more = all_below keys fs h.1 in
    let step = sum_by-cons (λ (a : ℕ). cond (nat_lt a (count fs)) 1 0) k.at (places_of keys) in
    let one : ◌≡◌ {A = ℕ} (cond (nat_lt k.at (count fs)) 1 0) 1 = ap (λ (b : Bool). cond {A = ℕ} b 1 0) lt in
    omega (arith, step, more, one)
  where
    lt_true : (a b : ℕ) → a < b → nat_lt a b ≡ true
    lt_true a b h = grind (arith, nat_tests)

-- a table has its keys and the other fields
pub counts : (keys : List KeyColumn) (fs : Fields) → AreKeys keys fs → count fs ≡ count (without_keys keys fs) + length keys
counts keys fs are =
    let all = count_besides (has_key keys) 0 fs in
    let gone = count_places (places_of keys) are.distinct (count fs) in
    let below = all_below keys fs are.there in
    omega (arith, all, gone, below)

-- ---- the key column at a place

pub none_here : (keys : List KeyColumn) (place : ℕ) → key_at place keys ≡ None → has_key keys place ≡ false
none_here [] place h = refl
none_here (k ∷ keys) place h = by (nat_eq k.at place) h (none_here keys place)
  where
    by : (b : Bool) → cond b (Some k) (key_at place keys) ≡ None → (key_at place keys ≡ None → has_key keys place ≡ false) → (b || has_key keys place) ≡ false
    by true e more = cc
    by false e more = more e

pub some_here : (keys : List KeyColumn) (place : ℕ) (k : KeyColumn) → key_at place keys ≡ Some k → has_key keys place ≡ true
some_here [] place k h = cc
some_here (l ∷ keys) place k h = by (nat_eq l.at place) h (some_here keys place k)
  where
    by : (b : Bool) → cond b (Some l) (key_at place keys) ≡ Some k → (key_at place keys ≡ Some k → has_key keys place ≡ true) → (b || has_key keys place) ≡ true
    by true e more = refl
    by false e more = more e

there_at : (keys : List KeyColumn) (place : ℕ) (k : KeyColumn) (fs : Fields) → key_at place keys ≡ Some k
    → AllByRecursion (λ (k : KeyColumn). field_at k.at fs ≡ Some (key_field k)) keys → field_at place fs ≡ Some (key_field k)
there_at [] place k fs h are = cc
there_at (l ∷ keys) place k fs h are = by (nat_eq l.at place) refl h (λ e. there_at keys place k fs e are.1)
  where
    by : (b : Bool) → nat_eq l.at place ≡ b → cond b (Some l) (key_at place keys) ≡ Some k → (key_at place keys ≡ Some k → field_at place fs ≡ Some (key_field k)) → field_at place fs ≡ Some (key_field k)
    by true same e more =
        let is : l ≡ k = same_some l k e in
        subst (λ (n : ℕ). field_at n fs ≡ Some (key_field k)) (eqb-true l.at place same) (are.0 ∙ ap (λ (x : KeyColumn). Some (key_field x)) is)
      where
        same_some : (a b : KeyColumn) → Some a ≡ Some b → a ≡ b
        same_some a b e = cc
    by false same e more = more e

-- ---- the leaf of a key column

type_valid : (kind : KeyKind) → IsLeafType (key_type kind)
unfolding converted_type
type_valid Boolean = record { decided = refl; length = tt; keeps = tt }
type_valid Int32 = record { decided = refl; length = tt; keeps = tt }
type_valid Int64 = record { decided = refl; length = tt; keeps = tt }
type_valid Utf8 = record { decided = refl; length = tt; keeps = tt }

key_valid : (k : KeyColumn) → IsValid (key_field k)
key_valid k = type_valid k.kind

valid_later : (n : ℕ) (fs rest : Fields) (f : Field) → fields_after n fs ≡ field f rest → AreValid fs → IsValid f
valid_later zero fs rest f e h = (subst AreValid e h).0
valid_later (suc n) no_fields rest f e h = cc
valid_later (suc n) (field g fs) rest f e h = valid_later n fs rest f e h.1

after_suc : (n : ℕ) (fs rest : Fields) (f : Field) → fields_after n fs ≡ field f rest → fields_after (suc n) fs ≡ rest
after_suc zero no_fields rest f e = cc
after_suc zero (field g fs) rest f e = cc
after_suc (suc n) no_fields rest f e = cc
after_suc (suc n) (field g fs) rest f e = after_suc n fs rest f e

after_next : (n : ℕ) (fs rest : Fields) (f : Field) → fields_after n fs ≡ field f rest → fields_after (n + 1) fs ≡ rest
after_next n fs rest f e = ap (λ (m : ℕ). fields_after m fs) (let q : n + 1 ≡ suc n = omega arith in q) ∙ after_suc n fs rest f e

first_is : (f g : Field) (fs gs : Fields) → field f fs ≡ field g gs → f ≡ g
first_is f g fs gs e = cc

others_are : (f g : Field) (fs gs : Fields) → field f fs ≡ field g gs → fs ≡ gs
others_are f g fs gs e = cc

-- ---- one more place

module _ (keys : List KeyColumn) (stored : Fields) where
  pub begun : (n : ℕ) → IsMade keys stored 0 0 (group_element root_name None None n ∷ []) n
  begun n = record { made = no_fields; listed = refl; counted = refl; valid = λ h. tt; besides = refl; begins = λ fs are e. (fs, refl, e) }

  pub key_placed : (place next n : ℕ) (out : List Element) (k : KeyColumn) → IsMade keys stored place next out n → key_at place keys ≡ Some k
      → IsMade keys stored (place + 1) next (out ++ listing (key_field k)) n
  key_placed place next n out k m here = record {
    made = join_fields m.made (field (key_field k) no_fields);
    listed = ap (λ (es : List Element). es ++ listing (key_field k)) m.listed ∙ ap (λ (es : List Element). group_element root_name None None n ∷ es) (sym (listings_join m.made (key_field k)));
    counted = (let j = count_join m.made (field (key_field k) no_fields) in let h = m.counted in omega (arith, j, h));
    valid = λ h. valid_join m.made (key_field k) (m.valid h) (key_valid k);
    besides = ap (λ (fs : Fields). join_fields fs (fields_after next stored)) (gone_too ∙ join_none (fields_besides (has_key keys) 0 m.made)) ∙ m.besides;
    begins = λ fs are e. goes fs are (m.begins fs are e);
  }
    where
      has : has_key keys place ≡ true
      has = some_here keys place k here

      at_place : has_key keys (0 + count m.made) ≡ true
      at_place = ap (λ (p : ℕ). has_key keys p) (let z : 0 + count m.made ≡ place = (let h = m.counted in omega (arith, h)) in z) ∙ has

      gone_too : fields_besides (has_key keys) 0 (join_fields m.made (field (key_field k) no_fields)) ≡ join_fields (fields_besides (has_key keys) 0 m.made) no_fields
      gone_too = besides_join (has_key keys) 0 m.made (field (key_field k) no_fields) ∙ ap (join_fields (fields_besides (has_key keys) 0 m.made)) (one_gone (has_key keys) (0 + count m.made) (key_field k) no_fields at_place)

      goes : (fs : Fields) → AreKeys keys fs → (rest : Fields) × (fs ≡ join_fields m.made rest) × (fields_besides (has_key keys) place rest ≡ fields_after next stored)
          → (rest : Fields) × (fs ≡ join_fields (join_fields m.made (field (key_field k) no_fields)) rest) × (fields_besides (has_key keys) (place + 1) rest ≡ fields_after next stored)
      goes fs are (no_fields, split, left) =
          let there : field_at place fs ≡ Some (key_field k) = there_at keys place k fs here are.there in
          let none : field_at place fs ≡ None = ap (λ (p : ℕ). field_at p fs) (sym m.counted) ∙ ap (field_at (count m.made)) split ∙ at_join m.made no_fields in
          absurd (apart (field_at place fs) (key_field k) none there)
        where
          apart : (o : Option Field) (f : Field) → o ≡ None → o ≡ Some f → ⊥
          apart o f p q = cc
      goes fs are (field g rest, split, left) =
          let there : field_at place fs ≡ Some (key_field k) = there_at keys place k fs here are.there in
          let mine : field_at place fs ≡ Some g = ap (λ (p : ℕ). field_at p fs) (sym m.counted) ∙ ap (field_at (count m.made)) split ∙ at_join m.made (field g rest) in
          let same : g ≡ key_field k = same_some (field_at place fs) g (key_field k) mine there in (
            rest,
            split ∙ ap (λ (f : Field). join_fields m.made (field f rest)) same ∙ join_one m.made (key_field k) rest,
            ap (λ (p : ℕ). fields_besides (has_key keys) p rest) (omega arith) ∙ sym (one_gone (has_key keys) place g rest has) ∙ left,
          )
        where
          same_some : (o : Option Field) (f h : Field) → o ≡ Some f → o ≡ Some h → f ≡ h
          same_some o f h p q = cc

  pub other_placed : (place next n : ℕ) (out : List Element) (f : Field) (later : Fields) → IsMade keys stored place next out n → key_at place keys ≡ None → fields_after next stored ≡ field f later
      → IsMade keys stored (place + 1) (next + 1) (out ++ listing f) n
  other_placed place next n out f later m here e = record {
    made = join_fields m.made (field f no_fields);
    listed = ap (λ (es : List Element). es ++ listing f) m.listed ∙ ap (λ (es : List Element). group_element root_name None None n ∷ es) (sym (listings_join m.made f));
    counted = (let j = count_join m.made (field f no_fields) in let h = m.counted in omega (arith, j, h));
    valid = λ h. valid_join m.made f (m.valid h) (valid_later next stored later f e h);
    besides = ap (λ (fs : Fields). join_fields fs (fields_after (next + 1) stored)) kept ∙ ap (join_fields (join_fields (fields_besides (has_key keys) 0 m.made) (field f no_fields))) (after_next next stored later f e)
        ∙ sym (join_one (fields_besides (has_key keys) 0 m.made) f later) ∙ ap (join_fields (fields_besides (has_key keys) 0 m.made)) (sym e) ∙ m.besides;
    begins = λ fs are h. goes fs (m.begins fs are h);
  }
    where
      has : has_key keys place ≡ false
      has = none_here keys place here

      kept : fields_besides (has_key keys) 0 (join_fields m.made (field f no_fields)) ≡ join_fields (fields_besides (has_key keys) 0 m.made) (field f no_fields)
      kept = besides_join (has_key keys) 0 m.made (field f no_fields)
          ∙ ap (join_fields (fields_besides (has_key keys) 0 m.made)) (one_kept (has_key keys) (0 + count m.made) f no_fields (ap (λ (p : ℕ). has_key keys p) (let z : 0 + count m.made ≡ place = (let h = m.counted in omega (arith, h)) in z) ∙ has))

      goes : (fs : Fields) → (rest : Fields) × (fs ≡ join_fields m.made rest) × (fields_besides (has_key keys) place rest ≡ fields_after next stored)
          → (rest : Fields) × (fs ≡ join_fields (join_fields m.made (field f no_fields)) rest) × (fields_besides (has_key keys) (place + 1) rest ≡ fields_after (next + 1) stored)
      goes fs (no_fields, split, left) = absurd (apart f later (left ∙ e))
        where
          apart : (f : Field) (fs : Fields) → no_fields ≡ field f fs → ⊥
          apart f fs p = cc
      goes fs (field g rest, split, left) =
          let both : field g (fields_besides (has_key keys) (suc place) rest) ≡ field f later = sym (one_kept (has_key keys) place g rest has) ∙ left ∙ e in
          let same = first_is g f _ later both in (
            rest,
            split ∙ ap (λ (x : Field). join_fields m.made (field x rest)) same ∙ join_one m.made f rest,
            ap (λ (p : ℕ). fields_besides (has_key keys) p rest) (omega arith) ∙ others_are g f _ later both ∙ sym (after_next next stored later f e),
          )

  nothing_left : (place : ℕ) (rest : Fields) → has_key keys place ≡ false → fields_besides (has_key keys) place rest ≡ no_fields → rest ≡ no_fields
  nothing_left place no_fields h e = refl
  nothing_left place (field g rest) h e = absurd (apart g _ (sym (one_kept (has_key keys) place g rest h) ∙ e))
    where
      apart : (f : Field) (fs : Fields) → field f fs ≡ no_fields → ⊥
      apart f fs p = cc

  -- a place that stays empty
  pub hole : (place next n : ℕ) (out : List Element) → IsMade keys stored place next out n → key_at place keys ≡ None → fields_after next stored ≡ no_fields → place < length keys + count stored
      → (fs : Fields) → AreKeys keys fs → without_keys keys fs ≡ stored → ⊥
  hole place next n out m here e few fs are h = by (m.begins fs are h)
    where
      by : (rest : Fields) × (fs ≡ join_fields m.made rest) × (fields_besides (has_key keys) place rest ≡ fields_after next stored) → ⊥
      by (rest, split, left) =
          let none = nothing_left place rest (none_here keys place here) (left ∙ e) in
          let whole : count fs ≡ place = ap count (split ∙ ap (join_fields m.made) none ∙ join_none m.made) ∙ m.counted in
          let all = counts keys fs are in
          let own : count (without_keys keys fs) ≡ count stored = ap count h in
          omega (arith, whole, all, own, few)

  no_more : (rest : Fields) → count rest ≡ 0 → rest ≡ no_fields
  no_more no_fields h = refl
  no_more (field f rest) h = absurd (omega (arith, h))

  -- all places have their fields
  pub whole : (next n : ℕ) (out : List Element) → IsMade keys stored n next out n → fields_after next stored ≡ no_fields → n ≡ length keys + count stored → IsMadeWhole keys stored out
  whole next n out m e total = record {
    made = m.made;
    listed = m.listed ∙ ap (λ (p : ℕ). group_element root_name None None p ∷ listings m.made) (sym m.counted);
    valid = m.valid;
    besides = sym (join_none (fields_besides (has_key keys) 0 m.made)) ∙ ap (join_fields (fields_besides (has_key keys) 0 m.made)) (sym e) ∙ m.besides;
    alone = λ fs are h. by fs are h (m.begins fs are h);
  }
    where
      by : (fs : Fields) → AreKeys keys fs → without_keys keys fs ≡ stored → (rest : Fields) × (fs ≡ join_fields m.made rest) × (fields_besides (has_key keys) n rest ≡ fields_after next stored) → fs ≡ m.made
      by fs are h (rest, split, left) =
          let size : count fs ≡ count m.made + count rest = ap count split ∙ count_join m.made rest in
          let all = counts keys fs are in
          let own : count (without_keys keys fs) ≡ count stored = ap count h in
          let none = no_more rest (omega (arith, size, all, own, total, m.counted)) in
          split ∙ ap (join_fields m.made) none ∙ join_none m.made

  -- more fields are left than places
  pub unfinished : (next n : ℕ) (out : List Element) (f : Field) (later : Fields) → IsMade keys stored n next out n → fields_after next stored ≡ field f later → n ≡ length keys + count stored
      → (fs : Fields) → AreKeys keys fs → without_keys keys fs ≡ stored → ⊥
  unfinished next n out f later m e total fs are h = by (m.begins fs are h)
    where
      by : (rest : Fields) × (fs ≡ join_fields m.made rest) × (fields_besides (has_key keys) n rest ≡ fields_after next stored) → ⊥
      by (rest, split, left) =
          let size : count fs ≡ count m.made + count rest = ap count split ∙ count_join m.made rest in
          let all = counts keys fs are in
          let own : count (without_keys keys fs) ≡ count stored = ap count h in
          let none = no_more rest (omega (arith, size, all, own, total, m.counted)) in
          apart f later (sym (ap (fields_besides (has_key keys) n) none) ∙ left ∙ e)
        where
          apart : (f : Field) (fs : Fields) → no_fields ≡ field f fs → ⊥
          apart f fs p = cc
