-- The leaves of a table: those of its files, and one of each key column.
use Rattle.std.proofs.Common.{◌≡◌, ℕ, zero, suc, ◌+◌, ◌≤◌, Bool, true, false, ◌||◌, nat_eq, List, [], ◌∷◌, ◌++◌, length, take, drop, max, Some, refl, ap, sym, ◌∙◌, subst, arith, add-zero, eqb-true, length-append, length-drop}
use Rattle.std.specs.Prelude.{cond}
use Rattle.std.specs.List.{AllByRecursion}
use Rattle.std.proofs.lemmas.List.{drop-drop}
use Rattle.bits.specs.declared.refusal.Refusal.{Refusal}
use Rattle.bits.specs.declared.refusal.Refusal.TheVariants as refusal
use Rattle.bits.specs.Refusals.{IsFault}
use Rattle.schema.specs.declared.element.Element.{Element as CodeElement}
use Rattle.schema.specs.Shape.{Field, leaf, fields, Fields, no_fields, field, count}
use Rattle.schema.specs.Stripe.{leaves, leaves_of}
use Rattle.schema.specs.Elements.{Element, element_view, elements_view}
use Rattle.schema.specs.Listed.{listing}
use Rattle.schema.specs.Law.{IsFilled}
use Rattle.schema.specs.Reading.{tall, tallest}
use Rattle.schema.specs.Keys.{KeyColumn, AreKeys, without_keys, places_of, fields_besides, field_at, key_field}
use Rattle.schema.proofs.LeafPlaces.{count_gone, count_places}
use Rattle.schema.specs.inner.Keyed.{has_key}
use Rattle.schema.proofs.FieldViews.{one_more}
use Rattle.schema.proofs.TableFields.{all_below}

pub filled_made : (keys : List KeyColumn) (made stored : Fields) → without_keys keys made ≡ stored → IsFilled stored → IsFilled made
filled_made keys no_fields stored e h = subst IsFilled (sym e) h
filled_made keys (field f fs) stored e h = tt

-- at a key column's place is its leaf
gone_leaf : (keys : List KeyColumn) (fs : Fields) → AllByRecursion (λ (k : KeyColumn). field_at k.at fs ≡ Some (key_field k)) keys → (place : ℕ) → has_key keys place ≡ true → (k : KeyColumn) × (field_at place fs ≡ Some (key_field k))
gone_leaf [] fs are place h = cc
gone_leaf (k ∷ keys) fs are place h = by (nat_eq k.at place) refl h (gone_leaf keys fs are.1 place)
  where
    by : (b : Bool) → nat_eq k.at place ≡ b → (b || has_key keys place) ≡ true → (has_key keys place ≡ true → (k : KeyColumn) × (field_at place fs ≡ Some (key_field k))) → (k : KeyColumn) × (field_at place fs ≡ Some (key_field k))
    by true e h more = (k, subst (λ (n : ℕ). field_at n fs ≡ Some (key_field k)) (eqb-true k.at place e) are.0)
    by false e h more = more h

abbrev AreLeaves : (ℕ → Bool) → ℕ → Fields → Type 0
AreLeaves gone i fs = (place : ℕ) → gone (i + place) ≡ true → (k : KeyColumn) × (field_at place fs ≡ Some (key_field k))

later_leaves : (gone : ℕ → Bool) (i : ℕ) (f : Field) (fs : Fields) → AreLeaves gone i (field f fs) → AreLeaves gone (suc i) fs
later_leaves gone i f fs are place h = are (suc place) (subst (λ (n : ℕ). gone n ≡ true) (omega arith) h)

same_field : (f g : Field) → Some f ≡ Some g → f ≡ g
same_field f g e = cc

leaves_besides : (gone : ℕ → Bool) (i : ℕ) (fs : Fields) → AreLeaves gone i fs → length (leaves_of fs) ≡ length (leaves_of (fields_besides gone i fs)) + count_gone gone i (count fs)
leaves_besides gone i no_fields are = refl
leaves_besides gone i (field f fs) are = by (gone i) refl (leaves_besides gone (suc i) fs (later_leaves gone i f fs are))
  where
    by : (b : Bool) → gone i ≡ b → length (leaves_of fs) ≡ length (leaves_of (fields_besides gone (suc i) fs)) + count_gone gone (suc i) (count fs)
        → length (leaves_of (field f fs)) ≡ length (leaves_of (cond b (fields_besides gone (suc i) fs) (field f (fields_besides gone (suc i) fs)))) + (cond b 1 0 + count_gone gone (suc i) (count fs))
    by true e rest =
        let here = are 0 (subst (λ (n : ℕ). gone n ≡ true) (sym (add-zero i)) e) in
        let one : length (leaves f) ≡ 1 = ap (λ (g : Field). length (leaves g)) (same_field f (key_field here.0) here.1) in
        omega (arith, one_more f fs, one, rest)
    by false e rest = omega (arith, one_more f fs, one_more f (fields_besides gone (suc i) fs), rest)

tallest_besides : (gone : ℕ → Bool) (i : ℕ) (fs : Fields) → AreLeaves gone i fs → tallest (fields_besides gone i fs) ≤ 32 → tallest fs ≤ 32
tallest_besides gone i no_fields are h = h
tallest_besides gone i (field f fs) are h = by (gone i) refl h (tallest_besides gone (suc i) fs (later_leaves gone i f fs are))
  where
    by : (b : Bool) → gone i ≡ b → tallest (cond b (fields_besides gone (suc i) fs) (field f (fields_besides gone (suc i) fs))) ≤ 32
        → (tallest (fields_besides gone (suc i) fs) ≤ 32 → tallest fs ≤ 32) → max (tall f) (tallest fs) ≤ 32
    by true e h rest =
        let here = are 0 (subst (λ (n : ℕ). gone n ≡ true) (sym (add-zero i)) e) in
        let one : tall f ≡ 1 = ap tall (same_field f (key_field here.0) here.1) in
        let more = rest h in
        omega (arith, one, more)
    by false e h rest =
        let low : tallest (fields_besides gone (suc i) fs) ≤ 32 = omega (arith, h) in
        let more = rest low in
        omega (arith, h, more)

key_leaves : (keys : List KeyColumn) (fs : Fields) → AreKeys keys fs → AreLeaves (has_key keys) 0 fs
key_leaves keys fs are place h = gone_leaf keys fs are.there place (subst (λ (n : ℕ). has_key keys n ≡ true) (omega arith) h)

pub table_leaves : (keys : List KeyColumn) (fs : Fields) → AreKeys keys fs → length (leaves_of fs) ≡ length (leaves_of (without_keys keys fs)) + length keys
table_leaves keys fs are =
    let all = leaves_besides (has_key keys) 0 fs (key_leaves keys fs are) in
    let gone = count_places (places_of keys) are.distinct (count fs) in
    let below = all_below keys fs are.there in
    omega (arith, all, gone, below)

pub table_tallest : (keys : List KeyColumn) (fs : Fields) → AreKeys keys fs → tallest (without_keys keys fs) ≤ 32 → tallest fs ≤ 32
table_tallest keys fs are h = tallest_besides (has_key keys) 0 fs (key_leaves keys fs are) h

-- ---- elements of one field among others

pub some_listed : (f : Field) → 1 ≤ length (listing f)
some_listed (leaf n r t) = omega arith
some_listed (fields n r a fs) = omega arith

pub first_of : (xs : List CodeElement) (front rest : List Element) → elements_view xs ≡ front ++ rest → elements_view (take (length front) xs) ≡ front
first_of xs [] rest e = refl
first_of [] (a ∷ front) rest e = cc
first_of (x ∷ xs) (a ∷ front) rest e =
    let more : elements_view xs ≡ front ++ rest = cc in
    let first : element_view x ≡ a = cc in
    (λ i. first i ∷ first_of xs front rest more i)

pub drop_seen : (n : ℕ) (xs : List CodeElement) → elements_view (drop n xs) ≡ drop n (elements_view xs)
drop_seen zero xs = refl
drop_seen (suc n) [] = refl
drop_seen (suc n) (x ∷ xs) = drop_seen n xs

past : (front rest : List Element) → drop (length front) (front ++ rest) ≡ rest
past [] rest = refl
past (a ∷ front) rest = past front rest

pub behind : (n : ℕ) (es front rest : List Element) → drop n es ≡ front ++ rest → drop (n + length front) es ≡ rest
behind n es front rest e = sym (drop-drop (length front) n es) ∙ ap (λ (x : List Element). drop (length front) x) e ∙ past front rest

pub room : (n : ℕ) (es : List Element) (f : Field) (later : List Element) → drop n es ≡ listing f ++ later → n + length (listing f) ≤ length es
room n es f later e =
    let some = some_listed f in
    omega (arith, ap length e, length-drop n es, length-append (listing f) later, some)

pub is_fault : (e : Refusal) → (e ≡ refusal.Limit → ⊥) → (e ≡ refusal.Memory → ⊥) → IsFault e
is_fault refusal.Limit a b = absurd (a refl)
is_fault refusal.Memory a b = absurd (b refl)
is_fault e a b = tt
