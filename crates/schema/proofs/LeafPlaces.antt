-- Fields, leaves and values at places, with the keys and without them.
use Rattle.std.proofs.Common.{◌≡◌, ℕ, zero, suc, ◌+◌, Bool, true, false, ◌||◌, nat_eq, nat_lt, List, [], ◌∷◌, ◌++◌, length, map, Some, refl, ap, sym, ◌∙◌, subst, arith, add-zero, eqb-true}
use Rattle.std.specs.Prelude.{cond, count_by}
use Rattle.std.specs.List.{slice_get}
use Rattle.std.proofs.lemmas.Bool.Decides.{nat_tests}
use Rattle.std.proofs.lemmas.List.Sums.{sum_by-cons}
use Rattle.lists.proofs.Slices.{slice_get_append as get_front}
use Rattle.lists.proofs.Lists.{length_map as length_mapped}
use Rattle.schema.specs.Values.{null, ValueTrees, no_values, value as item, member_at}
use Rattle.schema.specs.Shape.{Field, Fields, no_fields, field}
use Rattle.schema.specs.Stripe.{Leaf, leaves, leaves_from, below}
use Rattle.schema.specs.Cutting.{is_among}
use Rattle.schema.specs.Keys.{AreDistinct, field_at, fields_besides, values_besides}

abbrev pub one_if : Bool → ℕ
one_if b = cond b 1 0

-- where a place comes to stand, and how many places before it go
abbrev pub moved : (ℕ → Bool) → ℕ → ℕ → ℕ
moved gone i zero = zero
moved gone i (suc p) = cond (gone i) (moved gone (suc i) p) (suc (moved gone (suc i) p))

abbrev pub count_gone : (ℕ → Bool) → ℕ → ℕ → ℕ
count_gone gone i zero = 0
count_gone gone i (suc p) = one_if (gone i) + count_gone gone (suc i) p

-- how many leaves the fields before a place have
abbrev pub leaves_before : ℕ → Fields → ℕ
leaves_before zero fs = 0
leaves_before (suc p) no_fields = 0
leaves_before (suc p) (field f fs) = length (leaves f) + leaves_before p fs

-- ---- values

member_none : (p : ℕ) → member_at p no_values ≡ null
member_none zero = refl
member_none (suc p) = refl

pub value_moved : (gone : ℕ → Bool) (i p : ℕ) (row : ValueTrees) → gone (i + p) ≡ false → member_at (moved gone i p) (values_besides gone i row) ≡ member_at p row
value_moved gone i p no_values h = member_none (moved gone i p) ∙ sym (member_none p)
value_moved gone i zero (item v vs) h = ap (λ (b : Bool). member_at zero (cond b (values_besides gone (suc i) vs) (item v (values_besides gone (suc i) vs)))) (sym (ap gone (add-zero i)) ∙ h)
value_moved gone i (suc p) (item v vs) h = by (gone i) (value_moved gone (suc i) p vs (subst (λ (n : ℕ). gone n ≡ false) (omega arith) h))
  where
    by : (b : Bool) → member_at (moved gone (suc i) p) (values_besides gone (suc i) vs) ≡ member_at p vs
        → member_at (cond b (moved gone (suc i) p) (suc (moved gone (suc i) p))) (cond b (values_besides gone (suc i) vs) (item v (values_besides gone (suc i) vs))) ≡ member_at p vs
    by true k = k
    by false k = k

-- ---- fields

-- a field that goes has one leaf
abbrev pub HaveOneLeaf : (ℕ → Bool) → ℕ → Fields → Type 0
HaveOneLeaf gone i fs = (p : ℕ) → gone (i + p) ≡ true → (f : Field) → field_at p fs ≡ Some f → length (leaves f) ≡ 1

pub record Stays (gone : ℕ → Bool) (i p : ℕ) (fs : Fields) (f : Field) : Type 0 where
  pub there : field_at (moved gone i p) (fields_besides gone i fs) ≡ Some f
  pub counted : leaves_before (moved gone i p) (fields_besides gone i fs) + count_gone gone i p ≡ leaves_before p fs

pub field_stays : (gone : ℕ → Bool) (i p : ℕ) (fs : Fields) (f : Field) → HaveOneLeaf gone i fs → field_at p fs ≡ Some f → gone (i + p) ≡ false → Stays gone i p fs f
field_stays gone i zero no_fields f one h kept = absurd (cc)
field_stays gone i (suc p) no_fields f one h kept = absurd (cc)
field_stays gone i zero (field g gs) f one h kept = record {
  there = ap (λ (b : Bool). field_at zero (cond b (fields_besides gone (suc i) gs) (field g (fields_besides gone (suc i) gs)))) (sym (ap gone (add-zero i)) ∙ kept) ∙ h;
  counted = refl;
}
field_stays gone i (suc p) (field g gs) f one h kept =
    let later = λ (q : ℕ) (goes : gone (suc i + q) ≡ true) (x : Field) (at : field_at q gs ≡ Some x). one (suc q) (subst (λ (n : ℕ). gone n ≡ true) (omega arith) goes) x at in
    let rest = field_stays gone (suc i) p gs f later h (subst (λ (n : ℕ). gone n ≡ false) (omega arith) kept) in
    let both = by (gone i) refl rest in
    record { there = both.0; counted = both.1 }
  where
    by : (b : Bool) → gone i ≡ b → Stays gone (suc i) p gs f
        → (field_at (cond b (moved gone (suc i) p) (suc (moved gone (suc i) p))) (cond b (fields_besides gone (suc i) gs) (field g (fields_besides gone (suc i) gs))) ≡ Some f)
        × (leaves_before (cond b (moved gone (suc i) p) (suc (moved gone (suc i) p))) (cond b (fields_besides gone (suc i) gs) (field g (fields_besides gone (suc i) gs))) + (one_if b + count_gone gone (suc i) p) ≡ length (leaves g) + leaves_before p gs)
    by true e rest =
        let single : length (leaves g) ≡ 1 = one zero (ap gone (add-zero i) ∙ e) g refl in
        (rest.there, omega (arith, rest.counted, single))
    by false e rest = (rest.there, omega (arith, rest.counted))

-- ---- leaves

-- a leaf is one of a field's
pub record IsAt (i n : ℕ) (fs : Fields) (l : Leaf) : Type 0 where
  pub place : ℕ
  pub of : Field
  pub inner : ℕ
  pub own : Leaf
  pub there : field_at place fs ≡ Some of
  pub among : slice_get (leaves of) inner ≡ Some own
  pub is : l ≡ below (i + place) of own
  pub counted : n ≡ leaves_before place fs + inner

pub get_mapped : {A B : Type 0} (f : A → B) (xs : List A) (n : ℕ) (x : A) → slice_get xs n ≡ Some x → slice_get (map f xs) n ≡ Some (f x)
get_mapped f [] n x h = absurd (cc)
get_mapped f (y ∷ xs) zero x h = let e : y ≡ x = cc in ap (λ z. Some (f z)) e
get_mapped f (y ∷ xs) (suc n) x h = get_mapped f xs n x h

pub get_behind : {A : Type 0} (xs ys : List A) (n : ℕ) → slice_get (xs ++ ys) (length xs + n) ≡ slice_get ys n
get_behind [] ys n = let e : 0 + n ≡ n = omega arith in rw e refl
get_behind (x ∷ xs) ys n = let e : suc (length xs) + n ≡ suc (length xs + n) = omega arith in rw e (get_behind xs ys n)

-- a leaf of a field stands among the leaves of the fields
pub leaf_stands : (i p m : ℕ) (fs : Fields) (f : Field) (l : Leaf) → field_at p fs ≡ Some f → slice_get (leaves f) m ≡ Some l → slice_get (leaves_from i fs) (leaves_before p fs + m) ≡ Some (below (i + p) f l)
leaf_stands i zero m no_fields f l h k = absurd (cc)
leaf_stands i (suc p) m no_fields f l h k = absurd (cc)
leaf_stands i zero m (field g gs) f l h k =
    let same : g ≡ f = cc in
    let here : slice_get (map (below i g) (leaves g)) m ≡ Some (below i g l) = get_mapped (below i g) (leaves g) m l (subst (λ (x : Field). slice_get (leaves x) m ≡ Some l) (sym same) k) in
    let first = get_front (map (below i g) (leaves g)) (leaves_from (suc i) gs) m (below i g l) here in
    let e : 0 + m ≡ m = omega arith in
    rw e (first ∙ ap (λ (x : Field). Some (below i x l)) same ∙ ap (λ (n : ℕ). Some (below n f l)) (sym (add-zero i)))
leaf_stands i (suc p) m (field g gs) f l h k =
    let rest = leaf_stands (suc i) p m gs f l h k in
    let count = length_mapped (below i g) (leaves g) in
    let e : (length (leaves g) + leaves_before p gs) + m ≡ length (map (below i g) (leaves g)) + (leaves_before p gs + m) = omega (arith, count) in
    let at : suc i + p ≡ i + suc p = omega arith in
    rw e (get_behind (map (below i g) (leaves g)) (leaves_from (suc i) gs) (leaves_before p gs + m) ∙ rest ∙ ap (λ (n : ℕ). Some (below n f l)) at)

-- either in the first list, or behind it
pub data Where {A : Type 0} (xs ys : List A) (n : ℕ) (x : A) : Type 0 where
  in_first : slice_get xs n ≡ Some x → Where xs ys n x
  in_second : (m : ℕ) → n ≡ length xs + m → slice_get ys m ≡ Some x → Where xs ys n x

pub where_is : {A : Type 0} (xs ys : List A) (n : ℕ) (x : A) → slice_get (xs ++ ys) n ≡ Some x → Where xs ys n x
where_is [] ys n x h = in_second n (omega arith) h
where_is (y ∷ xs) ys zero x h = in_first h
where_is (y ∷ xs) ys (suc n) x h = elim (where_is xs ys n x h) [
  | in_first k ↦ in_first k
  | in_second m e k ↦ in_second m (omega (arith, e)) k
]

pub record Mapped {A B : Type 0} (f : A → B) (xs : List A) (n : ℕ) (y : B) : Type 0 where
  pub from : A
  pub there : slice_get xs n ≡ Some from
  pub is : y ≡ f from

pub of_mapped : {A B : Type 0} (f : A → B) (xs : List A) (n : ℕ) (y : B) → slice_get (map f xs) n ≡ Some y → Mapped f xs n y
of_mapped f [] n y h = absurd (cc)
of_mapped f (x ∷ xs) zero y h = record { from = x; there = refl; is = let e : y ≡ f x = cc in e }
of_mapped f (x ∷ xs) (suc n) y h = let m = of_mapped f xs n y h in record { from = m.from; there = m.there; is = m.is }

pub leaf_is_at : (i n : ℕ) (fs : Fields) (l : Leaf) → slice_get (leaves_from i fs) n ≡ Some l → IsAt i n fs l
leaf_is_at i n no_fields l h = absurd (cc)
leaf_is_at i n (field f fs) l h = by (where_is (map (below i f) (leaves f)) (leaves_from (suc i) fs) n l h) (λ (m : ℕ) (k : slice_get (leaves_from (suc i) fs) m ≡ Some l). leaf_is_at (suc i) m fs l k)
  where
    by : Where (map (below i f) (leaves f)) (leaves_from (suc i) fs) n l → ((m : ℕ) → slice_get (leaves_from (suc i) fs) m ≡ Some l → IsAt (suc i) m fs l) → IsAt i n (field f fs) l
    by (in_first k) more =
        let m = of_mapped (below i f) (leaves f) n l k in
        record { place = 0; of = f; inner = n; own = m.from; there = refl; among = m.there; is = m.is ∙ ap (λ (q : ℕ). below q f m.from) (sym (add-zero i)); counted = omega arith }
    by (in_second m e k) more =
        let a = more m k in
        let count = length_mapped (below i f) (leaves f) in
        let at : suc i + a.place ≡ i + suc a.place = omega arith in
        record { place = suc a.place; of = a.of; inner = a.inner; own = a.own; there = a.there; among = a.among; is = a.is ∙ ap (λ (q : ℕ). below q a.of a.own) at; counted = omega (arith, e, count, a.counted) }

-- ---- counting places

count_gone_more : (gone : ℕ → Bool) (i p : ℕ) → count_gone gone i (suc p) ≡ count_gone gone i p + one_if (gone (i + p))
count_gone_more gone i zero = let e : one_if (gone i) ≡ one_if (gone (i + 0)) = ap (λ (n : ℕ). one_if (gone n)) (sym (add-zero i)) in omega (arith, e)
count_gone_more gone i (suc p) =
    let rest = count_gone_more gone (suc i) p in
    let at : suc i + p ≡ i + suc p = omega arith in
    let e : one_if (gone (suc i + p)) ≡ one_if (gone (i + suc p)) = ap (λ (n : ℕ). one_if (gone n)) at in
    omega (arith, rest, e)

none_below : (xs : List ℕ) → count_by (λ a. nat_lt a 0) xs ≡ 0
none_below [] = refl
none_below (a ∷ xs) =
    let no : nat_lt a 0 ≡ false = grind (arith, nat_tests) in
    sum_by-cons (λ (b : ℕ). one_if (nat_lt b 0)) a xs ∙ (let e : one_if (nat_lt a 0) ≡ 0 = ap (λ (t : Bool). one_if t) no in let rest = none_below xs in omega (arith, e, rest))

one_split : (a q : ℕ) → one_if (nat_lt a (suc q)) ≡ one_if (nat_lt a q) + one_if (nat_eq a q)
one_split a q = grind (arith, nat_tests)

split_below : (xs : List ℕ) (q : ℕ) → count_by (λ a. nat_lt a (suc q)) xs ≡ count_by (λ a. nat_lt a q) xs + count_by (λ a. nat_eq a q) xs
split_below [] q = refl
split_below (a ∷ xs) q =
    let x = sum_by-cons (λ (b : ℕ). one_if (nat_lt b (suc q))) a xs in
    let y = sum_by-cons (λ (b : ℕ). one_if (nat_lt b q)) a xs in
    let z = sum_by-cons (λ (b : ℕ). one_if (nat_eq b q)) a xs in
    omega (arith, x, y, z, one_split a q, split_below xs q)

once : (xs : List ℕ) → AreDistinct xs → (q : ℕ) → count_by (λ a. nat_eq a q) xs ≡ one_if (is_among xs q)
once [] d q = refl
once (a ∷ xs) d q = sum_by-cons (λ (b : ℕ). one_if (nat_eq b q)) a xs ∙ by (nat_eq a q) refl (once xs d.1 q)
  where
    by : (b : Bool) → nat_eq a q ≡ b → count_by (λ c. nat_eq c q) xs ≡ one_if (is_among xs q) → one_if b + count_by (λ c. nat_eq c q) xs ≡ one_if (b || is_among xs q)
    by true e rest =
        let none : is_among xs q ≡ false = subst (λ (n : ℕ). is_among xs n ≡ false) (eqb-true a q e) d.0 in
        let zero_more : one_if (is_among xs q) ≡ 0 = ap (λ (t : Bool). one_if t) none in
        omega (arith, rest, zero_more)
    by false e rest = omega (arith, rest)

-- the places below one are those that go before it
pub count_places : (xs : List ℕ) → AreDistinct xs → (p : ℕ) → count_by (λ a. nat_lt a p) xs ≡ count_gone (is_among xs) 0 p
count_places xs d zero = none_below xs
count_places xs d (suc q) =
    let at : 0 + q ≡ q = omega arith in
    let e : one_if (is_among xs (0 + q)) ≡ one_if (is_among xs q) = ap (λ (n : ℕ). one_if (is_among xs n)) at in
    omega (arith, split_below xs q, once xs d q, count_places xs d q, count_gone_more (is_among xs) 0 q, e)
