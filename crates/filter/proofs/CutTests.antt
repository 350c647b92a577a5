-- A filter over a cut schema.
use Rattle.std.proofs.Common.{◌≡◌, ◌⊎◌, inl, inr, ℕ, zero, suc, Bool, true, false, not, ◌&&◌, ◌||◌, List, [], ◌∷◌, map, Option, Some, None, Result, Ok, Err, IsTrue, refl, ap, sym, ◌∙◌, subst}
use Rattle.std.specs.Prelude.{cond}
use Rattle.std.specs.List.{slice_get, AllByRecursion, list_all, list_any}
use Rattle.std.proofs.lemmas.List.{append-nil}
use Rattle.bits.specs.declared.refusal.Refusal.{Refusal}
use Rattle.schema.specs.Annotations.{order_of}
use Rattle.schema.specs.Values.{ValueTree, null, group, ValueTrees}
use Rattle.schema.specs.Shape.{Field, leaf, fields, Fields, no_fields, field, name_of}
use Rattle.schema.specs.Stripe.{Step, Leaf, Entry, leaves, leaves_from, leaves_of, below, stripe, column, columns}
use Rattle.schema.specs.Law.{IsValid, AreValid, IsSchema, AllDiffer, names}
use Rattle.schema.specs.Cutting.{is_among, cut_to, cut_values, cut_rows, wanted_of, at_places, Shown, shown, CutRowsHaveColumns, CutHasLeaves}
use Rattle.filter.specs.Test.{Test, is_single, steps_of, value_at, value_of}
use Rattle.filter.specs.Deciding.{is_null, passes, holds, satisfies}
use Rattle.filter.specs.Terms.{Term, test_of, then_rest, each_of, tests_of}
use Rattle.filter.specs.Law.{CutFiltersAgree}
use Rattle.filter.proofs.Relations.{satisfies_is}
use Rattle.filter.proofs.Columns.{one}
use Rattle.schema.proofs.LeafPlaces.{get_mapped, of_mapped, Where, in_first, in_second, where_is}
use Rattle.filter.proofs.TermTests.{term_is_at}

-- ---- no two leaves have one path

later_name : (i : ℕ) (fs : Fields) (n : ℕ) (l : Leaf) (x : List ℕ) (rest : List (List ℕ)) → slice_get (leaves_from i fs) n ≡ Some l → AllByRecursion (λ m. x ≡ m → ⊥) (names fs) → l.path ≡ x ∷ rest → ⊥
later_name i no_fields n l x rest h other e = cc
later_name i (field f fs) n l x rest h other e = elim (where_is (map (below i f) (leaves f)) (leaves_from (suc i) fs) n l h) [
  | in_first k ↦ (let m = of_mapped (below i f) (leaves f) n l k in
      let path : name_of f ∷ m.from.path ≡ x ∷ rest = ap (λ (y : Leaf). y.path) (sym m.is) ∙ e in
      let same : x ≡ name_of f = cc in
      other.0 same)
  | in_second m at k ↦ later_name (suc i) fs m l x rest k other.1 e
]

mutual
  leaf_one : (f : Field) → IsValid f → (n m : ℕ) (l k : Leaf) → slice_get (leaves f) n ≡ Some l → slice_get (leaves f) m ≡ Some k → l.path ≡ k.path → l ≡ k
  leaf_one (leaf nm r t) v zero zero l k p q e = cc
  leaf_one (leaf nm r t) v zero (suc m) l k p q e = cc
  leaf_one (leaf nm r t) v (suc n) m l k p q e = cc
  leaf_one (fields nm r a fs) v n m l k p q e = fields_one 0 fs v.0.differ v.1 n m l k p q e

  fields_one : (i : ℕ) (fs : Fields) → AllDiffer (names fs) → AreValid fs → (n m : ℕ) (l k : Leaf) → slice_get (leaves_from i fs) n ≡ Some l → slice_get (leaves_from i fs) m ≡ Some k → l.path ≡ k.path → l ≡ k
  fields_one i no_fields d v n m l k p q e = cc
  fields_one i (field f fs) d v n m l k p q e =
      by (where_is (map (below i f) (leaves f)) (leaves_from (suc i) fs) n l p) (where_is (map (below i f) (leaves f)) (leaves_from (suc i) fs) m k q)
      (λ (a b : ℕ) (x y : Leaf) (u : slice_get (leaves f) a ≡ Some x) (w : slice_get (leaves f) b ≡ Some y) (same : x.path ≡ y.path). leaf_one f v.0 a b x y u w same)
      (λ (a b : ℕ) (u : slice_get (leaves_from (suc i) fs) a ≡ Some l) (w : slice_get (leaves_from (suc i) fs) b ≡ Some k). fields_one (suc i) fs d.1 v.1 a b l k u w e)
    where
      by : Where (map (below i f) (leaves f)) (leaves_from (suc i) fs) n l → Where (map (below i f) (leaves f)) (leaves_from (suc i) fs) m k
          → ((a b : ℕ) (x y : Leaf) → slice_get (leaves f) a ≡ Some x → slice_get (leaves f) b ≡ Some y → x.path ≡ y.path → x ≡ y)
          → ((a b : ℕ) → slice_get (leaves_from (suc i) fs) a ≡ Some l → slice_get (leaves_from (suc i) fs) b ≡ Some k → l ≡ k) → l ≡ k
      by (in_first u) (in_first w) inner later =
          let x = of_mapped (below i f) (leaves f) n l u in
          let y = of_mapped (below i f) (leaves f) m k w in
          let paths : name_of f ∷ x.from.path ≡ name_of f ∷ y.from.path = ap (λ (z : Leaf). z.path) (sym x.is) ∙ e ∙ ap (λ (z : Leaf). z.path) y.is in
          let inside : x.from.path ≡ y.from.path = cc in
          x.is ∙ ap (below i f) (inner n m x.from y.from x.there y.there inside) ∙ sym y.is
      by (in_first u) (in_second b at w) inner later =
          let x = of_mapped (below i f) (leaves f) n l u in
          absurd (later_name (suc i) fs b k (name_of f) x.from.path w d.0 (sym e ∙ ap (λ (z : Leaf). z.path) x.is))
      by (in_second a at u) (in_first w) inner later =
          let y = of_mapped (below i f) (leaves f) m k w in
          absurd (later_name (suc i) fs a l (name_of f) y.from.path u d.0 (e ∙ ap (λ (z : Leaf). z.path) y.is))
      by (in_second a at u) (in_second b also w) inner later = later a b u w

-- ---- leaves that are wanted

wanted_in : {A : Type 0} (w : ℕ → Bool) (i : ℕ) (xs : List A) (k : ℕ) (x : A) → slice_get (wanted_of w i xs) k ≡ Some x → (n : ℕ) × (slice_get xs n ≡ Some x)
wanted_in w i [] k x h = absurd (cc)
wanted_in {A = A} w i (y ∷ xs) k x h = by (w i) k h (λ (m : ℕ) (e : slice_get (wanted_of w (suc i) xs) m ≡ Some x). wanted_in w (suc i) xs m x e)
  where
    by : (b : Bool) (k : ℕ) → slice_get (cond b (y ∷ wanted_of w (suc i) xs) (wanted_of w (suc i) xs)) k ≡ Some x → ((m : ℕ) → slice_get (wanted_of w (suc i) xs) m ≡ Some x → (n : ℕ) × (slice_get xs n ≡ Some x)) → (n : ℕ) × (slice_get (y ∷ xs) n ≡ Some x)
    by true zero h more = (zero, h)
    by true (suc k) h more = let r = more k h in (suc r.0, r.1)
    by false k h more = let r = more k h in (suc r.0, r.1)

wanted_mapped : {A B : Type 0} (f : A → B) (w : ℕ → Bool) (i : ℕ) (xs : List A) → wanted_of w i (map f xs) ≡ map f (wanted_of w i xs)
wanted_mapped f w i [] = refl
wanted_mapped f w i (x ∷ xs) = by (w i) (wanted_mapped f w (suc i) xs)
  where
    by : (b : Bool) → wanted_of w (suc i) (map f xs) ≡ map f (wanted_of w (suc i) xs) → cond b (f x ∷ wanted_of w (suc i) (map f xs)) (wanted_of w (suc i) (map f xs)) ≡ map f (cond b (x ∷ wanted_of w (suc i) xs) (wanted_of w (suc i) xs))
    by true e = ap (λ ys. f x ∷ ys) e
    by false e = e

-- the leaf of the whole that a leaf of the cut is, with the same column
record Whole (places : List ℕ) (fs : Fields) (row : ValueTrees) (l : Leaf) : Type 0 where
  leaf : Leaf
  number : ℕ
  there : slice_get (leaves_of fs) number ≡ Some leaf
  same : shown l ≡ shown leaf
  columns_same : column (cut_values (is_among places) 0 fs row ∷ []) l.steps ≡ column (row ∷ []) leaf.steps

whole_of : CutRowsHaveColumns → CutHasLeaves → (places : List ℕ) (fs : Fields) (row : ValueTrees) (k : ℕ) (l : Leaf) → slice_get (leaves_of (cut_to places fs)) k ≡ Some l → Whole places fs row l
whole_of have are places fs row k l h =
    let seen : slice_get (map shown (at_places places (leaves_of fs))) k ≡ Some (shown l) = ap (λ (xs : List Shown). slice_get xs k) (sym (are places fs)) ∙ get_mapped shown (leaves_of (cut_to places fs)) k l h in
    let from = of_mapped shown (at_places places (leaves_of fs)) k (shown l) seen in
    let among = wanted_in (is_among places) 0 (leaves_of fs) k from.from from.there in
    let cut_column : slice_get (columns (cut_to places fs) (cut_rows places fs (row ∷ []))) k ≡ Some (column (cut_values (is_among places) 0 fs row ∷ []) l.steps)
    = get_mapped (λ (x : Leaf). column (cut_values (is_among places) 0 fs row ∷ []) x.steps) (leaves_of (cut_to places fs)) k l h in
    let whole_column : slice_get (at_places places (columns fs (row ∷ []))) k ≡ Some (column (row ∷ []) from.from.steps)
    = ap (λ (xs : List (List Entry)). slice_get xs k) (wanted_mapped (λ (x : Leaf). column (row ∷ []) x.steps) (is_among places) 0 (leaves_of fs))
    ∙ get_mapped (λ (x : Leaf). column (row ∷ []) x.steps) (at_places places (leaves_of fs)) k from.from from.there in
    let both : Some (column (cut_values (is_among places) 0 fs row ∷ []) l.steps) ≡ Some (column (row ∷ []) from.from.steps)
    = sym cut_column ∙ ap (λ (xs : List (List Entry)). slice_get xs k) (have places fs (row ∷ [])) ∙ whole_column in
    record { leaf = from.from; number = among.0; there = among.1; same = from.is; columns_same = (cc) }

-- ---- one value

value_in : (v : ValueTree) (o : Option ValueTree) → (o ≡ Some v) ⊎ ((o ≡ None) × (v ≡ null)) → (w : ValueTree) → (o ≡ Some w) ⊎ ((o ≡ None) × (w ≡ null)) → v ≡ w
value_in v o (inl p) w (inl q) = let e : Some v ≡ Some w = sym p ∙ q in cc
value_in v o (inl p) w (inr q) = let e : Some v ≡ None = sym p ∙ q.0 in cc
value_in v o (inr p) w (inl q) = let e : None ≡ Some w = sym p.0 ∙ q in cc
value_in v o (inr p) w (inr q) = p.1 ∙ sym q.1

same_value : (p q : List Step) (v w : ValueTrees) → AllByRecursion (λ s. IsTrue (is_single s)) p → AllByRecursion (λ s. IsTrue (is_single s)) q → column (v ∷ []) p ≡ column (w ∷ []) q → value_at p (group v) ≡ value_at q (group w)
same_value p q v w single also e =
    let x = one p single (group v) 0 0 0 in
    let y = one q also (group w) 0 0 0 in
    let stripes : stripe p (group v) 0 0 0 ≡ stripe q (group w) 0 0 0 = sym (append-nil (stripe p (group v) 0 0 0)) ∙ e ∙ append-nil (stripe q (group w) 0 0 0) in
    let entries : x.entry ∷ [] ≡ y.entry ∷ [] = sym x.alone ∙ stripes ∙ y.alone in
    let same : x.entry ≡ y.entry = cc in
    value_in _ x.entry.value x.value _ (subst (λ (n : Entry). (n.value ≡ Some (value_at q (group w))) ⊎ ((n.value ≡ None) × (value_at q (group w) ≡ null))) (sym same) y.value)

-- ---- one test

module _ (have : CutRowsHaveColumns) (are : CutHasLeaves) (places : List ℕ) (fs : Fields) (schema : IsSchema fs) (row : ValueTrees) where
  abbrev cut_row : ValueTrees
  cut_row = cut_values (is_among places) 0 fs row

  test_agrees : (t : Term) (u w : Test) → test_of (leaves_of (cut_to places fs)) t ≡ Ok u → test_of (leaves_of fs) t ≡ Ok w → holds u (value_of u cut_row) ≡ holds w (value_of w row)
  test_agrees t u w p q =
      let a = term_is_at (leaves_of (cut_to places fs)) t u p in
      let b = term_is_at (leaves_of fs) t w q in
      let of_whole = whole_of have are places fs row u.leaf a.of.leaf a.of.there in
      let path : of_whole.leaf.path ≡ b.of.leaf.path = ap (λ (x : Shown). x.path) (sym of_whole.same) ∙ a.path ∙ sym b.path in
      let leaf_same = fields_one 0 fs schema.0.differ schema.1 of_whole.number w.leaf of_whole.leaf b.of.leaf of_whole.there b.of.there path in
      let order : u.order ≡ w.order = a.of.order ∙ ap (λ (x : Shown). order_of x.leaf_type) of_whole.same ∙ ap (λ (x : Leaf). order_of x.leaf_type) leaf_same ∙ sym b.of.order in
      let op : u.op ≡ w.op = a.op ∙ sym b.op in
      let operand : u.operand ≡ w.operand = a.operand ∙ sym b.operand in
      let columns_same : column (cut_row ∷ []) (steps_of u) ≡ column (row ∷ []) (steps_of w)
      = ap (column (cut_row ∷ [])) (sym a.of.way) ∙ of_whole.columns_same ∙ ap (λ (x : Leaf). column (row ∷ []) x.steps) leaf_same ∙ ap (column (row ∷ [])) b.of.way in
      let value : value_of u cut_row ≡ value_of w row = same_value (steps_of u) (steps_of w) cut_row row a.of.single b.of.single columns_same in
      λ i. not (is_null (value i)) && passes (order i) (op i) (value i) (operand i)

-- ---- lists of tests

-- two lists that go together
abbrev Together : {Y Z : Type 0} → (Y → Z → Type 0) → List Y → List Z → Type 0
Together R [] [] = Unit {0}
Together R (y ∷ ys) (z ∷ zs) = R y z × Together R ys zs
Together R _ _ = ⊥

all_together : {X Y Z : Type 0} (f : X → Result Y Refusal) (g : X → Result Z Refusal) (R : Y → Z → Type 0) → ((x : X) (y : Y) (z : Z) → f x ≡ Ok y → g x ≡ Ok z → R y z)
    → (xs : List X) (ys : List Y) (zs : List Z) → each_of f xs ≡ Ok ys → each_of g xs ≡ Ok zs → Together R ys zs
all_together f g R h [] [] [] p q = tt
all_together f g R h [] (y ∷ ys) zs p q = absurd (cc)
all_together f g R h [] [] (z ∷ zs) p q = absurd (cc)
all_together {X = X} {Y = Y} {Z = Z} f g R h (x ∷ xs) ys zs p q = by (f x) refl (each_of f xs) refl ys p (g x) refl (each_of g xs) refl zs q (all_together f g R h xs)
  where
    by : (r : Result Y Refusal) → f x ≡ r → (rs : Result (List Y) Refusal) → each_of f xs ≡ rs → (ys : List Y) → then_rest r rs ≡ Ok ys
        → (s : Result Z Refusal) → g x ≡ s → (ss : Result (List Z) Refusal) → each_of g xs ≡ ss → (zs : List Z) → then_rest s ss ≡ Ok zs
        → ((us : List Y) (vs : List Z) → each_of f xs ≡ Ok us → each_of g xs ≡ Ok vs → Together R us vs) → Together R ys zs
    by (Err e) a rs b ys c s d ss k zs m more = absurd (cc)
    by (Ok y) a (Err e) b ys c s d ss k zs m more = absurd (cc)
    by (Ok y) a (Ok ws) b ys c (Err e) d ss k zs m more = absurd (cc)
    by (Ok y) a (Ok ws) b ys c (Ok z) d (Err e) k zs m more = absurd (cc)
    by (Ok y) a (Ok ws) b ys c (Ok z) d (Ok vs) k zs m more =
        let one_side : y ∷ ws ≡ ys = cc in
        let other_side : z ∷ vs ≡ zs = cc in
        subst (λ (l : List Y). Together R l zs) one_side (subst (λ (l : List Z). Together R (y ∷ ws) l) other_side (h x y z a d, more ws vs b k))

all_same : (p q : Test → Bool) (us ws : List Test) → Together (λ u w. p u ≡ q w) us ws → list_all p us ≡ list_all q ws
all_same p q [] [] h = refl
all_same p q [] (w ∷ ws) h = absurd h
all_same p q (u ∷ us) [] h = absurd h
all_same p q (u ∷ us) (w ∷ ws) h = λ i. h.0 i && all_same p q us ws h.1 i

any_same : (p q : List Test → Bool) (us ws : List (List Test)) → Together (λ u w. p u ≡ q w) us ws → list_any p us ≡ list_any q ws
any_same p q [] [] h = refl
any_same p q [] (w ∷ ws) h = absurd h
any_same p q (u ∷ us) [] h = absurd h
any_same p q (u ∷ us) (w ∷ ws) h = λ i. h.0 i || any_same p q us ws h.1 i

satisfied_same : (v w : ValueTrees) (part whole : List (List Test)) → Together (λ us ws. list_all (λ t. holds t (value_of t v)) us ≡ list_all (λ t. holds t (value_of t w)) ws) part whole → satisfies part v ≡ satisfies whole w
satisfied_same v w [] [] h = refl
satisfied_same v w [] (x ∷ whole) h = absurd h
satisfied_same v w (x ∷ part) [] h = absurd h
satisfied_same v w (x ∷ part) (y ∷ whole) h = any_same (λ us. list_all (λ t. holds t (value_of t v)) us) (λ ws. list_all (λ t. holds t (value_of t w)) ws) (x ∷ part) (y ∷ whole) h

tests_agree : CutRowsHaveColumns → CutHasLeaves → (places : List ℕ) (fs : Fields) (terms : List (List Term)) (whole part : List (List Test)) → IsSchema fs
    → tests_of (leaves_of fs) terms ≡ Ok whole → tests_of (leaves_of (cut_to places fs)) terms ≡ Ok part
    → (row : ValueTrees) → satisfies part (cut_values (is_among places) 0 fs row) ≡ satisfies whole row
tests_agree have are places fs terms whole part schema p q row =
    let cut_row = cut_values (is_among places) 0 fs row in
    satisfied_same cut_row row part whole
    (all_together (each_of (test_of (leaves_of (cut_to places fs)))) (each_of (test_of (leaves_of fs))) _
    (λ ts us ws a b. all_same (λ t. holds t (value_of t cut_row)) (λ t. holds t (value_of t row)) us ws
    (all_together (test_of (leaves_of (cut_to places fs))) (test_of (leaves_of fs)) (λ u w. holds u (value_of u cut_row) ≡ holds w (value_of w row)) (test_agrees have are places fs schema row) ts us ws a b))
    terms part whole q p)

pub cut_filters_agree : CutRowsHaveColumns → CutHasLeaves → CutFiltersAgree
cut_filters_agree have are places fs terms whole part schema p q row =
    let e = tests_agree have are places fs terms whole part schema p q row in
    let cut_row = cut_values (is_among places) 0 fs row in
    (λ h. (satisfies_is whole row).0 (sym e ∙ (satisfies_is part cut_row).1 h), λ h. (satisfies_is part cut_row).0 (e ∙ (satisfies_is whole row).1 h))
