-- The columns determine the rows.
use Rattle.std.proofs.Common.{ℕ, ◌≡◌, ◌+◌, ◌≤◌, Bool, true, List, [], ◌∷◌, ◌++◌, inl, inr, refl, ap, subst, sym, ◌∙◌, Option, Some, None, suc, arith, append_assoc}
use Rattle.std.proofs.lemmas.Bool.{and_parts, false≢true}
use Rattle.std.proofs.lemmas.List.{append_cancel_left}
use Rattle.schema.specs.declared.value.Repetition.{Repetition}
use Rattle.schema.specs.declared.value.Repetition.TheVariants.{Required, Optional, Repeated}
use Rattle.schema.specs.Values.{ValueTree, group, list, ValueTrees, no_values, value as item, each, member, member_at}
use Rattle.schema.specs.Shape.{Field, leaf, fields, Fields, no_fields, field, repetition_of}
use Rattle.schema.specs.Fits.{fits, fits_each, fits_as, fits_leaf, is_group, RowsFit}
use Rattle.schema.specs.Stripe.{Entry, entry, Striping, stripe, stripe_as, list_items, later_items, leaves_from, column}
use Rattle.schema.specs.Law.{IsValid, AreValid, IsSchema, ColumnsDetermineRows}
use Rattle.schema.proofs.LeafLaws.{Way, IsLeaf, IsLeafFrom, map-same_at, leaf_is_listed_from, some_leaf_from, Starts, AlwaysStarts, Starts-append, starts_as, when_optional, when_repeated, when_group}

-- the head of an equation of entries
heads : (e f : Entry) (xs ys : List Entry) → e ∷ xs ≡ f ∷ ys → e ≡ f
heads e f xs ys h = cc

-- an entry of a lower definition level, or of another repetition level, is no such start
no_deeper : (r d k : ℕ) (o : Option ValueTree) (a es b : List Entry) → Starts r (suc d) es → entry r d o ++ a ≡ es ++ b → ⊥
no_deeper r d k o a [] b s h = s
no_deeper r d k o a (e ∷ es) b s h =
    let same : d ≡ e.definition = ap (λ x. x.definition) (heads _ _ _ _ h) in
    omega (arith, s.1)

-- what comes behind an item begins with no higher level than this
abbrev pub Ends : ℕ → List Entry → Type 0
Ends k [] = Unit {0}
Ends k (e ∷ es) = e.repetition ≤ k

pub Ends-start : (k r d : ℕ) (xs ys : List Entry) → r ≤ k → Starts r d xs → Ends k (xs ++ ys)
Ends-start k r d [] ys h s = absurd s
Ends-start k r d (x ∷ xs) ys h s = omega (arith, s.0)

pub Ends-weaker : (k : ℕ) (xs : List Entry) → Ends k xs → Ends (suc k) xs
Ends-weaker k [] h = tt
Ends-weaker k (x ∷ xs) h = omega (arith, h)

no_item : (k d : ℕ) (a es b : List Entry) → Ends k a → Starts (suc k) d es → a ≡ es ++ b → ⊥
no_item k d a [] b e s h = s
no_item k d [] (x ∷ es) b e s h = cc
no_item k d (y ∷ a) (x ∷ es) b e s h =
    let same : y.repetition ≡ x.repetition = ap (λ x. x.repetition) (heads _ _ _ _ h) in
    omega (arith, s.0, e)

-- the entries at the leaves, followed by what ends an item, determine the value
abbrev pub Determines : (Way → Type 0) → (ValueTree → Bool) → (Way → Striping) → Type 0
Determines L P S = (v w : ValueTree) → P v ≡ true → P w ≡ true → (r d k : ℕ) (a b : Way → List Entry)
    → ((p : Way) → L p → Ends k (a p)) → ((p : Way) → L p → Ends k (b p))
    → ((p : Way) → L p → S p v r d k ++ a p ≡ S p w r d k ++ b p) → v ≡ w

pub later_ends : (L : Way → Type 0) (P : ValueTree → Bool) (S : Way → Striping) → AlwaysStarts L P S
    → (vs : ValueTrees) → each P vs ≡ true → (d k : ℕ) (a : Way → List Entry) → ((p : Way) → L p → Ends k (a p))
    → (p : Way) → L p → Ends (suc k) (later_items (S p) vs d (suc k) ++ a p)
later_ends L P S s no_values h d k a e p l = Ends-weaker k (a p) (e p l)
later_ends L P S s (item v vs) h d k a e p l =
    let parts = and_parts (P v) (each P vs) h in
    subst (Ends (suc k)) (sym (append_assoc (S p v (suc k) d (suc k)) _ _)) (Ends-start (suc k) (suc k) d _ _ (omega arith) (s p l v parts.0 (suc k) d (suc k)))

-- one item off the front of two equal columns
same_item : (L : Way → Type 0) (P : ValueTree → Bool) (S : Way → Striping) → AlwaysStarts L P S → Determines L P S
    → (v w : ValueTree) (vs ws : ValueTrees) → P v ≡ true → P w ≡ true → each P vs ≡ true → each P ws ≡ true
    → (r d k : ℕ) (a b : Way → List Entry) → ((p : Way) → L p → Ends k (a p)) → ((p : Way) → L p → Ends k (b p))
    → ((p : Way) → L p → (S p v r d (suc k) ++ later_items (S p) vs d (suc k)) ++ a p ≡ (S p w r d (suc k) ++ later_items (S p) ws d (suc k)) ++ b p)
    → (v ≡ w) × ((p : Way) → L p → later_items (S p) vs d (suc k) ++ a p ≡ later_items (S p) ws d (suc k) ++ b p)
same_item L P S s det v w vs ws pv pw pvs pws r d k a b ea eb h =
    let regrouped = λ (p : Way) (l : L p). sym (append_assoc (S p v r d (suc k)) _ _) ∙ h p l ∙ append_assoc (S p w r d (suc k)) _ _ in
    let same : v ≡ w = det v w pv pw r d (suc k) (λ p. later_items (S p) vs d (suc k) ++ a p) (λ p. later_items (S p) ws d (suc k) ++ b p)
    (later_ends L P S s vs pvs d k a ea) (later_ends L P S s ws pws d k b eb) regrouped in
    (same, λ p l. append_cancel_left (S p v r d (suc k)) _ _ (regrouped p l ∙ ap (λ t. S p t r d (suc k) ++ (later_items (S p) ws d (suc k) ++ b p)) (sym same)))

same_later : (L : Way → Type 0) (P : ValueTree → Bool) (S : Way → Striping) → ((p : Way) × L p) → AlwaysStarts L P S → Determines L P S
    → (vs ws : ValueTrees) → each P vs ≡ true → each P ws ≡ true → (d k : ℕ) (a b : Way → List Entry)
    → ((p : Way) → L p → Ends k (a p)) → ((p : Way) → L p → Ends k (b p))
    → ((p : Way) → L p → later_items (S p) vs d (suc k) ++ a p ≡ later_items (S p) ws d (suc k) ++ b p) → vs ≡ ws
same_later L P S some s det no_values no_values pv pw d k a b ea eb h = refl
same_later L P S some s det no_values (item w ws) pv pw d k a b ea eb h =
    let parts = and_parts (P w) (each P ws) pw in
    absurd (no_item k d (a some.0) _ _ (ea some.0 some.1) (Starts-append (suc k) d _ (later_items (S some.0) ws d (suc k)) (s some.0 some.1 w parts.0 (suc k) d (suc k))) (h some.0 some.1))
same_later L P S some s det (item v vs) no_values pv pw d k a b ea eb h =
    let parts = and_parts (P v) (each P vs) pv in
    absurd (no_item k d (b some.0) _ _ (eb some.0 some.1) (Starts-append (suc k) d _ (later_items (S some.0) vs d (suc k)) (s some.0 some.1 v parts.0 (suc k) d (suc k))) (sym (h some.0 some.1)))
same_later L P S some s det (item v vs) (item w ws) pv pw d k a b ea eb h =
    let (pv0, pvs) = and_parts (P v) (each P vs) pv in
    let (pw0, pws) = and_parts (P w) (each P ws) pw in
    let first = same_item L P S s det v w vs ws pv0 pw0 pvs pws (suc k) d k a b ea eb h in
    let rest : vs ≡ ws = same_later L P S some s det vs ws pvs pws d k a b ea eb first.1 in
    ap (λ t. item t vs) first.0 ∙ ap (item w) rest

same_list : (L : Way → Type 0) (P : ValueTree → Bool) (S : Way → Striping) → ((p : Way) × L p) → AlwaysStarts L P S → Determines L P S
    → (vs ws : ValueTrees) → each P vs ≡ true → each P ws ≡ true → (r d k : ℕ) (a b : Way → List Entry)
    → ((p : Way) → L p → Ends k (a p)) → ((p : Way) → L p → Ends k (b p))
    → ((p : Way) → L p → list_items (S p) vs r d k ++ a p ≡ list_items (S p) ws r d k ++ b p) → vs ≡ ws
same_list L P S some s det no_values no_values pv pw r d k a b ea eb h = refl
same_list L P S some s det no_values (item w ws) pv pw r d k a b ea eb h =
    let parts = and_parts (P w) (each P ws) pw in
    absurd (no_deeper r d k None (a some.0) _ _ (Starts-append r (suc d) _ (later_items (S some.0) ws (suc d) (suc k)) (s some.0 some.1 w parts.0 r (suc d) (suc k))) (h some.0 some.1))
same_list L P S some s det (item v vs) no_values pv pw r d k a b ea eb h =
    let parts = and_parts (P v) (each P vs) pv in
    absurd (no_deeper r d k None (b some.0) _ _ (Starts-append r (suc d) _ (later_items (S some.0) vs (suc d) (suc k)) (s some.0 some.1 v parts.0 r (suc d) (suc k))) (sym (h some.0 some.1)))
same_list L P S some s det (item v vs) (item w ws) pv pw r d k a b ea eb h =
    let (pv0, pvs) = and_parts (P v) (each P vs) pv in
    let (pw0, pws) = and_parts (P w) (each P ws) pw in
    let first = same_item L P S s det v w vs ws pv0 pw0 pvs pws r (suc d) k a b ea eb h in
    let rest : vs ≡ ws = same_later L P S some s det vs ws pvs pws (suc d) k a b ea eb first.1 in
    ap (λ t. item t vs) first.0 ∙ ap (item w) rest

optional_differs : (L : Way → Type 0) (P : ValueTree → Bool) (S : Way → Striping) → ((p : Way) × L p) → AlwaysStarts L P S
    → (w : ValueTree) → P w ≡ true → (r d k : ℕ) (a b : Way → List Entry)
    → ((p : Way) → L p → entry r d None ++ a p ≡ S p w r (suc d) k ++ b p) → ⊥
optional_differs L P S some s w pw r d k a b h = no_deeper r d k None (a some.0) _ _ (s some.0 some.1 w pw r (suc d) k) (h some.0 some.1)

determines_as : (x : Repetition) (L : Way → Type 0) (P : ValueTree → Bool) (S : Way → Striping) → ((p : Way) × L p) → AlwaysStarts L P S → Determines L P S
    → Determines L (fits_as x P) (λ p. stripe_as x (S p))
determines_as Required L P S some s det v w pv pw r d k a b ea eb h = det v w pv pw r d k a b ea eb h
determines_as Optional L P S some s det v w pv pw r d k a b ea eb h =
    elim (when_optional v) [
      | inl ev ↦ elim (when_optional w) [
        | inl ew ↦ ev ∙ sym ew
        | inr ow ↦ absurd (optional_differs L P S some s w (sym (ow.1 P) ∙ pw) r d k a b
            (λ p l. ap (λ t. stripe_as Optional (S p) t r d k ++ a p) (sym ev) ∙ h p l ∙ ap (λ t. t ++ b p) (ow.0 (S p) r d k)))
      ]
      | inr ov ↦ elim (when_optional w) [
        | inl ew ↦ absurd (optional_differs L P S some s v (sym (ov.1 P) ∙ pv) r d k b a
            (λ p l. ap (λ t. stripe_as Optional (S p) t r d k ++ b p) (sym ew) ∙ sym (h p l) ∙ ap (λ t. t ++ a p) (ov.0 (S p) r d k)))
        | inr ow ↦ det v w (sym (ov.1 P) ∙ pv) (sym (ow.1 P) ∙ pw) r (suc d) k a b ea eb
            (λ p l. ap (λ t. t ++ a p) (sym (ov.0 (S p) r d k)) ∙ h p l ∙ ap (λ t. t ++ b p) (ow.0 (S p) r d k))
      ]
    ]
determines_as Repeated L P S some s det v w pv pw r d k a b ea eb h =
    let (vs, fv) = when_repeated v P pv in
    let (ws, fw) = when_repeated w P pw in
    fv.0 ∙ ap list (same_list L P S some s det vs ws fv.1 fw.1 r d k a b ea eb
    (λ p l. ap (λ t. stripe_as Repeated (S p) t r d k ++ a p) (sym fv.0) ∙ h p l ∙ ap (λ t. stripe_as Repeated (S p) t r d k ++ b p) fw.0)) ∙ sym fw.0

-- the members of V from a place on
abbrev pub At : ℕ → ValueTree → ValueTrees → Type 0
At i V vs = (j : ℕ) → member (i + j) V ≡ member_at j vs

pub At-first : (i : ℕ) (V v : ValueTree) (vs : ValueTrees) → At i V (item v vs) → member i V ≡ v
At-first i V v vs h = let e : i ≡ i + 0 = omega arith in ap (λ n. member n V) e ∙ h 0

pub At-next : (i : ℕ) (V v : ValueTree) (vs : ValueTrees) → At i V (item v vs) → At (suc i) V vs
At-next i V v vs h j = let e : suc i + j ≡ i + suc j = omega arith in ap (λ n. member n V) e ∙ h (suc j)

pub At-whole : (vs : ValueTrees) → At 0 (group vs) vs
At-whole vs j = let e : 0 + j ≡ j = omega arith in ap (λ n. member n (group vs)) e

mutual
  pub starts_at : (f : Field) → AlwaysStarts (IsLeaf f) (fits f) (λ p. stripe_as (repetition_of f) (stripe p))
  starts_at (leaf n r k) = starts_as r (λ p. p ≡ []) (fits_leaf k) stripe (λ p l v h r d k. subst (λ q. Starts r d (stripe q v r d k)) (sym l) (refl, omega arith))
  starts_at (fields n r annotated fs) = starts_as r (λ p. IsLeafFrom fs 0 p) (is_group (fits_each fs)) stripe
      (λ p l v h r d k.
      let g = when_group v (fits_each fs) h in
      subst (λ t. Starts r d (stripe p t r d k)) (sym g.1.0) (starts_each fs 0 p l (group g.0) g.0 g.1.1 (At-whole g.0) r d k))

  pub starts_each : (fs : Fields) (i : ℕ) (p : Way) → IsLeafFrom fs i p → (V : ValueTree) (vs : ValueTrees) → fits_each fs vs ≡ true → At i V vs → (r d k : ℕ) → Starts r d (stripe p V r d k)
  starts_each no_fields i p l V vs h at r d k = absurd l
  starts_each (field f fs) i p l V no_values h at r d k = absurd (false≢true h)
  starts_each (field f fs) i p (inl (q, l)) V (item v vs) h at r d k =
      let parts = and_parts (fits f v) (fits_each fs vs) h in
      subst (λ t. Starts r d (stripe t V r d k)) (sym l.1)
      (subst (λ t. Starts r d (stripe_as (repetition_of f) (stripe q) t r d k)) (sym (At-first i V v vs at)) (starts_at f q l.0 v parts.0 r d k))
  starts_each (field f fs) i p (inr l) V (item v vs) h at r d k =
      let parts = and_parts (fits f v) (fits_each fs vs) h in
      starts_each fs (suc i) p l V vs parts.1 (At-next i V v vs at) r d k

some_same : (v w : ValueTree) (r d : ℕ) (a b : List Entry) → entry r d (Some v) ++ a ≡ entry r d (Some w) ++ b → v ≡ w
some_same v w r d a b h = let e : Some v ≡ Some w = ap (λ x. x.value) (heads _ _ _ _ h) in cc

mutual
  pub determined : (f : Field) → IsValid f → Determines (IsLeaf f) (fits f) (λ p. stripe_as (repetition_of f) (stripe p))
  determined (leaf n x t) g = determines_as x (λ p. p ≡ []) (fits_leaf t) stripe ([], refl)
      (λ p l v h r d k. subst (λ q. Starts r d (stripe q v r d k)) (sym l) (refl, omega arith))
      (λ v w pv pw r d k a b ea eb h. some_same v w r d (a []) (b []) (h [] refl))
  determined (fields n x annotated fs) g = determines_as x (λ p. IsLeafFrom fs 0 p) (is_group (fits_each fs)) stripe (some_leaf_from fs 0 g.0.some g.1)
      (λ p l v h r d k.
      let w = when_group v (fits_each fs) h in
      subst (λ t. Starts r d (stripe p t r d k)) (sym w.1.0) (starts_each fs 0 p l (group w.0) w.0 w.1.1 (At-whole w.0) r d k))
      (λ v w pv pw r d k a b ea eb h.
      let (vs, gv) = when_group v (fits_each fs) pv in
      let (ws, gw) = when_group w (fits_each fs) pw in
      gv.0 ∙ ap group (determined_each fs 0 g.1 (group vs) (group ws) vs ws gv.1 gw.1 (At-whole vs) (At-whole ws) r d k a b ea eb
      (λ p l. ap (λ t. stripe p t r d k ++ a p) (sym gv.0) ∙ h p l ∙ ap (λ t. stripe p t r d k ++ b p) gw.0)) ∙ sym gw.0)

  pub determined_each : (fs : Fields) (i : ℕ) → AreValid fs → (V W : ValueTree) (vs ws : ValueTrees) → fits_each fs vs ≡ true → fits_each fs ws ≡ true → At i V vs → At i W ws
      → (r d k : ℕ) (a b : Way → List Entry)
      → ((p : Way) → IsLeafFrom fs i p → Ends k (a p)) → ((p : Way) → IsLeafFrom fs i p → Ends k (b p))
      → ((p : Way) → IsLeafFrom fs i p → stripe p V r d k ++ a p ≡ stripe p W r d k ++ b p) → vs ≡ ws
  determined_each no_fields i g V W no_values no_values hv hw av aw r d k a b ea eb h = refl
  determined_each no_fields i g V W no_values (item w ws) hv hw av aw r d k a b ea eb h = absurd (false≢true hw)
  determined_each no_fields i g V W (item v vs) ws hv hw av aw r d k a b ea eb h = absurd (false≢true hv)
  determined_each (field f fs) i g V W no_values ws hv hw av aw r d k a b ea eb h = absurd (false≢true hv)
  determined_each (field f fs) i g V W (item v vs) no_values hv hw av aw r d k a b ea eb h = absurd (false≢true hw)
  determined_each (field f fs) i g V W (item v vs) (item w ws) hv hw av aw r d k a b ea eb h =
      let (v0, v1) = and_parts (fits f v) (fits_each fs vs) hv in
      let (w0, w1) = and_parts (fits f w) (fits_each fs ws) hw in
      let to : Way → Way = λ q. record { place = i; repetition = repetition_of f } ∷ q in
      let first : v ≡ w = determined f g.0 v w v0 w0 r d k (λ q. a (to q)) (λ q. b (to q))
      (λ q l. ea (to q) (inl (q, (l, refl)))) (λ q l. eb (to q) (inl (q, (l, refl))))
      (λ q l. ap (λ t. stripe_as (repetition_of f) (stripe q) t r d k ++ a (to q)) (sym (At-first i V v vs av))
      ∙ h (to q) (inl (q, (l, refl)))
      ∙ ap (λ t. stripe_as (repetition_of f) (stripe q) t r d k ++ b (to q)) (At-first i W w ws aw)) in
      let rest : vs ≡ ws = determined_each fs (suc i) g.1 V W vs ws v1 w1 (At-next i V v vs av) (At-next i W w ws aw) r d k a b
      (λ p l. ea p (inr l)) (λ p l. eb p (inr l)) (λ p l. h p (inr l)) in
      ap (λ t. item t vs) first ∙ ap (item w) rest

no_row : (d : ℕ) (es b : List Entry) → Starts 0 d es → [] ≡ es ++ b → ⊥
no_row d [] b s h = s
no_row d (e ∷ es) b s h = cc

pub row_starts : (fs : Fields) (row : ValueTrees) → fits_each fs row ≡ true → (p : Way) → IsLeafFrom fs 0 p → Starts 0 0 (stripe p (group row) 0 0 0)
row_starts fs row h p l = starts_each fs 0 p l (group row) row h (At-whole row) 0 0 0

pub column_ends : (fs : Fields) (rows : List ValueTrees) → RowsFit fs rows → (p : Way) → IsLeafFrom fs 0 p → Ends 0 (column rows p)
column_ends fs [] h p l = tt
column_ends fs (row ∷ rows) h p l = Ends-start 0 0 0 (stripe p (group row) 0 0 0) _ (omega arith) (row_starts fs row h.0 p l)

same_rows_at : (fs : Fields) → IsSchema fs → (xs ys : List ValueTrees) → RowsFit fs xs → RowsFit fs ys → ((p : Way) → IsLeafFrom fs 0 p → column xs p ≡ column ys p) → xs ≡ ys
same_rows_at fs g [] [] hx hy h = refl
same_rows_at fs g [] (y ∷ ys) hx hy h =
    let (p, l) = some_leaf_from fs 0 g.0.some g.1 in
    absurd (no_row 0 _ _ (row_starts fs y hy.0 p l) (h p l))
same_rows_at fs g (x ∷ xs) [] hx hy h =
    let (p, l) = some_leaf_from fs 0 g.0.some g.1 in
    absurd (no_row 0 _ _ (row_starts fs x hx.0 p l) (sym (h p l)))
same_rows_at fs g (x ∷ xs) (y ∷ ys) hx hy h =
    let first : x ≡ y = determined_each fs 0 g.1 (group x) (group y) x y hx.0 hy.0 (At-whole x) (At-whole y) 0 0 0 (column xs) (column ys)
    (column_ends fs xs hx.1) (column_ends fs ys hy.1) h in
    let rest : xs ≡ ys = same_rows_at fs g xs ys hx.1 hy.1
    (λ p l. append_cancel_left (stripe p (group x) 0 0 0) _ _ (h p l ∙ ap (λ t. stripe p (group t) 0 0 0 ++ column ys p) (sym first))) in
    ap (λ t. t ∷ xs) first ∙ ap (λ t. y ∷ t) rest

pub columns_determine_rows : ColumnsDetermineRows
columns_determine_rows fs xs ys g hx hy h =
    same_rows_at fs g xs ys hx hy
    (λ p l.
    let w = leaf_is_listed_from fs 0 p l in
    ap (column xs) (sym w.1.1)
    ∙ map-same_at (λ l. column xs l.steps) (λ l. column ys l.steps) (leaves_from 0 fs) w.0 h w.1.0
    ∙ ap (column ys) w.1.1)
