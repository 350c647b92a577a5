-- The first row of columns is the first of their rows.
use Rattle.std.proofs.Common.{◌≡◌, ℕ, List, [], ◌∷◌, ◌++◌, map, length, drop, refl, sym, ap, subst, ◌∙◌, arith, inl, inr}
use Rattle.std.proofs.Math.Seq.{drop-append_seam}
use Rattle.std.proofs.lemmas.List.{append-nil, append_cancel_left}
use Rattle.schema.specs.Values.{ValueTrees, group}
use Rattle.schema.specs.Shape.{Fields}
use Rattle.schema.specs.Fits.{RowsFit}
use Rattle.schema.specs.Stripe.{Leaf, Entry, leaves_of, stripe, column, columns}
use Rattle.schema.specs.Law.{IsSchema}
use Rattle.schema.proofs.LeafLaws.{Way, IsLeafFrom, Mem, leaf_is_listed_from}
use Rattle.schema.proofs.Determined.{Ends, column_ends, determined_each, At-whole}
use Rattle.assemble.specs.Columns.{Columns, level, AreAlike, Fronts}

-- ---- one leaf of the columns

alike_head : (x y : List Entry) (xs ys : Columns) → AreAlike (x ∷ xs) (y ∷ ys) → map level x ≡ map level y
alike_head x y xs ys e = cc

alike_tail : (x y : List Entry) (xs ys : Columns) → AreAlike (x ∷ xs) (y ∷ ys) → AreAlike xs ys
alike_tail x y xs ys e = cc

-- what comes after a leaf's stripe
part : (f h k : Leaf → List Entry) (ls : List Leaf) (later : Columns) → Fronts (map f ls) (map h ls) later → AreAlike (map k ls) later → (l : Leaf) → Mem l ls
    → (t : List Entry) × ((h l ≡ f l ++ t) × (map level (k l) ≡ map level t))
part f h k [] later fronts alike l m = absurd m
part f h k (x ∷ ls) [] fronts alike l m = absurd fronts
part f h k (x ∷ ls) (t ∷ later) fronts alike l (inl e) =
    subst (λ (y : Leaf). (t : List Entry) × ((h y ≡ f y ++ t) × (map level (k y) ≡ map level t))) (sym e) (t, (fronts.0, alike_head (k x) t (map k ls) later alike))
part f h k (x ∷ ls) (t ∷ later) fronts alike l (inr m) = part f h k ls later fronts.1 (alike_tail (k x) t (map k ls) later alike) l m

ends_alike : (xs ys : List Entry) → map level xs ≡ map level ys → Ends 0 xs → Ends 0 ys
ends_alike xs [] e h = tt
ends_alike [] (y ∷ ys) e h = absurd (let n = ap length e in omega (arith, n))
ends_alike (x ∷ xs) (y ∷ ys) e h = let same : x.repetition ≡ y.repetition = first (level x) (level y) (map level xs) (map level ys) e in omega (arith, same, h)
  where
    first : (a b : ℕ × ℕ) (us vs : List (ℕ × ℕ)) → a ∷ us ≡ b ∷ vs → a.0 ≡ b.0
    first a b us vs e = let h : a ≡ b = cc in ap (λ (p : ℕ × ℕ). p.0) h

-- ---- what is left is what the other rows have

others : (f g : Leaf → List Entry) (ls : List Leaf) (later : Columns) → Fronts (map f ls) (map (λ (l : Leaf). f l ++ g l) ls) later → later ≡ map g ls
others f g [] later h = sym h
others f g (l ∷ ls) [] h = absurd h
others f g (l ∷ ls) (t ∷ later) h =
    let first : t ≡ g l = append_cancel_left (f l) t (g l) (sym h.0) in
    ap (λ (x : List Entry). x ∷ later) first ∙ ap (λ (x : Columns). g l ∷ x) (others f g ls later h.1)

maps_same : (f g : Leaf → List Entry) → ((l : Leaf) → f l ≡ g l) → (ls : List Leaf) → map f ls ≡ map g ls
maps_same f g e [] = refl
maps_same f g e (l ∷ ls) = ap (λ (t : List Entry). t ∷ map f ls) (e l) ∙ ap (λ (t : Columns). g l ∷ t) (maps_same f g e ls)

abbrev own : ValueTrees → Leaf → List Entry
own row l = stripe l.steps (group row) 0 0 0

one_row : (fs : Fields) (row : ValueTrees) → columns fs (row ∷ []) ≡ map (own row) (leaves_of fs)
one_row fs row = maps_same (λ (l : Leaf). column (row ∷ []) l.steps) (own row) (λ l. append-nil (own row l)) (leaves_of fs)

pub same_first : (fs : Fields) → IsSchema fs → (row r : ValueTrees) (rs rest : List ValueTrees) (later : Columns) → RowsFit fs (row ∷ []) → RowsFit fs (r ∷ rs) → RowsFit fs rest
    → Fronts (columns fs (row ∷ [])) (columns fs (r ∷ rs)) later → AreAlike (columns fs rest) later → (row ≡ r) × (later ≡ columns fs rs)
same_first fs schema row r rs rest later fit all fit_rest fronts alike =
    let from = subst (λ (t : Columns). Fronts t (columns fs (r ∷ rs)) later) (one_row fs row) fronts in
    let a : Way → List Entry = λ p. drop (length (stripe p (group row) 0 0 0)) (column (r ∷ rs) p) in
    let at : (p : Way) → IsLeafFrom fs 0 p → (t : List Entry) × ((column (r ∷ rs) p ≡ stripe p (group row) 0 0 0 ++ t) × (map level (column rest p) ≡ map level t)) = λ p l.
    let w = leaf_is_listed_from fs 0 p l in
    subst (λ (q : Way). (t : List Entry) × ((column (r ∷ rs) q ≡ stripe q (group row) 0 0 0 ++ t) × (map level (column rest q) ≡ map level t))) w.1.1
    (part (own row) (λ (l : Leaf). column (r ∷ rs) l.steps) (λ (l : Leaf). column rest l.steps) (leaves_of fs) later from alike w.0 w.1.0) in
    let is : (p : Way) (l : IsLeafFrom fs 0 p) → a p ≡ (at p l).0 = λ p l.
    let t = at p l in
    ap (drop (length (stripe p (group row) 0 0 0))) t.1.0 ∙ drop-append_seam (stripe p (group row) 0 0 0) t.0 in
    let same : row ≡ r = determined_each fs 0 schema.1 (group row) (group r) row r fit.0 all.0 (At-whole row) (At-whole r) 0 0 0 a (column rs)
    (λ p l. let t = at p l in subst (Ends 0) (sym (is p l)) (ends_alike (column rest p) t.0 t.1.1 (column_ends fs rest fit_rest p l)))
    (column_ends fs rs all.1)
    (λ p l. let t = at p l in ap (λ (x : List Entry). stripe p (group row) 0 0 0 ++ x) (is p l) ∙ sym t.1.0) in
    (same, others (own r) (λ (l : Leaf). column rs l.steps) (leaves_of fs) later (subst (λ (v : ValueTrees). Fronts (map (own v) (leaves_of fs)) (columns fs (r ∷ rs)) later) same from))
