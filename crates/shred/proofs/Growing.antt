-- Columns with more entries at their ends.
use Rattle.std.proofs.Common.{ℕ, zero, suc, ◌≡◌, ◌+◌, ◌<◌, ◌≤◌, List, [], ◌∷◌, ◌++◌, map, length, get_or, take, drop, refl, ap, sym, ◌∙◌, arith, add-one, append_assoc}
use Rattle.std.proofs.Math.ListN.{set}
use Rattle.std.proofs.lemmas.List.{append-nil, map-append, length-map, length-take-le, take_more}
use Rattle.std.proofs.lemmas.Simd.{map-map}
use Rattle.schema.specs.Shape.{Field, Fields, field}
use Rattle.std.proofs.lemmas.Grind.{flat_map-append}
use Rattle.schema.specs.Values.{ValueTrees, group}
use Rattle.schema.specs.Stripe.{Entry, Leaf, below, leaves, leaves_from, stripe, column}
use Rattle.schema.specs.Reading.{count_leaves}
use Rattle.schema.proofs.CutSteps.{count_is}
use Rattle.shred.specs.declared.column.ColumnRef.{ColumnRef}
use Rattle.shred.specs.Columns.{column_ref_view, column_refs_view}
use Rattle.shred.specs.inner.Growing.{Columns, grown, nils}

same_cons : (x y : List Entry) (xs ys : Columns) → x ≡ y → xs ≡ ys → x ∷ xs ≡ y ∷ ys
same_cons x y xs ys h k = cc

pub grown_by_none : (cs : Columns) → grown cs [] ≡ cs
grown_by_none [] = refl
grown_by_none (c ∷ cs) = refl

grown_by_nils : (n : ℕ) (cs : Columns) → grown cs (nils n) ≡ cs
grown_by_nils zero cs = grown_by_none cs
grown_by_nils (suc n) [] = refl
grown_by_nils (suc n) (c ∷ cs) = same_cons _ _ _ _ (append-nil c) (grown_by_nils n cs)

-- nothing is left
pub grown_whole : (n : ℕ) (cs : Columns) → grown cs (nils n ++ []) ≡ cs
grown_whole n cs = ap (grown cs) (append-nil (nils n)) ∙ grown_by_nils n cs

-- columns without entries become the stripes
pub grown_from_nils : (ss : Columns) (n : ℕ) → length ss ≡ n → grown (nils n) ss ≡ ss
grown_from_nils [] zero e = refl
grown_from_nils [] (suc n) e = absurd (omega (arith, e))
grown_from_nils (s ∷ ss) zero e = absurd (omega (arith, e))
grown_from_nils (s ∷ ss) (suc n) e = ap (λ t. s ∷ t) (grown_from_nils ss n (omega (arith, e)))

-- two stripes of each column, one after the other
pub grown_twice : (f g : Leaf → List Entry) (ls : List Leaf) (cs : Columns) → grown (grown cs (map f ls)) (map g ls) ≡ grown cs (map (λ (l : Leaf). f l ++ g l) ls)
grown_twice f g [] cs = grown_by_none (grown cs []) ∙ refl
grown_twice f g (l ∷ ls) [] = refl
grown_twice f g (l ∷ ls) (c ∷ cs) = same_cons _ _ _ _ (append_assoc c (f l) (g l)) (grown_twice f g ls cs)

-- no more entries
pub grown_same : (f : Leaf → List Entry) (ls : List Leaf) (cs : Columns) → ((l : Leaf) → f l ≡ []) → grown cs (map f ls) ≡ cs
grown_same f [] cs h = grown_by_none cs
grown_same f (l ∷ ls) [] h = refl
grown_same f (l ∷ ls) (c ∷ cs) h = same_cons _ _ _ _ (ap (λ t. c ++ t) (h l) ∙ append-nil c) (grown_same f ls cs h)

-- the columns from a place on
grown_behind : (u : ℕ) (xs cs : Columns) → take u cs ++ grown (drop u cs) xs ≡ grown cs (nils u ++ xs)
grown_behind zero xs cs = refl
grown_behind (suc u) xs [] = refl
grown_behind (suc u) xs (c ∷ cs) = same_cons _ _ _ _ (sym (append-nil c)) (grown_behind u xs cs)

-- and those from a later place on
pub grown_next : (u m : ℕ) (xs ys cs : Columns) → m ≡ u + length xs → grown (grown cs (nils u ++ xs)) (nils m ++ ys) ≡ grown cs (nils u ++ (xs ++ ys))
grown_next zero zero [] ys cs e = ap (λ t. grown t ys) (grown_by_none cs)
grown_next zero (suc m) [] ys cs e = absurd (omega (arith, e))
grown_next zero zero (a ∷ xs) ys cs e = absurd (omega (arith, e))
grown_next zero (suc m) (a ∷ xs) ys [] e = refl
grown_next zero (suc m) (a ∷ xs) ys (c ∷ cs) e = same_cons _ _ _ _ (append-nil (c ++ a)) (grown_next zero m xs ys cs (omega (arith, e)))
grown_next (suc u) zero xs ys cs e = absurd (omega (arith, e))
grown_next (suc u) (suc m) xs ys [] e = refl
grown_next (suc u) (suc m) xs ys (c ∷ cs) e = same_cons _ _ _ _ (append-nil (c ++ [])) (grown_next u m xs ys cs (omega (arith, e)))

-- the leaves below the first of some fields, and below the others
pub leaves_split : (g : Leaf → List Entry) (i : ℕ) (f : Field) (fs : Fields) → map g (leaves_from i (field f fs)) ≡ map (λ (l : Leaf). g (below i f l)) (leaves f) ++ map g (leaves_from (suc i) fs)
leaves_split g i f fs = map-append g (map (below i f) (leaves f)) (leaves_from (suc i) fs) ∙ ap (λ t. t ++ map g (leaves_from (suc i) fs)) (map-map g (below i f) (leaves f))

-- one field more has given its entries
pub one_more : (g h : Leaf → List Entry) (f : Field) (fs : Fields) (i u : ℕ) (cs all : Columns) → grown cs (nils u ++ map g (leaves_from i (field f fs))) ≡ all
    → map h (leaves f) ≡ map (λ (l : Leaf). g (below i f l)) (leaves f)
    → grown (take u cs ++ grown (drop u cs) (map h (leaves f))) (nils (u + count_leaves f) ++ map g (leaves_from (suc i) fs)) ≡ all
one_more g h f fs i u cs all so same =
    ap (λ t. grown t (nils (u + count_leaves f) ++ map g (leaves_from (suc i) fs))) (grown_behind u (map h (leaves f)) cs)
    ∙ grown_next u (u + count_leaves f) (map h (leaves f)) (map g (leaves_from (suc i) fs)) cs (ap (λ n. u + n) (count_is f ∙ sym (length-map (leaves f) h)))
    ∙ ap (λ t. grown cs (nils u ++ (t ++ map g (leaves_from (suc i) fs)))) same
    ∙ ap (λ t. grown cs (nils u ++ t)) (sym (leaves_split g i f fs))
    ∙ so

pub nils_more : (n : ℕ) → nils (n + 1) ≡ nils n ++ [] ∷ []
nils_more n = ap nils (add-one n) ∙ longer n
  where
    longer : (n : ℕ) → nils (suc n) ≡ nils n ++ [] ∷ []
    longer zero = refl
    longer (suc n) = ap (λ t. [] ∷ t) (longer n)

pub length_nils : (n : ℕ) → length (nils n) ≡ n
length_nils zero = refl
length_nils (suc n) = ap suc (length_nils n)

-- one entry at the end of the first column
pub grown_first : (s : List Entry) (x y : ColumnRef) (xs : List ColumnRef) → 0 < length xs → column_ref_view y ≡ column_ref_view (get_or xs 0 x) ++ s → column_refs_view (set xs 0 y) ≡ grown (column_refs_view xs) (s ∷ [])
grown_first s x y [] lt h = absurd (omega (arith, lt))
grown_first s x y (z ∷ xs) lt h = same_cons _ _ _ _ h (sym (grown_by_none (column_refs_view xs)))

-- one entry at the end of the column at a place
pub grown_at : {A : Type 0} (f : A → List Entry) (s : List Entry) (x y : A) (xs : List A) (i : ℕ) → i < length xs → f y ≡ f (get_or xs i x) ++ s → map f (set xs i y) ≡ grown (map f xs) (nils i ++ s ∷ [])
grown_at f s x y [] i lt h = absurd (omega (arith, lt))
grown_at f s x y (z ∷ xs) zero lt h = same_cons _ _ _ _ h (sym (grown_by_none (map f xs)))
grown_at f s x y (z ∷ xs) (suc i) lt h = same_cons _ _ _ _ (sym (append-nil (f z))) (grown_at f s x y xs i (omega (arith, lt)) h)

-- there is no column
pub grown_beyond : (cs ss : Columns) (i : ℕ) → length cs ≤ i → cs ≡ grown cs (nils i ++ ss)
grown_beyond [] ss i h = refl
grown_beyond (c ∷ cs) ss zero h = absurd (omega (arith, h))
grown_beyond (c ∷ cs) ss (suc i) h = same_cons _ _ _ _ (sym (append-nil c)) (grown_beyond cs ss i (omega (arith, h)))

-- an element that shows the same
pub same_at : {A B : Type 0} (f : A → B) (x y : A) (xs : List A) (i : ℕ) → i < length xs → f y ≡ f (get_or xs i x) → map f (set xs i y) ≡ map f xs
same_at f x y [] i lt h = absurd (omega (arith, lt))
same_at {B = B} f x y (z ∷ xs) zero lt h = ap (λ (t : B). t ∷ map f xs) h
same_at {B = B} f x y (z ∷ xs) (suc i) lt h = ap (λ (t : List B). f z ∷ t) (same_at f x y xs i (omega (arith, lt)) h)

-- one column more, each of which is longer by one of others
pub grown_more : {A : Type 0} (f : A → List Entry) (os : List A) (i : ℕ) (o : A) (cs xs ys : Columns) → i < length os → o ≡ get_or os i o → xs ≡ grown cs (map f (take i os)) → ys ≡ grown xs (nils i ++ f o ∷ [])
    → ys ≡ grown cs (map f (take (i + 1) os))
grown_more {A = A} f os i o cs xs ys lt is before now =
    let size : i ≡ 0 + length (map f (take i os)) = omega (arith, length-map (take i os) f, length-take-le i os (omega (arith, lt))) in
    now ∙ ap (λ (t : Columns). grown t (nils i ++ f o ∷ [])) before ∙ grown_next 0 i (map f (take i os)) (f o ∷ []) cs size
    ∙ ap (grown cs) (sym (map-append f (take i os) (o ∷ [])))
    ∙ ap (λ (t : A). grown cs (map f (take i os ++ t ∷ []))) is
    ∙ ap (λ (t : List A). grown cs (map f t)) (sym (take_more os i o lt))

-- the columns of rows, and then those of others
pub grown_columns : (ls : List Leaf) (rows more : List ValueTrees)
    → grown (map (λ (l : Leaf). column rows l.steps) ls) (map (λ (l : Leaf). column more l.steps) ls) ≡ map (λ (l : Leaf). column (rows ++ more) l.steps) ls
grown_columns [] rows more = refl
grown_columns (l ∷ ls) rows more = same_cons _ _ _ _ (sym (flat_map-append (λ (row : ValueTrees). stripe l.steps (group row) 0 0 0) rows more)) (grown_columns ls rows more)
