-- The pieces of parts, side by side, are rows.
use Rattle.std.proofs.Common.{ℕ, zero, suc, ◌≡◌, ◌+◌, ◌<◌, ◌≤◌, List, [], ◌∷◌, ◌++◌, length, map, Some, inl, inr, refl, ap, sym, subst, ◌∙◌, arith, add-one}
use Rattle.std.specs.Prelude.{◌⊎◌}
use Rattle.std.specs.List.{AllByRecursion, slice_get}
use Rattle.schema.specs.Values.{ValueTrees}
use Rattle.scan.specs.declared.held.Held.{Held}
use Rattle.scan.specs.declared.parts.Part.{Part}
use Rattle.scan.specs.Left.{piece_at, part_holds, PartsHold}

-- so many times the same
abbrev pub times : {A : Type 0} → ℕ → A → List A
times zero x = []
times (suc n) x = x ∷ times n x

pub times_many : {A : Type 0} (n : ℕ) (x : A) → length (times n x) ≡ n
times_many zero x = refl
times_many (suc n) x = ap suc (times_many n x)

pub times_same : {A : Type 0} (n : ℕ) (x : A) → AllByRecursion (λ y. y ≡ x) (times n x)
times_same zero x = tt
times_same (suc n) x = (refl, times_same n x)

-- each row with one piece more
abbrev pub with_pieces : List (List ValueTrees) → List ValueTrees → List (List ValueTrees)
with_pieces (row ∷ rows) (p ∷ pieces) = (row ++ p ∷ []) ∷ with_pieces rows pieces
with_pieces _ _ = []

one_longer : (row : List ValueTrees) (p : ValueTrees) → length (row ++ p ∷ []) ≡ suc (length row)
one_longer [] p = refl
one_longer (q ∷ row) p = ap suc (one_longer row p)

front_stays : (row : List ValueTrees) (p : ValueTrees) (j : ℕ) → j < length row → piece_at j (row ++ p ∷ []) ≡ piece_at j row
front_stays [] p j lt = absurd (omega (arith, lt))
front_stays (q ∷ row) p zero lt = refl
front_stays (q ∷ row) p (suc j) lt = front_stays row p j (omega (arith, lt))

end_is : (row : List ValueTrees) (p : ValueTrees) → piece_at (length row) (row ++ p ∷ []) ≡ p
end_is [] p = refl
end_is (q ∷ row) p = end_is row p

as_many : (rows : List (List ValueTrees)) (pieces : List ValueTrees) → length pieces ≡ length rows → length (with_pieces rows pieces) ≡ length rows
as_many [] [] size = refl
as_many [] (p ∷ pieces) size = refl
as_many (row ∷ rows) [] size = absurd (omega (arith, size))
as_many (row ∷ rows) (p ∷ pieces) size = ap suc (as_many rows pieces (omega (arith, size)))

longer : (i : ℕ) (rows : List (List ValueTrees)) (pieces : List ValueTrees) → AllByRecursion (λ row. length row ≡ i) rows → AllByRecursion (λ row. length row ≡ suc i) (with_pieces rows pieces)
longer i [] pieces all = tt
longer i (row ∷ rows) [] all = tt
longer i (row ∷ rows) (p ∷ pieces) all = (one_longer row p ∙ ap suc all.0, longer i rows pieces all.1)

earlier : (i j : ℕ) → j < i → (rows : List (List ValueTrees)) (pieces : List ValueTrees) → length pieces ≡ length rows → AllByRecursion (λ row. length row ≡ i) rows → map (piece_at j) (with_pieces rows pieces) ≡ map (piece_at j) rows
earlier i j lt [] [] size all = refl
earlier i j lt [] (p ∷ pieces) size all = refl
earlier i j lt (row ∷ rows) [] size all = absurd (omega (arith, size))
earlier i j lt (row ∷ rows) (p ∷ pieces) size all =
    let n = all.0 in
    ap (λ (x : ValueTrees). x ∷ map (piece_at j) (with_pieces rows pieces)) (front_stays row p j (omega (arith, lt, n)))
    ∙ ap (λ (xs : List ValueTrees). piece_at j row ∷ xs) (earlier i j lt rows pieces (omega (arith, size)) all.1)

latest : (i : ℕ) (rows : List (List ValueTrees)) (pieces : List ValueTrees) → length pieces ≡ length rows → AllByRecursion (λ row. length row ≡ i) rows → map (piece_at i) (with_pieces rows pieces) ≡ pieces
latest i [] [] size all = refl
latest i [] (p ∷ pieces) size all = absurd (omega (arith, size))
latest i (row ∷ rows) [] size all = absurd (omega (arith, size))
latest i (row ∷ rows) (p ∷ pieces) size all =
    ap (λ (n : ℕ). piece_at n (row ++ p ∷ []) ∷ map (piece_at i) (with_pieces rows pieces)) (sym all.0)
    ∙ ap (λ (x : ValueTrees). x ∷ map (piece_at i) (with_pieces rows pieces)) (end_is row p)
    ∙ ap (λ (xs : List ValueTrees). p ∷ xs) (latest i rows pieces (omega (arith, size)) all.1)

before_or_at : (k i : ℕ) → k < suc i → (k < i) ⊎ (k ≡ i)
before_or_at zero zero lt = inr refl
before_or_at zero (suc i) lt = inl (omega arith)
before_or_at (suc k) zero lt = absurd (omega (arith, lt))
before_or_at (suc k) (suc i) lt = elim (before_or_at k i (omega (arith, lt))) [
  | inl less ↦ inl (omega (arith, less))
  | inr is ↦ inr (ap suc is)
]

within : {A : Type 0} (xs : List A) (k : ℕ) (x : A) → slice_get xs k ≡ Some x → k < length xs
within [] k x h = absurd (cc)
within (y ∷ xs) zero x h = omega arith
within (y ∷ xs) (suc k) x h = let rest = within xs k x h in omega (arith, rest)

-- the first i parts hold so many rows of i pieces
pub record HoldSoFar (h : Held) (parts : List Part) (count i : ℕ) : Type 0 where
  pub rows : List (List ValueTrees)
  pub size : length rows ≡ count
  pub many : AllByRecursion (λ row. length row ≡ i) rows
  pub hold : (k : ℕ) (p : Part) → k < i → slice_get parts k ≡ Some p → part_holds h p (map (piece_at k) rows)

pub no_part : (h : Held) (parts : List Part) (count : ℕ) → HoldSoFar h parts count 0
no_part h parts count = record { rows = times count []; size = times_many count []; many = none count; hold = λ k p lt there. absurd (omega (arith, lt)) }
  where
    none : (n : ℕ) → AllByRecursion (λ (row : List ValueTrees). length row ≡ 0) (times n [])
    none zero = tt
    none (suc n) = (refl, none n)

pub one_part_more : (h : Held) (parts : List Part) (count i : ℕ) → HoldSoFar h parts count i → (p : Part) → slice_get parts i ≡ Some p → (pieces : List ValueTrees) → part_holds h p pieces → length pieces ≡ count → HoldSoFar h parts count (i + 1)
one_part_more h parts count i loop p there pieces held size =
    let sizes : length pieces ≡ length loop.rows = size ∙ sym loop.size in
    subst (HoldSoFar h parts count) (sym (add-one i)) (record {
      rows = with_pieces loop.rows pieces;
      size = as_many loop.rows pieces sizes ∙ loop.size;
      many = longer i loop.rows pieces loop.many;
      hold = λ k q lt at. by sizes k q lt at;
    })
  where
    here : (pieces_are : length pieces ≡ length loop.rows) (q : Part) → slice_get parts i ≡ Some q → part_holds h q (map (piece_at i) (with_pieces loop.rows pieces))
    here pieces_are q at =
        let same : p ≡ q = cc (there, at) in
        subst (part_holds h q) (sym (latest i loop.rows pieces pieces_are loop.many)) (subst (λ (x : Part). part_holds h x pieces) same held)

    by : (pieces_are : length pieces ≡ length loop.rows) (k : ℕ) (q : Part) → k < suc i → slice_get parts k ≡ Some q → part_holds h q (map (piece_at k) (with_pieces loop.rows pieces))
    by pieces_are k q lt at = elim (before_or_at k i lt) [
      | inl less ↦ subst (part_holds h q) (sym (earlier i k less loop.rows pieces pieces_are loop.many)) (loop.hold k q less at)
      | inr is ↦ subst (λ (n : ℕ). part_holds h q (map (piece_at n) (with_pieces loop.rows pieces))) (sym is) (here pieces_are q (ap (slice_get parts) (sym is) ∙ at))
    ]

pub all_parts : (h : Held) (parts : List Part) (count i : ℕ) → length parts ≤ i → HoldSoFar h parts count i → (rows : List (List ValueTrees)) × PartsHold h parts rows × (length rows ≡ count)
all_parts h parts count i le loop = (loop.rows, (λ k p there. let lt = within parts k p there in loop.hold k p (omega (arith, lt, le)) there), loop.size)
