-- A cursor that goes on, in the list of the open ones.
use Rattle.std.proofs.Common.{◌≡◌, ◌≤◌, ◌<◌, ℕ, zero, suc, Bool, true, false, ◌==◌, List, [], ◌∷◌, ◌++◌, take, length, get_or, refl, sym, ◌∙◌, ap, arith, eq-eqb}
use Rattle.std.specs.Prelude.{if◌then◌else◌, slice_set}
use Rattle.std.specs.List.{AllByRecursion}
use Rattle.table_state.specs.declared.jobs.OpenCursor.{OpenCursor}
use Rattle.table_reads.specs.Passing.{moved, moved_at}

module _ (n passed : ℕ) (ended : Bool) where
  abbrev Before : List OpenCursor → Type 0
  Before xs = AllByRecursion (λ (c : OpenCursor). (c.number == n) ≡ false) xs

  pub move_here : (xs : List OpenCursor) (i : ℕ) (x : OpenCursor) → i < length xs → x ≡ get_or xs i x → x.number ≡ n → Before (take i xs) → slice_set xs i (moved passed ended x) ≡ moved_at n passed ended xs
  move_here [] i x low is e h = absurd (omega (arith, low))
  move_here (y ∷ ys) zero x low is e h =
      ap (λ (z : OpenCursor). moved passed ended z ∷ ys) is ∙ sym (ap (λ (b : Bool). if b then moved passed ended y ∷ ys else y ∷ moved_at n passed ended ys) (eq-eqb y.number n (sym (ap (λ (z : OpenCursor). z.number) is) ∙ e)))
  move_here (y ∷ ys) (suc i) x low is e h =
      ap (λ (zs : List OpenCursor). y ∷ zs) (move_here ys i x (omega (arith, low)) is e h.1) ∙ sym (ap (λ (b : Bool). if b then moved passed ended y ∷ ys else y ∷ moved_at n passed ended ys) h.0)

  pub move_none : (xs : List OpenCursor) (i : ℕ) → length xs ≤ i → Before (take i xs) → xs ≡ moved_at n passed ended xs
  move_none [] i le h = refl
  move_none (y ∷ ys) zero le h = absurd (omega (arith, le))
  move_none (y ∷ ys) (suc i) le h = ap (λ (zs : List OpenCursor). y ∷ zs) (move_none ys i (omega (arith, le)) h.1) ∙ sym (ap (λ (b : Bool). if b then moved passed ended y ∷ ys else y ∷ moved_at n passed ended ys) h.0)

same_length : (n passed : ℕ) (ended : Bool) (xs : List OpenCursor) → length (moved_at n passed ended xs) ≡ length xs
same_length n passed ended [] = refl
same_length n passed ended (x ∷ xs) = by (x.number == n) (same_length n passed ended xs)
  where
    by : (b : Bool) → length (moved_at n passed ended xs) ≡ length xs → length (if b then moved passed ended x ∷ xs else x ∷ moved_at n passed ended xs) ≡ length (x ∷ xs)
    by true r = omega arith
    by false r = omega (arith, r)

taken : (xs ys : List OpenCursor) → take (length xs) (xs ++ ys) ≡ xs
taken [] ys = refl
taken (x ∷ xs) ys = ap (λ (zs : List OpenCursor). x ∷ zs) (taken xs ys)

-- the vector that a slice was lent of
pub written_back : (n passed : ℕ) (ended : Bool) (len : ℕ) (items lent new rest : List OpenCursor) → len ≡ length items → lent ≡ items → new ≡ moved_at n passed ended lent → take len (new ++ rest) ≡ moved_at n passed ended items
written_back n passed ended len items lent new rest many same is =
    let all : new ≡ moved_at n passed ended items = is ∙ ap (λ (xs : List OpenCursor). moved_at n passed ended xs) same in
    let long : len ≡ length new = many ∙ sym (same_length n passed ended items) ∙ sym (ap (λ (xs : List OpenCursor). length xs) all) in
    ap (λ (k : ℕ). take k (new ++ rest)) long ∙ taken new rest ∙ all
