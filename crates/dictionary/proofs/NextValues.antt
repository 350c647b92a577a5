-- The next of some values, as each is seen.
use Rattle.std.proofs.Common.{◌≡◌, ℕ, zero, suc, ◌<◌, List, [], ◌∷◌, ◌++◌, length, map, take, drop, get_or, sym, ap, subst, arith}
use Rattle.std.specs.Prelude.{All}
use Rattle.std.proofs.lemmas.List.Elements.{All-head, All-tail}
use Rattle.schema.specs.Values.{ValueTree}

module _ {A : Type 0} (f : A → ValueTree) where
  pub next_taken : (xs : List A) (i : ℕ) (x : A) → i < length xs → x ≡ get_or xs i x → take (suc i) (map f xs) ≡ take i (map f xs) ++ f x ∷ []
  next_taken [] i x lt is = absurd (omega arith)
  next_taken (y ∷ xs) zero x lt is = λ j. f (sym is j) ∷ []
  next_taken (y ∷ xs) (suc i) x lt is = ap (λ l. f y ∷ l) (next_taken xs i x (omega arith) is)

  pub next_between : (xs : List A) (i : ℕ) (x : A) → i < length xs → x ≡ get_or xs i x → map f xs ≡ take i (map f xs) ++ f x ∷ drop (suc i) (map f xs)
  next_between [] i x lt is = absurd (omega arith)
  next_between (y ∷ xs) zero x lt is = λ j. f (sym is j) ∷ map f xs
  next_between (y ∷ xs) (suc i) x lt is = ap (λ l. f y ∷ l) (next_between xs i x (omega arith) is)

  pub next_of_all : (P : ValueTree → Type 0) (xs : List A) (i : ℕ) (x : A) → i < length xs → x ≡ get_or xs i x → All P (map f xs) → P (f x)
  next_of_all P [] i x lt is all = absurd (omega arith)
  next_of_all P (y ∷ xs) zero x lt is all = subst (λ z. P (f z)) (sym is) (All-head P (f y) (map f xs) all)
  next_of_all P (y ∷ xs) (suc i) x lt is all = next_of_all P xs i x (omega arith) is (All-tail P (f y) (map f xs) all)
