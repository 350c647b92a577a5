-- Whole lists: lengths, maps, and what holds of all items.
use Rattle.std.proofs.Common.{List, [], ap, length, map, refl, suc, ◌∷◌, ◌≡◌, ℕ, Bool, arith, false, true, drop, get_or, ◌++◌, IsPermutation, Any, zero}
use Rattle.std.proofs.lemmas.List.Elements.{All-from_recursion, recursion_from_All}
use Rattle.std.proofs.lemmas.List.Sorted.{All-permutation}
use Rattle.std.specs.Int.{from_bool}
use Rattle.std.specs.List.{AllByRecursion}

-- a mapped list has as many items
pub length_map : {A B : Type 0} (f : A → B) (xs : List A) → length (map f xs) ≡ length xs
length_map f [] = refl
length_map f (x ∷ xs) = ap suc (length_map f xs)

-- only the empty list maps to the empty list
pub map_empty : {A B : Type 0} (f : A → B) (xs : List A) → map f xs ≡ [] → xs ≡ []
map_empty f [] e = refl
map_empty f (x ∷ xs) e = absurd (cc)

-- equal lists have equal first items
pub same_first : {A : Type 0} (x y : A) (xs ys : List A) → x ∷ xs ≡ y ∷ ys → x ≡ y
same_first x y xs ys e = cc

-- equal lists have equal rests
pub same_rest : {A : Type 0} (x y : A) (xs ys : List A) → x ∷ xs ≡ y ∷ ys → xs ≡ ys
same_rest x y xs ys e = cc

-- equal lists of numbers have equal first numbers and equal rests
pub same_number_and_rest : (a b : ℕ) (xs ys : List ℕ) → a ∷ xs ≡ b ∷ ys → (a ≡ b) × (xs ≡ ys)
same_number_and_rest a b xs ys e = (cc, cc)

-- lists of booleans with equal bits are equal
pub same_by_bits : (xs ys : List Bool) → map from_bool xs ≡ map from_bool ys → xs ≡ ys
same_by_bits [] [] e = refl
same_by_bits [] (y ∷ ys) e = cc
same_by_bits (x ∷ xs) [] e = cc
same_by_bits (true ∷ xs) (true ∷ ys) e = ap (λ (t : List Bool). true ∷ t) (same_by_bits xs ys (ap (drop 1) e))
same_by_bits (false ∷ xs) (false ∷ ys) e = ap (λ (t : List Bool). false ∷ t) (same_by_bits xs ys (ap (drop 1) e))
same_by_bits (true ∷ xs) (false ∷ ys) e = absurd (let h = ap (λ (t : List ℕ). get_or t 0 0) e in omega (arith, h))
same_by_bits (false ∷ xs) (true ∷ ys) e = absurd (let h = ap (λ (t : List ℕ). get_or t 0 0) e in omega (arith, h))

-- what holds of all items holds in any weaker form
pub all_weaker : {A : Type 0} (P Q : A → Type 0) → ((x : A) → P x → Q x) → (xs : List A) → AllByRecursion P xs → AllByRecursion Q xs
all_weaker P Q f [] h = tt
all_weaker P Q f (x ∷ xs) h = (f x h.0, all_weaker P Q f xs h.1)

-- what holds of all items of a list holds in any weaker form; the list comes first
pub all_weaker_on : {X : Type 0} (P Q : X → Type 0) (xs : List X) → ((x : X) → P x → Q x) → AllByRecursion P xs → AllByRecursion Q xs
all_weaker_on P Q [] f h = tt
all_weaker_on P Q (x ∷ xs) f h = (f x h.0, all_weaker_on P Q xs f h.1)

-- what always holds holds of all items
pub all_always : {A : Type 0} (P : A → Type 0) → ((x : A) → P x) → (xs : List A) → AllByRecursion P xs
all_always P f [] = tt
all_always P f (x ∷ xs) = (f x, all_always P f xs)

-- what holds of all items holds, mapped, of all mapped items
pub all_mapped : {A B : Type 0} (P : A → Type 0) (Q : B → Type 0) (g : A → B) → ((x : A) → P x → Q (g x)) → (xs : List A) → AllByRecursion P xs → AllByRecursion Q (map g xs)
all_mapped P Q g f [] h = tt
all_mapped P Q g f (x ∷ xs) h = (f x h.0, all_mapped P Q g f xs h.1)

-- what holds of all items of two lists holds of all items of the two in a row
pub all_append : {A : Type 0} (P : A → Type 0) (xs ys : List A) → AllByRecursion P xs → AllByRecursion P ys → AllByRecursion P (xs ++ ys)
all_append P [] ys p q = q
all_append P (x ∷ xs) ys p q = (p.0, all_append P xs ys p.1 q)

-- what holds of all items of two lists in a row holds of all of the first
pub all_left : {A : Type 0} (P : A → Type 0) (xs ys : List A) → AllByRecursion P (xs ++ ys) → AllByRecursion P xs
all_left P [] ys h = tt
all_left P (x ∷ xs) ys h = (h.0, all_left P xs ys h.1)

-- what holds of all items of two lists in a row holds of all of the second
pub all_right : {A : Type 0} (P : A → Type 0) (xs ys : List A) → AllByRecursion P (xs ++ ys) → AllByRecursion P ys
all_right P [] ys h = h
all_right P (x ∷ xs) ys h = all_right P xs ys h.1

-- what holds of all items holds in any order
pub all_permuted : {X : Type 0} (P : X → Type 0) (xs ys : List X) → IsPermutation xs ys → AllByRecursion P xs → AllByRecursion P ys
all_permuted P xs ys p h = recursion_from_All P ys (All-permutation P xs ys p (All-from_recursion P xs h))

-- what holds of some item of a list holds of some item of a longer one
pub any_later : {X : Type 0} (P : X → Type 0) (x : X) (xs : List X) → Any P xs → Any P (x ∷ xs)
any_later P x xs (k, y, within, is, holds) = (suc k, y, omega (arith, within), is, holds)

-- what holds of some item of a list holds of some item of two lists in a row
pub any_left : {X : Type 0} (P : X → Type 0) (b c : List X) → Any P b → Any P (b ++ c)
any_left P [] c (k, y, within, is, holds) = absurd (omega (arith, within))
any_left P (x ∷ b) c (zero, y, within, is, holds) = (zero, y, omega arith, is, holds)
any_left P (x ∷ b) c (suc k, y, within, is, holds) = any_later P x (b ++ c) (any_left P b c (k, y, omega (arith, within), is, holds))
