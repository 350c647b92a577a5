-- The path of a part file names one key and one number.
use Rattle.std.proofs.Common.{◌≡◌, ℕ, ◌<◌, ◌^◌, List, [], ◌∷◌, ◌++◌, refl, sym, arith, codes}
use Rattle.std.specs.List.{AllByRecursion}
use Rattle.std.specs.Fmt.{decimal}
use Rattle.std.proofs.lemmas.List.{append_cancel_left, append_cancel_right}
use Rattle.std.proofs.lemmas.Fmt.{decimal_injective, decimal_is_IsNumeral}
use Rattle.std.proofs.lemmas.Str.Parse.{digit_from_value}
use Rattle.std.specs.Str.Parse.{AllDigits}
use Rattle.partition.specs.Folders.{path, part_name_of, name_in, PartPathsNameParts}
use Rattle.partition.proofs.Naming.{NoSlash, heads, tails, paths_name_keys}

both_no_slash : (a b : List ℕ) → AllByRecursion NoSlash a → AllByRecursion NoSlash b → AllByRecursion NoSlash (a ++ b)
both_no_slash [] b h k = k
both_no_slash (x ∷ a) b h k = (h.0, both_no_slash a b h.1 k)

digits_no_slash : (ds : List ℕ) → AllDigits 10 ds → AllByRecursion NoSlash ds
digits_no_slash [] d = tt
digits_no_slash (c ∷ cs) d = (λ is. omega (arith, digit_from_value c d.0, is), digits_no_slash cs d.1)

front_no_slash : AllByRecursion NoSlash (codes "part.")
front_no_slash = (λ is. omega (arith, is), (λ is. omega (arith, is), (λ is. omega (arith, is), (λ is. omega (arith, is), (λ is. omega (arith, is), tt)))))

end_no_slash : AllByRecursion NoSlash (codes ".parquet")
end_no_slash = (λ is. omega (arith, is), (λ is. omega (arith, is), (λ is. omega (arith, is), (λ is. omega (arith, is), (λ is. omega (arith, is), (λ is. omega (arith, is), (λ is. omega (arith, is), (λ is. omega (arith, is), tt))))))))

pub name_no_slash : (n : ℕ) → n < 2 ^ 64 → AllByRecursion NoSlash (part_name_of n)
name_no_slash n h = both_no_slash (codes "part.") _ front_no_slash (both_no_slash (decimal n) (codes ".parquet") (digits_no_slash (decimal n) (decimal_is_IsNumeral n h).0.1) end_no_slash)

-- a slash is in the middle
pub has_slash : (a x : List ℕ) → AllByRecursion NoSlash (a ++ 47 ∷ x) → ⊥
has_slash [] x h = h.0 refl
has_slash (b ∷ a) x h = has_slash a x h.1

last_slash : (a b x y : List ℕ) → AllByRecursion NoSlash x → AllByRecursion NoSlash y → a ++ 47 ∷ x ≡ b ++ 47 ∷ y → (a ≡ b) × (x ≡ y)
last_slash [] [] x y p q h = (refl, tails _ _ _ _ h)
last_slash [] (c ∷ b) x y p q h = absurd (has_slash b y (let e : x ≡ b ++ 47 ∷ y = tails _ _ _ _ h in rw e at p))
last_slash (c ∷ a) [] x y p q h = absurd (has_slash a x (let e : y ≡ a ++ 47 ∷ x = sym (tails _ _ _ _ h) in rw e at q))
last_slash (c ∷ a) (d ∷ b) x y p q h =
    let more = last_slash a b x y p q (tails _ _ _ _ h) in
    (λ i. heads _ _ _ _ h i ∷ more.0 i, more.1)

name_split : (a b x y : List ℕ) → AllByRecursion NoSlash x → AllByRecursion NoSlash y → name_in a x ≡ name_in b y → (a ≡ b) × (x ≡ y)
name_split [] [] x y p q h = (refl, h)
name_split [] (c ∷ b) x y p q h = absurd (has_slash (c ∷ b) y (rw h at p))
name_split (c ∷ a) [] x y p q h = absurd (has_slash (c ∷ a) x (rw (sym h) at q))
name_split (c ∷ a) (d ∷ b) x y p q h = last_slash (c ∷ a) (d ∷ b) x y p q h

same_number : (m n : ℕ) → m < 2 ^ 64 → n < 2 ^ 64 → part_name_of m ≡ part_name_of n → m ≡ n
same_number m n p q h = decimal_injective m n p q (append_cancel_right (decimal m) (decimal n) (codes ".parquet") (append_cancel_left (codes "part.") _ _ h))

pub part_paths_name_parts : PartPathsNameParts
part_paths_name_parts columns key other m n p q small also h =
    let parts = name_split (path columns key) (path columns other) _ _ (name_no_slash m small) (name_no_slash n also) h in
    (paths_name_keys columns key other p q parts.0, same_number m n small also parts.1)
