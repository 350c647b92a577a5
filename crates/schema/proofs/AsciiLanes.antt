-- From a vector's mask to bytes that are ASCII.
use Rattle.std.proofs.Common.{◌≡◌, ℕ, zero, suc, ◌+◌, ◌-◌, ◌%◌, ◌^◌, ◌<◌, ◌≤◌, Bool, true, false, cond, leb, leb-false, ◌==◌, List, [], ◌∷◌, length, drop, get_or, map, replicate, refl, sym, ap, ◌∙◌, arith, get_or-take, get_or-drop}
use Rattle.std.proofs.lemmas.Bool.{eqb-true}
use Rattle.std.proofs.lemmas.List.{length-map}
use Rattle.std.proofs.lemmas.Simd.{length-chunk, length-zip2, length-replicate, mask_l-mod}
use Rattle.std.specs.Bool.{OnTrue}
use lib.Lanes.{chunk, mask_l, zip2, top}
use Rattle.schema.specs.inner.Ascii.{AreAsciiBetween}

abbrev at_least : ℕ → ℕ → ℕ
at_least a b = cond (leb a b) 255 0

none_high : (xs : List ℕ) → mask_l (map (top 7) (zip2 at_least (replicate (length xs) 128) xs)) ≡ 0 → (i : ℕ) → get_or xs i 0 < 128
none_high [] e i = omega arith
none_high (x ∷ xs) e zero = go (leb 128 x) refl (omega arith)
  where
    go : (t : Bool) → leb 128 x ≡ t → ◌≡◌ {A = ℕ} (cond (top 7 (cond t 255 0)) 1 0) 0 → x < 128
    go true p q = absurd (omega arith)
    go false p q = leb-false _ _ p
none_high (x ∷ xs) e (suc i) = none_high xs (omega arith) i

mask_small : (xs : List ℕ) (n : ℕ) → length xs ≡ n → n ≤ 64 → mask_l (map (top 7) (zip2 at_least (replicate n 128) xs)) % 2 ^ 64 ≡ mask_l (map (top 7) (zip2 at_least (replicate n 128) xs))
mask_small xs n long few = mask_l-mod _ 64 (omega (arith, length-map (zip2 at_least (replicate n 128) xs) (top 7), length-zip2 at_least (replicate n 128) xs (length-replicate {A = ℕ} n 128 ∙ sym long), length-replicate {A = ℕ} n 128, few))

on_true : (b : Bool) (P : Type 0) → (b ≡ true → P) → OnTrue b P
on_true true P f = f refl
on_true false P f = tt

-- the test of a vector of n lanes, as the code makes it
pub ascii_from_lanes : (d : List ℕ) (i n : ℕ) → i + n ≤ length d → n ≤ 64 → OnTrue (mask_l (map (top 7) (zip2 at_least (replicate n 128) (chunk i n d))) % 2 ^ 64 == 0) (AreAsciiBetween d i (i + n))
ascii_from_lanes d i n room few =
    let v = chunk i n d in
    let long = length-chunk i n d room in
    let low : (mask_l (map (top 7) (zip2 at_least (replicate n 128) v)) % 2 ^ 64 == 0) ≡ true → (j : ℕ) → get_or v j 0 < 128 = λ e. none_high v (ap (λ m. mask_l (map (top 7) (zip2 at_least (replicate m 128) v))) long ∙ sym (mask_small v n long few) ∙ eqb-true _ _ e) in
    on_true _ (AreAsciiBetween d i (i + n)) (λ e k p q.
    let back : i + (k - i) ≡ k = omega arith in
    let is : get_or v (k - i) 0 ≡ get_or d k 0 = get_or-take n (drop i d) (k - i) 0 (omega arith) ∙ get_or-drop i d (k - i) 0 ∙ ap (λ j. get_or d j 0) back in
    omega (arith, low e (k - i), is))
