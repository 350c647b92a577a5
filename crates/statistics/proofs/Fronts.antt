-- Texts in the order of the numbers that their first bytes make.
use Rattle.std.proofs.Common.{◌≡◌, ℕ, zero, suc, ◌+◌, ◌*◌, ◌^◌, ◌<◌, ◌≤◌, false, List, [], ◌∷◌, length, drop, get_or, refl, sym, ap, ◌∙◌, arith, inl, inr, lt-ltb as yes}
use Rattle.std.specs.Prelude.{nat_lt}
use Rattle.std.specs.List.{AllByRecursion}
use Rattle.std.proofs.lemmas.Bool.{cases_lt}
use Rattle.std.proofs.lemmas.Bool.Decides.{nat_tests}
use Rattle.std.proofs.lemmas.List.Elements.{recursion_from_All}
use Rattle.std.proofs.Math.Nat.{mul-le-mul_right, add-mul}
use Rattle.std.proofs.lemmas.Cmp.{nat_list_cmp_total}
use Rattle.std.specs.declared.cmp.Ordering.{Ordering}
use Rattle.std.specs.declared.cmp.Ordering.TheVariants.{Less, Equal, Greater}
use Rattle.std.specs.Ordering.{nat_cmp, ordering_then, ordering_reverse, is_lt, is_gt}
use Rattle.std.specs.Cmp.Lexicographic.{slice_cmp}
use Rattle.byteorder.specs.Endian.{big_from, big_number}
use Rattle.byteorder.specs.Numbers.{big_from-cons}
use Rattle.statistics.specs.inner.Fronts.{IsFrontOf}

abbrev AreBytes : List ℕ → Type 0
AreBytes = AllByRecursion (λ b. b < 256)

less : (x y : ℕ) → x < y → nat_cmp x y ≡ Less
less x y lt = grind (arith, nat_tests)

greater : (x y : ℕ) → y < x → nat_cmp x y ≡ Greater
greater x y lt = grind (arith, nat_tests)

equal : (x y : ℕ) → x ≡ y → nat_cmp x y ≡ Equal
equal x y e = grind (arith, nat_tests)

none : (i n : ℕ) → big_from i n [] ≡ 0
none i zero = refl
none i (suc n) = omega (arith, none (suc i) n)

split : (n x : ℕ) (xs : List ℕ) → big_number (suc n) (x ∷ xs) ≡ x * 256 ^ n + big_number n xs
split n x xs = ap (λ (k : ℕ). x * 256 ^ n + k) (big_from-cons 0 n x xs)

positive : (n : ℕ) → 0 < 256 ^ n
positive zero = omega arith
positive (suc n) = omega (arith, positive n)

small : (n : ℕ) (xs : List ℕ) → AreBytes xs → big_number n xs < 256 ^ n
small n [] are = omega (arith, none 0 n, positive n)
small zero (x ∷ xs) are = omega arith
small (suc n) (x ∷ xs) are = omega (arith, split n x xs, small n xs are.1, mul-le-mul_right {m = x} {n = 255} (256 ^ n) (omega (arith, are.0)))

-- where the number is less, the text comes before the other
before : (n : ℕ) (xs ys : List ℕ) → AreBytes xs → AreBytes ys → big_number n xs < big_number n ys → slice_cmp nat_cmp xs ys ≡ Less
before zero xs ys are of lt = absurd (omega (arith, lt))
before (suc n) [] [] are of lt = absurd (omega (arith, lt))
before (suc n) (x ∷ xs) [] are of lt = absurd (omega (arith, none 0 (suc n), lt))
before (suc n) [] (y ∷ ys) are of lt = refl
before (suc n) (x ∷ xs) (y ∷ ys) are of lt =
    elim (cases_lt x y) [
      | inl below ↦ ap (λ (o : Ordering). ordering_then o (slice_cmp nat_cmp xs ys)) (less x y below)
      | inr not_below ↦
          elim (cases_lt y x) [
            | inl above ↦ absurd (omega (arith, mul-le-mul_right {m = y + 1} {n = x} (256 ^ n) (omega (arith, above)), add-mul y 1 (256 ^ n), split n x xs, split n y ys, small n ys of.1, lt))
            | inr not_above ↦
                let same : x ≡ y = omega (arith, not_below, not_above) in
                let products : x * 256 ^ n ≡ y * 256 ^ n = ap (λ (k : ℕ). k * 256 ^ n) same in
                let rest : big_number n xs < big_number n ys = omega (arith, products, split n x xs, split n y ys, lt) in
                ap (λ (o : Ordering). ordering_then o (slice_cmp nat_cmp xs ys)) (equal x y same) ∙ before n xs ys are.1 of.1 rest
          ]
    ]

-- and where it is greater, behind it
behind : (n : ℕ) (xs ys : List ℕ) → AreBytes xs → AreBytes ys → big_number n ys < big_number n xs → slice_cmp nat_cmp xs ys ≡ Greater
behind n xs ys are of lt = nat_list_cmp_total.antisymm xs ys ∙ ap ordering_reverse (before n ys xs of are lt)

lesser_head : (n x y : ℕ) (xs ys : List ℕ) → AreBytes xs → x < y → big_number (suc n) (x ∷ xs) < big_number (suc n) (y ∷ ys)
lesser_head n x y xs ys are lt = omega (arith, mul-le-mul_right {m = x + 1} {n = y} (256 ^ n) (omega (arith, lt)), add-mul x 1 (256 ^ n), split n x xs, split n y ys, small n xs are)

-- bytes of the same number have the same first byte
same_head : (n x y : ℕ) (xs ys : List ℕ) → AreBytes xs → AreBytes ys → big_number (suc n) (x ∷ xs) ≡ big_number (suc n) (y ∷ ys) → x ≡ y
same_head n x y xs ys are of e =
    elim (cases_lt x y) [
      | inl below ↦ absurd (omega (arith, lesser_head n x y xs ys are below, e))
      | inr not_below ↦
          elim (cases_lt y x) [
            | inl above ↦ absurd (omega (arith, lesser_head n y x ys xs of above, e))
            | inr not_above ↦ omega (arith, not_below, not_above)
          ]
    ]

same_rest : (n x y : ℕ) (xs ys : List ℕ) → x ≡ y → big_number (suc n) (x ∷ xs) ≡ big_number (suc n) (y ∷ ys) → big_number n xs ≡ big_number n ys
same_rest n x y xs ys same e =
    let products : x * 256 ^ n ≡ y * 256 ^ n = ap (λ (k : ℕ). k * 256 ^ n) same in
    omega (arith, products, split n x xs, split n y ys, e)

-- the order of what follows n bytes of the same number
rest_decides : (n : ℕ) (xs ys : List ℕ) → AreBytes xs → AreBytes ys → n ≤ length xs → n ≤ length ys → big_number n xs ≡ big_number n ys → slice_cmp nat_cmp (drop n xs) (drop n ys) ≡ slice_cmp nat_cmp xs ys
rest_decides zero xs ys are of a b e = refl
rest_decides (suc n) [] ys are of a b e = absurd (omega (arith, a))
rest_decides (suc n) (x ∷ xs) [] are of a b e = absurd (omega (arith, b))
rest_decides (suc n) (x ∷ xs) (y ∷ ys) are of a b e =
    let same = same_head n x y xs ys are.1 of.1 e in
    rest_decides n xs ys are.1 of.1 (omega (arith, a)) (omega (arith, b)) (same_rest n x y xs ys same e)
    ∙ sym (ap (λ (o : Ordering). ordering_then o (slice_cmp nat_cmp xs ys)) (equal x y same))

one_less : (a b : ℕ) → nat_cmp (suc a) (suc b) ≡ nat_cmp a b
one_less a b = grind (arith, nat_tests)

-- bytes of the same number come in the order of their lengths, where one has no byte that is not in it
lengths_decide : (n : ℕ) (xs ys : List ℕ) → AreBytes xs → AreBytes ys → (n < length xs → length ys ≤ n) → big_number n xs ≡ big_number n ys → nat_cmp (length xs) (length ys) ≡ slice_cmp nat_cmp xs ys
lengths_decide n [] [] are of short e = equal 0 0 refl
lengths_decide n [] (y ∷ ys) are of short e = less 0 (length (y ∷ ys)) (omega arith)
lengths_decide n (x ∷ xs) [] are of short e = greater (length (x ∷ xs)) 0 (omega arith)
lengths_decide zero (x ∷ xs) (y ∷ ys) are of short e = absurd (omega (arith, short (omega arith)))
lengths_decide (suc n) (x ∷ xs) (y ∷ ys) are of short e =
    let same = same_head n x y xs ys are.1 of.1 e in
    one_less (length xs) (length ys) ∙ lengths_decide n xs ys are.1 of.1 (λ lt. omega (arith, short (omega (arith, lt)))) (same_rest n x y xs ys same e)
    ∙ sym (ap (λ (o : Ordering). ordering_then o (slice_cmp nat_cmp xs ys)) (equal x y same))

-- the bytes of a list in memory
are_bytes : (xs : List ℕ) → ((i : ℕ) → get_or xs i 0 < 256) → AreBytes xs
are_bytes [] low = tt
are_bytes (x ∷ xs) low = (low 0, are_bytes xs (λ i. low (suc i)))

-- texts whose numbers differ
pub numbers_decide : (xs ys : List ℕ) (a b : ℕ) → ((i : ℕ) → get_or xs i 0 < 256) → ((i : ℕ) → get_or ys i 0 < 256) → a ≡ big_number 8 xs → b ≡ big_number 8 ys → (a ≡ b → ⊥) → nat_cmp a b ≡ slice_cmp nat_cmp xs ys
numbers_decide xs ys a b low other p q unequal =
    let are = are_bytes xs low in
    let of = are_bytes ys other in
    elim (cases_lt a b) [
      | inl lt ↦ less a b lt ∙ sym (before 8 xs ys are of (omega (arith, p, q, lt)))
      | inr past ↦
          let lt : b < a = omega (arith, past, unequal) in
          greater a b lt ∙ sym (behind 8 xs ys are of (omega (arith, p, q, lt)))
    ]

-- texts whose numbers are the same, and that have more bytes
pub rests_decide : (xs ys : List ℕ) → ((i : ℕ) → get_or xs i 0 < 256) → ((i : ℕ) → get_or ys i 0 < 256) → 8 ≤ length xs → 8 ≤ length ys → big_number 8 xs ≡ big_number 8 ys → slice_cmp nat_cmp (drop 8 xs) (drop 8 ys) ≡ slice_cmp nat_cmp xs ys
rests_decide xs ys low other a b e = rest_decides 8 xs ys (are_bytes xs low) (are_bytes ys other) a b e

-- texts whose numbers are the same, and one of which has no more bytes
pub ends_decide : (xs ys : List ℕ) → ((i : ℕ) → get_or xs i 0 < 256) → ((i : ℕ) → get_or ys i 0 < 256) → (8 < length xs → length ys ≤ 8) → big_number 8 xs ≡ big_number 8 ys → nat_cmp (length xs) (length ys) ≡ slice_cmp nat_cmp xs ys
ends_decide xs ys low other short e = lengths_decide 8 xs ys (are_bytes xs low) (are_bytes ys other) short e

no : (a b : ℕ) → b < a → nat_lt a b ≡ false
no a b lt = grind (arith, nat_tests)

-- texts whose numbers differ come in the order of the numbers
pub fronts_decide : (xs ys : List ℕ) (a b : ℕ) → IsFrontOf xs a → IsFrontOf ys b → (a ≡ b → ⊥) → (nat_lt a b ≡ is_lt (slice_cmp nat_cmp xs ys)) × (nat_lt b a ≡ is_gt (slice_cmp nat_cmp xs ys))
fronts_decide xs ys a b p q unequal =
    let are = recursion_from_All (λ k. k < 256) xs p.are_bytes in
    let of = recursion_from_All (λ k. k < 256) ys q.are_bytes in
    elim (cases_lt a b) [
      | inl lt ↦
          let comes : slice_cmp nat_cmp xs ys ≡ Less = before 8 xs ys are of (omega (arith, p.number, q.number, lt)) in
          (yes a b lt ∙ sym (ap is_lt comes), no b a lt ∙ sym (ap is_gt comes))
      | inr past ↦
          let lt : b < a = omega (arith, past, unequal) in
          let comes : slice_cmp nat_cmp xs ys ≡ Greater = behind 8 xs ys are of (omega (arith, p.number, q.number, lt)) in
          (no a b lt ∙ sym (ap is_lt comes), yes b a lt ∙ sym (ap is_gt comes))
    ]
