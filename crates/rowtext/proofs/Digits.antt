-- The text of an integer, digit by digit.
use Rattle.std.proofs.Common.{◌≡◌, ℕ, ℤ, pos, negsuc, ◌+◌, ◌-◌, ◌*◌, ◌/◌, ◌%◌, ◌^◌, ◌<◌, List, [], ◌∷◌, ◌++◌, Some, decimal, to_z, of_z, sym, ap, ◌∙◌, arith, add-one, append_assoc}
use Rattle.std.proofs.Math.Facts.{to_z-of_z}
use Rattle.std.proofs.Math.Nat.{pow-suc, pow-le-pow_right}
use Rattle.std.proofs.lemmas.Fmt.{decimal_step, decimal_digit}
use Rattle.std.specs.Fmt.{signed_decimal}
use Rattle.std.specs.Int.{w64}
use Rattle.std.specs.Int.RustNames.{FitsSigned}
use Rattle.serde_json.specs.Data.{unsigned}
use Rattle.serde_json.specs.Read.{number_of}
use Rattle.serde_json.specs.Find.{of_integer}
use Rattle.serde_json.proofs.Numbers.{number_of-decimal, number_of-negative}

-- one more digit
pub digit_after : (n d : ℕ) → 0 < n → d < 10 → 10 * n + d < 2 ^ 64 → decimal n ++ (48 + d) ∷ [] ≡ decimal (10 * n + d)
digit_after n d some small fits =
    let front : n ≡ (10 * n + d) / 10 = omega (arith, small) in
    let last : d ≡ (10 * n + d) % 10 = omega (arith, small) in
    ap (λ m. decimal m ++ (48 + d) ∷ []) front ∙ ap (λ e. decimal ((10 * n + d) / 10) ++ (48 + e) ∷ []) last ∙ sym (decimal_step (10 * n + d) (omega (arith, some)) fits)

-- the digits so far, and then the others
pub digits_after : (n d new b : ℕ) (all rest w : List ℕ) → 0 < n → d < 10 → b ≡ 48 + d → new ≡ n * 10 + d → new < 2 ^ 64 → all ≡ b ∷ rest → decimal n ++ all ≡ w → decimal new ++ rest ≡ w
digits_after n d new b all rest w some small is made fits split so =
    let grown : decimal new ≡ decimal n ++ b ∷ [] = ap decimal (omega (arith, made)) ∙ sym (digit_after n d some small (omega (arith, made, fits))) ∙ ap (λ x. decimal n ++ x ∷ []) (sym is) in
    ap (λ s. s ++ rest) grown ∙ append_assoc (decimal n) (b ∷ []) rest ∙ ap (λ s. decimal n ++ s) (sym split) ∙ so

-- a number below zero
pub negative_text : (n : ℕ) (z : ℤ) (s : List ℕ) → 0 < n → z ≡ negsuc (n - 1) → s ≡ decimal n → 45 ∷ s ≡ signed_decimal z
negative_text n z s some is text = ap (λ t. 45 ∷ t) (text ∙ ap decimal (omega (arith, some))) ∙ ap signed_decimal (sym is)

-- one digit
pub one_digit : (s rest : List ℕ) (b d : ℕ) → s ≡ b ∷ rest → b ≡ 48 + d → d < 10 → s ≡ decimal d ++ rest
one_digit s rest b d split is small = split ∙ ap (λ x. x ∷ rest) is ∙ ap (λ t. t ++ rest) (sym (decimal_digit d small))

pub natural_read : (s : List ℕ) (n : ℕ) → s ≡ decimal n → n < 2 ^ 64 → number_of s ≡ Some (unsigned n)
natural_read s n is small = ap number_of is ∙ number_of-decimal n small

pub integer_read : (s : List ℕ) (z : ℤ) → s ≡ signed_decimal z → FitsSigned w64 z → number_of s ≡ Some (of_integer z)
integer_read s (pos n) is fits = ap number_of is ∙ number_of-decimal n (omega (arith, fits))
integer_read s (negsuc n) is fits = ap number_of is ∙ number_of-negative n (omega (arith, fits))

-- a number's bits are those of the number
pub same_bits : (z : ℤ) → FitsSigned w64 z → to_z w64 (of_z w64 z) ≡ z
same_bits (pos n) fits = to_z-of_z {w = w64} {z = pos n} (record { sfits = omega (arith, fits) })
same_bits (negsuc n) fits = to_z-of_z {w = w64} {z = negsuc n} (record { sfits = omega (arith, fits) })

-- a number of i + 1 digits
pub few_below : (i n : ℕ) → i < 17 → n < 10 ^ (i + 1) → n < 10 ^ 17
few_below i n few small = let le = pow-le-pow_right {n = 10} (omega arith) {i = i + 1} {j = 17} (omega (arith, few)) in omega (arith, small, le)

pub one_longer : (i n d : ℕ) → n < 10 ^ (i + 1) → d < 10 → n * 10 + d < 10 ^ (i + 1 + 1)
one_longer i n d small one = let e : 10 ^ (i + 1 + 1) ≡ 10 ^ (i + 1) * 10 = ap (λ k. 10 ^ k) (add-one (i + 1)) ∙ pow-suc 10 (i + 1) in omega (arith, small, one, e)
