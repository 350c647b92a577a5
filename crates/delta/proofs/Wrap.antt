-- Sums that wrap.
use Rattle.std.proofs.Common.{◌≡◌, ℕ, suc, ◌+◌, ◌-◌, ◌%◌, ◌^◌, ◌<◌, refl, sym, ap, subst, ◌∙◌, arith, to_z, of_z, FitsSigned}
use Rattle.std.specs.Prelude.{ℤ, pos, negsuc, ◌+ℤ◌, ◌-ℤ◌}
use Rattle.std.specs.Int.{Width, w32, w64, int_wrap, cast_signed, cast_unsigned}
use Rattle.std.proofs.lemmas.Int.{wrapping_add_is, int_wrap-add_left, int_wrap-add_right, SFits-int_wrap, of_z-to_z, to_z-of_z, int_wrap_fits, ints}

-- a number and the bits of another
step_is : (a z : ℤ) (b : ℕ) → FitsSigned w64 a → b < 2 ^ 64 → to_z w64 b ≡ int_wrap w64 z → to_z w64 ((of_z w64 a + b) % 2 ^ 64) ≡ int_wrap w64 (a +ℤ z)
step_is a z b fits lt is =
    let there : FitsSigned w64 (to_z w64 b) = subst (λ (y : ℤ). FitsSigned w64 y) (sym is) (SFits-int_wrap w64 z) in
    ap (λ (k : ℕ). to_z w64 ((of_z w64 a + k) % 2 ^ 64)) (sym (of_z-to_z w64 b lt)) ∙ wrapping_add_is w64 a (to_z w64 b) fits there
    ∙ ap (λ (y : ℤ). int_wrap w64 (a +ℤ y)) is ∙ int_wrap-add_right w64 a z

narrow_step_is : (a z : ℤ) (b : ℕ) → FitsSigned w32 a → b < 2 ^ 32 → to_z w32 b ≡ int_wrap w32 z → to_z w32 ((of_z w32 a + b) % 2 ^ 32) ≡ int_wrap w32 (a +ℤ z)
narrow_step_is a z b fits lt is =
    let there : FitsSigned w32 (to_z w32 b) = subst (λ (y : ℤ). FitsSigned w32 y) (sym is) (SFits-int_wrap w32 z) in
    ap (λ (k : ℕ). to_z w32 ((of_z w32 a + k) % 2 ^ 32)) (sym (of_z-to_z w32 b lt)) ∙ wrapping_add_is w32 a (to_z w32 b) fits there
    ∙ ap (λ (y : ℤ). int_wrap w32 (a +ℤ y)) is ∙ int_wrap-add_right w32 a z

-- an unsigned number read as signed
pub signed_is : (x : ℕ) → x < 2 ^ 64 → cast_signed w64 x ≡ int_wrap w64 (pos x)
unfolding int_wrap
signed_is x lt = ap (cast_signed w64) (let e : x ≡ x % 2 ^ 64 = omega arith in e)

pub narrow_signed_is : (x : ℕ) → x < 2 ^ 32 → cast_signed w32 x ≡ int_wrap w32 (pos x)
unfolding int_wrap
narrow_signed_is x lt = ap (cast_signed w32) (let e : x ≡ x % 2 ^ 32 = omega arith in e)

-- the sum in 64 bits
pub wide_sum : (a least : ℤ) (x : ℕ) (cast : ℤ) → FitsSigned w64 a → FitsSigned w64 least → x < 2 ^ 64 → cast ≡ cast_signed w64 x
    → to_z w64 ((of_z w64 a + (of_z w64 least + of_z w64 cast) % 2 ^ 64) % 2 ^ 64) ≡ int_wrap w64 (a +ℤ (least +ℤ pos x))
wide_sum a least x cast fits least_fits lt is =
    let number : of_z w64 cast ≡ x = ap (of_z w64) is ∙ of_z-to_z w64 x lt in
    let inner : to_z w64 ((of_z w64 least + of_z w64 cast) % 2 ^ 64) ≡ int_wrap w64 (least +ℤ pos x) =
    ap (λ (k : ℕ). to_z w64 ((of_z w64 least + k) % 2 ^ 64)) number ∙ step_is least (pos x) x least_fits lt (signed_is x lt) in
    step_is a (least +ℤ pos x) ((of_z w64 least + of_z w64 cast) % 2 ^ 64) fits (omega arith) inner

-- the low bits of an unsigned number
pub low_is : (n m : ℕ) (r : ℤ) → m ≡ n % 2 ^ 32 → r ≡ cast_signed w32 m → to_z w32 (of_z w32 r) ≡ int_wrap w32 (pos n)
unfolding int_wrap
low_is n m r low is = ap (λ (z : ℤ). to_z w32 (of_z w32 z)) is ∙ ap (to_z w32) (of_z-to_z w32 m (omega arith)) ∙ ap (cast_signed w32) low

-- the bits of a signed number are the number, modulo 2^32
pub bits_are : (z : ℤ) → FitsSigned w64 z → int_wrap w32 (pos (cast_unsigned w64 z)) ≡ int_wrap w32 z
unfolding int_wrap
bits_are (pos n) fits = refl
bits_are (negsuc n) fits =
    let small : n < 2 ^ 63 = fits.sfits in
    ap (cast_signed w32) (let e : (2 ^ 64 - suc n) % 2 ^ 32 ≡ 2 ^ 32 - 1 - n % 2 ^ 32 = omega arith in e)

-- the sum in 32 bits
pub narrow_sum : (a least low high : ℤ) (x : ℕ) → FitsSigned w32 a → FitsSigned w64 least → high ≡ int_wrap w32 (pos (cast_unsigned w64 least)) → low ≡ int_wrap w32 (pos x)
    → to_z w32 ((of_z w32 a + (of_z w32 high + of_z w32 low) % 2 ^ 32) % 2 ^ 32) ≡ int_wrap w32 (a +ℤ (least +ℤ pos x))
narrow_sum a least low high x fits least_fits high_is low_is =
    let least_low : high ≡ int_wrap w32 least = high_is ∙ bits_are least least_fits in
    let high_fits : FitsSigned w32 high = subst (λ (y : ℤ). FitsSigned w32 y) (sym least_low) (SFits-int_wrap w32 least) in
    let low_fits : FitsSigned w32 low = subst (λ (y : ℤ). FitsSigned w32 y) (sym low_is) (SFits-int_wrap w32 (pos x)) in
    let inner : to_z w32 ((of_z w32 high + of_z w32 low) % 2 ^ 32) ≡ int_wrap w32 (least +ℤ pos x) =
    wrapping_add_is w32 high low high_fits low_fits ∙ ap (λ (y : ℤ). int_wrap w32 (y +ℤ low)) least_low ∙ int_wrap-add_left w32 least low
    ∙ ap (λ (y : ℤ). int_wrap w32 (least +ℤ y)) low_is ∙ int_wrap-add_right w32 least (pos x) in
    narrow_step_is a (least +ℤ pos x) ((of_z w32 high + of_z w32 low) % 2 ^ 32) fits (omega arith) inner

pub narrowed : (z r : ℤ) → FitsSigned w64 z → r ≡ int_wrap w32 (pos (cast_unsigned w64 z)) → to_z w32 (of_z w32 r) ≡ int_wrap w32 z
narrowed z r fits is =
    let e : r ≡ int_wrap w32 z = is ∙ bits_are z fits in
    let there : FitsSigned w32 r = subst (λ (y : ℤ). FitsSigned w32 y) (sym e) (SFits-int_wrap w32 z) in
    to_z-of_z w32 r there ∙ e

-- what leads from a number to the next
leads_on : (a b least : ℤ) → (a +ℤ least) +ℤ ((b -ℤ a) -ℤ least) ≡ b
leads_on a b least = omega (arith, ints)

regrouped : (a least x : ℤ) → a +ℤ (least +ℤ x) ≡ (a +ℤ least) +ℤ x
regrouped a least x = omega (arith, ints)

differs : (w : Width) (a b least : ℤ) → int_wrap w ((a +ℤ least) +ℤ (int_wrap w (b -ℤ a) -ℤ least)) ≡ int_wrap w b
differs w a b least =
    ap (int_wrap w) (moved (int_wrap w (b -ℤ a)) a least) ∙ int_wrap-add_left w (b -ℤ a) a ∙ ap (int_wrap w) (back a b)
  where
    moved : (d a least : ℤ) → (a +ℤ least) +ℤ (d -ℤ least) ≡ d +ℤ a
    moved d a least = omega (arith, ints)

    back : (a b : ℤ) → (b -ℤ a) +ℤ a ≡ b
    back a b = omega (arith, ints)

pub leads : (w : Width) (a b least delta gap : ℤ) (number : ℕ) → delta ≡ int_wrap w (b -ℤ a) → gap ≡ int_wrap w (delta -ℤ least) → int_wrap w (pos number) ≡ gap → FitsSigned w b
    → int_wrap w (a +ℤ (least +ℤ pos number)) ≡ b
leads w a b least delta gap number delta_is gap_is number_is fits =
    ap (int_wrap w) (regrouped a least (pos number)) ∙ sym (int_wrap-add_right w (a +ℤ least) (pos number)) ∙ ap (λ (z : ℤ). int_wrap w ((a +ℤ least) +ℤ z)) (number_is ∙ gap_is)
    ∙ int_wrap-add_right w (a +ℤ least) (delta -ℤ least) ∙ ap (λ (z : ℤ). int_wrap w ((a +ℤ least) +ℤ (z -ℤ least))) delta_is ∙ differs w a b least ∙ int_wrap_fits w b fits

-- the bits of a number of 64 bits, and of 32 bits
pub wide_bits : (z : ℤ) (n : ℕ) → FitsSigned w64 z → n < 2 ^ 64 → n ≡ cast_unsigned w64 z → int_wrap w64 (pos n) ≡ z
wide_bits z n fits lt is = sym (signed_is n lt) ∙ ap (cast_signed w64) is ∙ to_z-of_z w64 z fits

pub narrow_bits : (z : ℤ) (n : ℕ) → FitsSigned w32 z → n < 2 ^ 32 → n ≡ cast_unsigned w32 z → int_wrap w32 (pos n) ≡ z
unfolding int_wrap
narrow_bits z n fits lt is = ap (cast_signed w32) (let e : n % 2 ^ 32 ≡ n = omega arith in e) ∙ ap (cast_signed w32) is ∙ to_z-of_z w32 z fits
