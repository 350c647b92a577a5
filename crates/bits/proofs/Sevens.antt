-- Powers of two, seven bits at a time.
use Rattle.std.proofs.Common.{◌≡◌, ◌+◌, ◌*◌, ◌^◌, ◌∙◌, ℕ, zero, suc, refl, sym, ap, arith, pow-add, pow-suc}

-- a power of 128 is one of 2
pub powers_of_128 : (k : ℕ) → 128 ^ k ≡ 2 ^ (7 * k)
powers_of_128 zero = refl
powers_of_128 (suc k) =
    let e : 7 * suc k ≡ 7 * k + 7 = omega arith in
    pow-suc 128 k ∙ ap (λ (n : ℕ). n * 128) (powers_of_128 k) ∙ sym (ap (λ (n : ℕ). 2 ^ n) e ∙ pow-add 2 (7 * k) 7)

-- seven more bits
pub seven_more : (k : ℕ) → 2 ^ (7 * suc k) ≡ 128 * 2 ^ (7 * k)
seven_more k = ap (λ (j : ℕ). 2 ^ j) (let e : 7 * suc k ≡ 7 + 7 * k = omega arith in e) ∙ pow-add 2 7 (7 * k)
