-- Numbers of fewer than eight bytes, read by two loads that overlap.
use Rattle.std.proofs.Common.{◌≡◌, ℕ, ◌+◌, ◌*◌, ◌-◌, ◌%◌, ◌^◌, ◌<◌, ◌≤◌, List, [], ◌∷◌, length, drop, get_or, arith}
use Rattle.std.specs.Prelude.{bit_and}
use Rattle.std.proofs.lemmas.Nat.{and_mask}
use Rattle.byteorder.specs.Endian.{big_number}

-- the second load of four bytes, moved to its end, without the bytes that are in the first
fours_mod : (xs : List ℕ) → ((i : ℕ) → get_or xs i 0 < 256) → 4 ≤ length xs → length xs < 8
    → big_number 4 xs * 2 ^ 32 + big_number 4 (drop (length xs - 4) xs) * 2 ^ (64 - 8 * length xs) % 2 ^ 64 % 2 ^ 32 ≡ big_number 8 xs
fours_mod [] low least most = absurd (omega (arith, least))
fours_mod (a ∷ []) low least most = absurd (omega (arith, least))
fours_mod (a ∷ b ∷ []) low least most = absurd (omega (arith, least))
fours_mod (a ∷ b ∷ c ∷ []) low least most = absurd (omega (arith, least))
fours_mod (a ∷ b ∷ c ∷ d ∷ []) low least most = omega (arith, low 0, low 1, low 2, low 3)
fours_mod (a ∷ b ∷ c ∷ d ∷ e ∷ []) low least most = omega (arith, low 0, low 1, low 2, low 3, low 4)
fours_mod (a ∷ b ∷ c ∷ d ∷ e ∷ f ∷ []) low least most = omega (arith, low 0, low 1, low 2, low 3, low 4, low 5)
fours_mod (a ∷ b ∷ c ∷ d ∷ e ∷ f ∷ g ∷ []) low least most = omega (arith, low 0, low 1, low 2, low 3, low 4, low 5, low 6)
fours_mod (a ∷ b ∷ c ∷ d ∷ e ∷ f ∷ g ∷ h ∷ xs) low least most = absurd (omega (arith, most))

-- two or three bytes, in the same way
twos_mod : (xs : List ℕ) → ((i : ℕ) → get_or xs i 0 < 256) → 2 ≤ length xs → length xs < 4
    → big_number 2 xs * 2 ^ 16 + big_number 2 (drop (length xs - 2) xs) * 2 ^ (32 - 8 * length xs) % 2 ^ 64 % 2 ^ 16 ≡ big_number 4 xs
twos_mod [] low least most = absurd (omega (arith, least))
twos_mod (a ∷ []) low least most = absurd (omega (arith, least))
twos_mod (a ∷ b ∷ []) low least most = omega (arith, low 0, low 1)
twos_mod (a ∷ b ∷ c ∷ []) low least most = omega (arith, low 0, low 1, low 2)
twos_mod (a ∷ b ∷ c ∷ d ∷ xs) low least most = absurd (omega (arith, most))

-- four to seven bytes, by two loads of four
pub fours : (xs : List ℕ) (first last : ℕ) → ((i : ℕ) → get_or xs i 0 < 256) → 4 ≤ length xs → length xs < 8 → first < 2 ^ 32
    → first ≡ big_number 4 xs → last ≡ big_number 4 (drop (length xs - 4) xs)
    → first * 4294967296 % 18446744073709551616 + bit_and (last * 2 ^ (64 - 8 * length xs) % 18446744073709551616) 4294967295 ≡ big_number 8 xs
fours xs first last low least most fits is_first is_last =
    let masked = and_mask (last * 2 ^ (64 - 8 * length xs) % 18446744073709551616) 32 in
    let whole : first * 4294967296 % 18446744073709551616 ≡ first * 2 ^ 32 = omega (arith, fits) in
    rw (masked, whole, is_first, is_last) (fours_mod xs low least most)

-- two or three bytes, by two loads of two
pub twos : (xs : List ℕ) (first last : ℕ) → ((i : ℕ) → get_or xs i 0 < 256) → 2 ≤ length xs → length xs < 4 → first < 2 ^ 16
    → first ≡ big_number 2 xs → last ≡ big_number 2 (drop (length xs - 2) xs)
    → first * 65536 % 18446744073709551616 + bit_and (last * 2 ^ (32 - 8 * length xs) % 18446744073709551616) 65535 ≡ big_number 4 xs
twos xs first last low least most fits is_first is_last =
    let masked = and_mask (last * 2 ^ (32 - 8 * length xs) % 18446744073709551616) 16 in
    let whole : first * 65536 % 18446744073709551616 ≡ first * 2 ^ 16 = omega (arith, fits) in
    rw (masked, whole, is_first, is_last) (twos_mod xs low least most)
