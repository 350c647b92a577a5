-- The digits of a byte in a table, and those of bytes one after another.
use Rattle.std.proofs.Common.{◌≡◌, ℕ, zero, suc, ◌+◌, ◌-◌, ◌*◌, ◌/◌, ◌%◌, ◌<◌, ◌≤◌, Bool, true, ◌&&◌, T, eqb, eqb→eq, List, ◌++◌, length, take, drop, get_or, slice_index, slice_set, inl, inr, eq-zero-or-pos, append_assoc, append-nil, arith}
use lib.Ieee.Fits.{and_l, and_r}
use Rattle.std.proofs.lemmas.List.{drop_all}
use Rattle.hex.specs.Hex.{encode_with, encode_lower, lower_digits}
use Rattle.hex.proofs.Pairs.{take-two_writes, encode_with-drop}
use Rattle.rowtext.specs.declared.hex_pairs.TheConstants.{PAIRS}

abbrev are_pairs : ℕ → Bool
are_pairs zero = true
are_pairs (suc b) = (eqb (get_or PAIRS (b * 2) 0) (get_or lower_digits (b / 16) 0) && eqb (get_or PAIRS (b * 2 + 1) 0) (get_or lower_digits (b % 16) 0)) && are_pairs b

below : (n b : ℕ) → T (are_pairs n) → b < n → (get_or PAIRS (b * 2) 0 ≡ get_or lower_digits (b / 16) 0) × (get_or PAIRS (b * 2 + 1) 0 ≡ get_or lower_digits (b % 16) 0)
below zero b t h = absurd (omega arith)
below (suc n) b t h =
    elim (eq-zero-or-pos (n - b)) [
      | inl z ↦ let e : b ≡ n = omega arith in let a = and_l _ (are_pairs n) t in rw e (eqb→eq _ _ (and_l _ _ a), eqb→eq _ _ (and_r _ _ a))
      | inr g ↦ below n b (and_r _ (are_pairs n) t) (omega arith)
    ]

-- the table has the digits of each byte
pub pair_at : (b : ℕ) → b < 256 → (get_or PAIRS (b * 2) 0 ≡ get_or lower_digits (b / 16) 0) × (get_or PAIRS (b * 2 + 1) 0 ≡ get_or lower_digits (b % 16) 0)
pair_at b h = below 256 b tt h

-- the digits of one byte more
pub pair_placed : (all buffer bytes : List ℕ) (i end x y : ℕ) → i < length bytes → end + 1 < length buffer → x ≡ slice_index lower_digits (slice_index bytes i / 16) → y ≡ slice_index lower_digits (slice_index bytes i % 16)
    → take end buffer ++ encode_lower (drop i bytes) ≡ all → take (end + 2) (slice_set (slice_set buffer end x) (end + 1) y) ++ encode_lower (drop (i + 1) bytes) ≡ all
pair_placed all buffer bytes i end x y within room high low so =
    let front = take-two_writes buffer end x y room in
    let rest = encode_with-drop lower_digits bytes i within in
    rw (front, append_assoc, high, low) (rw rest at so)

-- the digits of all bytes
pub all_placed : (all buffer bytes : List ℕ) (i end : ℕ) → length bytes ≤ i → take end buffer ++ encode_lower (drop i bytes) ≡ all → take end buffer ≡ all
unfolding encode_with
all_placed all buffer bytes i end over so =
    let none = drop_all i bytes over in
    rw (none, append-nil) at so
