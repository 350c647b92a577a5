-- Decimals that are kept as bytes: the number of such bytes, and the bytes of a number, as functions: LogicalTypes.md, DECIMAL.
use Rattle.std.specs.Prelude.{ℕ, zero, suc, nat_le, ◌&&◌, ℤ, pos, unsigned_abs, List, [], ◌∷◌, length, Option, Some, None, option_and_then, if◌then◌else◌}
use Rattle.std.specs.Int.{int_div_euclid, int_rem_euclid}
use Rattle.schema.specs.Fits.{is_within}
use Rattle.valuetext.specs.TwosComplement.{signed_of, repeats_sign}
use Rattle.leaftext.specs.Finding.{first_below}
use Rattle.leaftext.specs.Texts.{decimal_text_of}

-- the text of the number that 1 to 16 bytes are, with a scale; None for no bytes, more than 16, or a scale above 38
abbrev pub bytes_text_of : ℕ → List ℕ → Option (List ℕ)
bytes_text_of scale bytes = if nat_le 1 (length bytes) && nat_le (length bytes) 16 then decimal_text_of scale (signed_of bytes) else None

-- the lowest byte of a number in two's complement
abbrev pub lowest_byte : ℤ → ℕ
lowest_byte number = unsigned_abs (int_rem_euclid number (pos 256))

-- n + 1 bytes that are the number, and then these; None if it needs more
abbrev pub bytes_before : ℕ → ℤ → List ℕ → Option (List ℕ)
bytes_before zero number after = if is_within 128 number then Some (lowest_byte number ∷ after) else None
bytes_before (suc n) number after = bytes_before n (int_div_euclid number (pos 256)) (lowest_byte number ∷ after)

-- n bytes, from 1 to 16, that are the number; None if it needs more
abbrev pub fixed_bytes : ℕ → ℤ → Option (List ℕ)
fixed_bytes zero number = None
fixed_bytes (suc n) number = if nat_le (suc n) 16 then bytes_before n number [] else None

-- the bytes, if the first one does not only repeat the sign of the second
abbrev pub unrepeated : List ℕ → Option (List ℕ)
unrepeated bytes = if repeats_sign bytes then None else Some bytes

-- the shortest bytes that are the number; None if it needs more than 16
unfoldable pub shortest_bytes : ℤ → Option (List ℕ)
shortest_bytes number = first_below 16 (λ n. option_and_then unrepeated (fixed_bytes (suc n) number))
