-- Packed numbers, as a list that is computed.
use Rattle.std.proofs.Common.{◌≡◌, ℕ, ◌+◌, ◌*◌, ◌<◌, ◌≤◌, List, length, take, map, arith}
use Rattle.std.specs.List.{range_with_len}
use Rattle.std.specs.Prelude.{slice_range}
use Rattle.std.proofs.lemmas.List.{length-take-le, get_or-take}
use Rattle.std.proofs.lemmas.List.FromFn.{length-map-range_with_len, get_or-map-range_with_len}
use Rattle.std.proofs.Math.Nat.{mul-le-mul_right}
use Rattle.bits.specs.Bits.{bits, number, IsPacked}

-- the first k numbers of w bits each
abbrev pub unpacked : ℕ → ℕ → List ℕ → List ℕ
unpacked w k bytes = map (λ (i : ℕ). number (slice_range (bits bytes) (i * w) ((i + 1) * w))) (range_with_len 0 k)

pub length-unpacked : (w k : ℕ) (bytes : List ℕ) → length (unpacked w k bytes) ≡ k
length-unpacked w k bytes = length-map-range_with_len (λ (i : ℕ). number (slice_range (bits bytes) (i * w) ((i + 1) * w))) 0 k

pub unpacked_is : (w k : ℕ) (bytes : List ℕ) → k * w ≤ 8 * length bytes → IsPacked bytes w (unpacked w k bytes)
unpacked_is w k bytes room = record {
  within = rw (length-unpacked w k bytes) room;
  each = λ i lt. get_or-map-range_with_len (λ (j : ℕ). number (slice_range (bits bytes) (j * w) ((j + 1) * w))) 0 k i i 0 (omega (arith, length-unpacked w k bytes)) (omega arith);
}

pub packed_take : (bytes : List ℕ) (w k : ℕ) (xs : List ℕ) → k ≤ length xs → IsPacked bytes w xs → IsPacked bytes w (take k xs)
packed_take bytes w k xs le p =
    let size : length (take k xs) ≡ k = length-take-le k xs le in
    record {
      within = rw size (omega (arith, p.within, mul-le-mul_right w le));
      each = λ i lt. let below : i < k = omega (arith, size) in rw (get_or-take k xs i 0 below) (p.each i (omega arith));
    }
