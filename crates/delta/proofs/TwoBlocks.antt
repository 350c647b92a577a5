-- A worked example of two blocks: 0 to 128, 131, 130.
use Rattle.std.proofs.Common.{ℕ, zero, suc, ◌+◌, ◌*◌, ◌^◌, ◌<◌, ◌≤◌, List, [], ◌∷◌, ◌++◌, take, drop, map, replicate, refl, arith, inl, inr}
use Rattle.std.specs.Prelude.{ℤ, pos, negsuc, ◌+ℤ◌, ◌≤ℤ◌, slice_index}
use Rattle.std.specs.Int.{w32, int_wrap}
use Rattle.std.specs.Int.Signed.{≤ℤ_refl, le_z_yes}
use Rattle.std.proofs.lemmas.List.Elements.{All-nil, All-cons, All-replicate}
use Rattle.bits.specs.Varint.{IsShortestUleb}
use Rattle.delta.specs.Delta.{IsMiniblock, AreMiniblocks, IsDelta}
use Rattle.delta.specs.Written.{IsLeastWidth, IsWrittenBlock, IsWrittenDelta}
use Rattle.delta.specs.Examples.{two_blocks_bytes, two_blocks_values}
use Rattle.delta.proofs.Packed.{unpacked_is}
use Rattle.delta.proofs.Taking.{zeros_packed}
use Rattle.delta.proofs.Varints.{short, two}

abbrev first_block : List ℕ
first_block = drop 6 two_blocks_bytes

abbrev second_block : List ℕ
second_block = drop 11 two_blocks_bytes

abbrev numbers : List ℕ
numbers = 4 ∷ replicate 31 0

short_is : (n : ℕ) (rest : List ℕ) → n < 128 → IsShortestUleb (n ∷ rest) n 1
short_is n rest lt = record { spelled = short n rest lt; shortest = inl refl }

empty : (bytes : List ℕ) → IsMiniblock 32 0 bytes (replicate 32 0) 0
empty bytes = record { wide = omega arith; count = refl; packed = zeros_packed bytes 0 32 refl; ends = refl }

-- four miniblocks of no bits
four_empty : (bytes : List ℕ) → AreMiniblocks 32 (0 ∷ 0 ∷ 0 ∷ 0 ∷ []) bytes (replicate 128 0) 0
four_empty bytes = (replicate 32 0, replicate 96 0, 0, 0, empty bytes, (replicate 32 0, replicate 64 0, 0, 0, empty bytes, (replicate 32 0, replicate 32 0, 0, 0, empty bytes, (replicate 32 0, [], 0, 0, empty bytes, (refl, refl), refl, refl), refl, refl), refl, refl), refl, refl)

last_part : AreMiniblocks 32 (3 ∷ []) (drop 16 two_blocks_bytes) numbers 12
last_part = (numbers, [], 12, 0, record { wide = omega arith; count = refl; packed = unpacked_is 3 32 (drop 16 two_blocks_bytes) (omega arith); ends = refl }, (refl, refl), refl, refl)

abbrev ones : List ℤ
ones = replicate 128 (pos 1)

pub two_blocks_stand : IsDelta w32 two_blocks_bytes 131 two_blocks_values 28
unfolding int_wrap
two_blocks_stand = record {
  miniblocks = 4;
  size = 32;
  needed = 5;
  first = pos 0;
  blocks = ones ∷ map (λ x. negsuc 0 +ℤ pos x) numbers ∷ [];
  at = 6;
  body = 22;
  begins = record {
    says = (2, 4, two 128 1 128 _ (omega arith) (omega arith) (omega arith) refl, (1, 3, short 4 _ (omega arith), (2, 1, two 131 1 131 _ (omega arith) (omega arith) (omega arith) refl, (1, 0, short 0 _ (omega arith), refl, refl), refl), refl), refl);
    some = omega arith;
    whole = refl;
    whole_parts = refl;
  };
  enough = omega arith;
  fewest = λ k lt. omega (arith, lt);
  spelled = (
    5,
    17,
    omega arith,
    record {
      least = pos 1;
      at = 1;
      numbers = replicate 128 0;
      body = 0;
      says = short 2 _ (omega arith);
      widths = omega arith;
      packed = four_empty _;
      stands_for = refl;
      ends = refl;
    },
    (
      17,
      0,
      omega arith,
      record {
        least = negsuc 0;
        at = 1;
        numbers = numbers;
        body = 12;
        says = short 1 _ (omega arith);
        widths = omega arith;
        packed = last_part;
        stands_for = refl;
        ends = refl;
      },
      (refl, refl),
      refl,
    ),
    refl,
  );
  stands_for = refl;
  ends = refl;
}

-- zeros have no bits
zeros_width : (n : ℕ) → IsLeastWidth (replicate n 0) 0
zeros_width n = record { enough = All-replicate (λ x. x < 2 ^ 0) n 0 (omega arith); fewest = λ b all. omega arith }

three_bits : (b : ℕ) → 4 < 2 ^ b → 3 ≤ b
three_bits zero lt = absurd (omega arith)
three_bits (suc zero) lt = absurd (omega arith)
three_bits (suc (suc zero)) lt = absurd (omega arith)
three_bits (suc (suc (suc b))) lt = omega arith

first_widths : (m : ℕ) → m < 4 → IsLeastWidth (take 32 (drop (32 * m) (replicate 128 0))) (slice_index first_block (1 + m))
first_widths zero lt = zeros_width 32
first_widths (suc zero) lt = zeros_width 32
first_widths (suc (suc zero)) lt = zeros_width 32
first_widths (suc (suc (suc zero))) lt = zeros_width 32
first_widths (suc (suc (suc (suc m)))) lt = absurd (omega arith)

last_widths : (m : ℕ) → m < 4 → IsLeastWidth (take 32 (drop (32 * m) (numbers ++ replicate 96 0))) (slice_index second_block (1 + m))
last_widths zero lt = record {
  enough = All-cons (λ x. x < 2 ^ 3) 4 (replicate 31 0) (omega arith) (All-replicate (λ x. x < 2 ^ 3) 31 0 (omega arith));
  fewest = λ b all. three_bits b (all 0 0 (omega arith));
}
last_widths (suc zero) lt = zeros_width 32
last_widths (suc (suc zero)) lt = zeros_width 32
last_widths (suc (suc (suc zero))) lt = zeros_width 32
last_widths (suc (suc (suc (suc m)))) lt = absurd (omega arith)

first_narrow : (m : ℕ) → m < 4 → slice_index first_block (1 + m) ≤ 32
first_narrow zero lt = omega arith
first_narrow (suc zero) lt = omega arith
first_narrow (suc (suc zero)) lt = omega arith
first_narrow (suc (suc (suc zero))) lt = omega arith
first_narrow (suc (suc (suc (suc m)))) lt = absurd (omega arith)

last_narrow : (m : ℕ) → m < 4 → slice_index second_block (1 + m) ≤ 32
last_narrow zero lt = omega arith
last_narrow (suc zero) lt = omega arith
last_narrow (suc (suc zero)) lt = omega arith
last_narrow (suc (suc (suc zero))) lt = omega arith
last_narrow (suc (suc (suc (suc m)))) lt = absurd (omega arith)

first_written : IsWrittenBlock w32 first_block ones 5
first_written = record {
  least = pos 1;
  at = 1;
  numbers = replicate 128 0;
  body = 0;
  least_is = record { there = (0, omega arith, refl); below = All-replicate (λ z. pos 1 ≤ℤ z) 128 (pos 1) (≤ℤ_refl (pos 1)) };
  says = short_is 2 _ (omega arith);
  numbers_are = refl;
  room = omega arith;
  widths = first_widths;
  narrow = first_narrow;
  packed = four_empty _;
  ends = refl;
}

last_written : IsWrittenBlock w32 second_block (pos 3 ∷ negsuc 0 ∷ []) 17
last_written = record {
  least = negsuc 0;
  at = 1;
  numbers = numbers ++ replicate 96 0;
  body = 12;
  least_is = record {
    there = (1, omega arith, refl);
    below = All-cons (λ z. negsuc 0 ≤ℤ z) (pos 3) (negsuc 0 ∷ []) (le_z_yes tt) (All-cons (λ z. negsuc 0 ≤ℤ z) (negsuc 0) [] (≤ℤ_refl (negsuc 0)) (All-nil (λ z. negsuc 0 ≤ℤ z)));
  };
  says = short_is 1 _ (omega arith);
  numbers_are = refl;
  room = omega arith;
  widths = last_widths;
  narrow = last_narrow;
  packed = last_part;
  ends = refl;
}

two_bytes : (b : ℕ) (rest : List ℕ) → 128 ≤ b → b < 256 → IsShortestUleb (b ∷ 1 ∷ rest) b 2
two_bytes b rest high byte = record { spelled = two b 1 b rest high (omega arith) byte (omega arith); shortest = inr (omega arith) }

pub two_blocks_written : IsWrittenDelta w32 two_blocks_values two_blocks_bytes 28
unfolding int_wrap
two_blocks_written = record {
  at = 6;
  body = 22;
  header = (2, 4, two_bytes 128 _ (omega arith) (omega arith), (1, 3, short_is 4 _ (omega arith), (2, 1, two_bytes 131 _ (omega arith) (omega arith), (1, 0, short_is 0 _ (omega arith), refl, refl), refl), refl), refl);
  blocks = (5, 17, first_written, (17, 0, last_written, refl, refl), refl);
  ends = refl;
}
