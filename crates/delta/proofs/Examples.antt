-- Worked examples.
use Rattle.std.proofs.Common.{◌≡◌, ℕ, zero, suc, ◌+◌, ◌*◌, ◌<◌, ◌≤◌, List, [], ◌∷◌, length, take, drop, map, refl, sym, arith}
use Rattle.std.specs.Prelude.{ℤ, pos, negsuc, ◌+ℤ◌, slice_index}
use Rattle.std.specs.Int.{Width, w32, w64, int_wrap}
use Rattle.std.proofs.lemmas.List.{append-nil}
use Rattle.bits.specs.Varint.{IsUleb, zigzag_of}
use Rattle.bits.specs.Codec.{NothingStands}
use Rattle.delta.specs.Delta.{IsMiniblock, IsHeader, joined, sums, IsDelta}
use Rattle.delta.specs.ByteDeltas.{sizes, IsByteLengths, IsPrefixed}
use Rattle.delta.proofs.Packed.{unpacked, length-unpacked, unpacked_is}
use Rattle.delta.proofs.Varints.{short, two}
use Rattle.delta.proofs.One.{one_delta, one_header}

high : (rest : List ℕ) (k : ℕ) → k + 1 < 10 → 128 ≤ slice_index (255 ∷ 255 ∷ 255 ∷ 255 ∷ 255 ∷ 255 ∷ 255 ∷ 255 ∷ 255 ∷ 1 ∷ rest) k
high rest zero lt = omega arith
high rest (suc zero) lt = omega arith
high rest (suc (suc zero)) lt = omega arith
high rest (suc (suc (suc zero))) lt = omega arith
high rest (suc (suc (suc (suc zero)))) lt = omega arith
high rest (suc (suc (suc (suc (suc zero))))) lt = omega arith
high rest (suc (suc (suc (suc (suc (suc zero)))))) lt = omega arith
high rest (suc (suc (suc (suc (suc (suc (suc zero))))))) lt = omega arith
high rest (suc (suc (suc (suc (suc (suc (suc (suc zero)))))))) lt = omega arith
high rest (suc (suc (suc (suc (suc (suc (suc (suc (suc k))))))))) lt = absurd (omega arith)

ten : (rest : List ℕ) → IsUleb (255 ∷ 255 ∷ 255 ∷ 255 ∷ 255 ∷ 255 ∷ 255 ∷ 255 ∷ 255 ∷ 1 ∷ rest) 18446744073709551615 10
ten rest = record { begins = omega arith; within = omega arith; ten = omega arith; more = high rest; last = omega arith; number = refl; fits = omega arith }

-- blocks of 128 values in four miniblocks: the header before `rest`
header : (n first_used : ℕ) (first : ℤ) (rest : List ℕ) → n < 128 → IsUleb rest (zigzag_of first) first_used → IsHeader (128 ∷ 1 ∷ 4 ∷ n ∷ rest) 4 32 n first (4 + first_used)
header n first_used first rest small says = record {
  says = (2, 2 + first_used, two 128 1 128 (4 ∷ n ∷ rest) (omega arith) (omega arith) (omega arith) refl, (1, 1 + first_used, short 4 (n ∷ rest) (omega arith), (1, first_used, short n rest small, (first_used, 0, says, refl, omega arith), omega arith), omega arith), omega arith);
  some = omega arith;
  whole = refl;
  whole_parts = refl;
}

-- the deltas of one miniblock of 32
abbrev deltas_of : ℤ → ℕ → List ℕ → List ℤ
deltas_of least width body = map (λ x. least +ℤ pos x) (unpacked width 32 body)

-- one miniblock is needed
one_part : (w : Width) (n at head width used : ℕ) (first least : ℤ) (bytes : List ℕ) (values : List ℤ) → 1 < n → n ≤ 33
    → IsHeader bytes 4 32 n first at → IsUleb (drop at bytes) (zigzag_of least) head → head + 4 ≤ length (drop at bytes)
    → take 1 (take 4 (drop head (drop at bytes))) ≡ width ∷ [] → width ≤ 64 → 4 * width ≤ length (drop (head + 4) (drop at bytes))
    → values ≡ sums w first (joined (deltas_of least width (drop (head + 4) (drop at bytes)) ∷ [])) n → used ≡ at + (head + 4 + 4 * width)
    → IsDelta w bytes n values used
one_part w n at head width used first least bytes values some few begins says_least room width_is wide body values_are used_is =
    let block = drop (head + 4) (drop at bytes) in
    let numbers = unpacked width 32 block in
    let miniblock : IsMiniblock 32 width block numbers (4 * width) = record { wide = wide; count = length-unpacked width 32 block; packed = unpacked_is width 32 block (omega (arith, body)); ends = omega arith } in
    record {
      miniblocks = 4;
      size = 32;
      needed = 1;
      first = first;
      blocks = deltas_of least width block ∷ [];
      at = at;
      body = head + 4 + 4 * width;
      begins = begins;
      enough = omega arith;
      fewest = λ k lt. omega arith;
      spelled = (
        head + 4 + 4 * width,
        0,
        omega arith,
        record {
          least = least;
          at = head;
          numbers = numbers;
          body = 4 * width;
          says = says_least;
          widths = room;
          packed = rw width_is (numbers, [], 4 * width, 0, miniblock, (refl, refl), sym (append-nil numbers), omega arith);
          stands_for = refl;
          ends = refl;
        },
        (refl, refl),
        omega arith,
      );
      stands_for = values_are;
      ends = used_is;
    }

-- 1, 2, 3, 4, 5: all widths are 0, and no miniblock has a body
pub one_to_five : IsDelta w32 (128 ∷ 1 ∷ 4 ∷ 5 ∷ 2 ∷ 2 ∷ 0 ∷ 0 ∷ 0 ∷ 0 ∷ []) 5 (pos 1 ∷ pos 2 ∷ pos 3 ∷ pos 4 ∷ pos 5 ∷ []) 10
unfolding int_wrap
one_to_five = one_part w32 5 5 1 0 10 (pos 1) (pos 1) _ _ (omega arith) (omega arith) (header 5 1 (pos 1) _ (omega arith) (short 2 _ (omega arith))) (short 2 _ (omega arith)) (omega arith) refl (omega arith) (omega arith) refl refl

-- 7, 5, 3, 1, 2, 3, 4, 5
pub down_and_up : IsDelta w32 (128 ∷ 1 ∷ 4 ∷ 8 ∷ 14 ∷ 3 ∷ 2 ∷ 0 ∷ 0 ∷ 0 ∷ 192 ∷ 63 ∷ 0 ∷ 0 ∷ 0 ∷ 0 ∷ 0 ∷ 0 ∷ []) 8 (pos 7 ∷ pos 5 ∷ pos 3 ∷ pos 1 ∷ pos 2 ∷ pos 3 ∷ pos 4 ∷ pos 5 ∷ []) 18
unfolding int_wrap
down_and_up = one_part w32 8 5 1 2 18 (pos 7) (negsuc 1) _ _ (omega arith) (omega arith) (header 8 1 (pos 7) _ (omega arith) (short 14 _ (omega arith))) (short 3 _ (omega arith)) (omega arith) refl (omega arith) (omega arith) refl refl

-- the least and the greatest: the sum wraps
pub least_and_greatest : IsDelta w64 (128 ∷ 1 ∷ 4 ∷ 2 ∷ 255 ∷ 255 ∷ 255 ∷ 255 ∷ 255 ∷ 255 ∷ 255 ∷ 255 ∷ 255 ∷ 1 ∷ 1 ∷ 0 ∷ 0 ∷ 0 ∷ 0 ∷ []) 2 (negsuc 9223372036854775807 ∷ pos 9223372036854775807 ∷ []) 19
unfolding int_wrap
least_and_greatest = one_part w64 2 14 1 0 19 (negsuc 9223372036854775807) (negsuc 0) _ _ (omega arith) (omega arith) (header 2 10 (negsuc 9223372036854775807) _ (omega arith) (ten _)) (short 1 _ (omega arith)) (omega arith) refl (omega arith) (omega arith) refl refl

-- 1, 300
pub one_and_more : IsDelta w64 (128 ∷ 1 ∷ 4 ∷ 2 ∷ 2 ∷ 214 ∷ 4 ∷ 0 ∷ 0 ∷ 0 ∷ 0 ∷ []) 2 (pos 1 ∷ pos 300 ∷ []) 11
unfolding int_wrap
one_and_more = one_part w64 2 5 2 0 11 (pos 1) (pos 299) _ _ (omega arith) (omega arith) (header 2 1 (pos 1) _ (omega arith) (short 2 _ (omega arith))) (two 214 4 598 _ (omega arith) (omega arith) (omega arith) refl) (omega arith) refl (omega arith) (omega arith) refl refl

-- width bytes that no miniblock needs
pub unneeded_widths : IsDelta w32 (128 ∷ 1 ∷ 4 ∷ 2 ∷ 2 ∷ 2 ∷ 0 ∷ 255 ∷ 65 ∷ 7 ∷ []) 2 (pos 1 ∷ pos 2 ∷ []) 10
unfolding int_wrap
unneeded_widths = one_part w32 2 5 1 0 10 (pos 1) (pos 1) _ _ (omega arith) (omega arith) (header 2 1 (pos 1) _ (omega arith) (short 2 _ (omega arith))) (short 2 _ (omega arith)) (omega arith) refl (omega arith) (omega arith) refl refl

-- at most one value, in four varints
without_blocks : (w : Width) (n at : ℕ) (first : ℤ) (bytes : List ℕ) (values : List ℤ) → n ≤ 1 → IsHeader bytes 4 32 n first at → values ≡ sums w first [] n → IsDelta w bytes n values at
without_blocks w n at first bytes values few begins are = record {
  miniblocks = 4;
  size = 32;
  needed = 0;
  first = first;
  blocks = [];
  at = at;
  body = 0;
  begins = begins;
  enough = omega arith;
  fewest = λ k lt. absurd (omega arith);
  spelled = (refl, refl);
  stands_for = are;
  ends = omega arith;
}

pub no_values : IsDelta w32 (128 ∷ 1 ∷ 4 ∷ 0 ∷ 9 ∷ []) 0 [] 5
no_values = without_blocks w32 0 5 (negsuc 4) _ [] (omega arith) (header 0 1 (negsuc 4) _ (omega arith) (short 9 _ (omega arith))) refl

-- another count
pub not_four : NothingStands (IsDelta w32 (128 ∷ 1 ∷ 4 ∷ 5 ∷ 2 ∷ 2 ∷ 0 ∷ 0 ∷ 0 ∷ 0 ∷ []) 4)
not_four values used p =
    let there : IsHeader (128 ∷ 1 ∷ 4 ∷ 5 ∷ 2 ∷ 2 ∷ 0 ∷ 0 ∷ 0 ∷ 0 ∷ []) 4 32 5 (pos 1) 5 = header 5 1 (pos 1) _ (omega arith) (short 2 _ (omega arith)) in
    let same = one_header _ p.miniblocks p.size 4 p.first p.at 4 32 5 (pos 1) 5 p.begins there in
    omega (arith, same.count)

-- a, bb and the empty value, by their lengths
pub three_values : IsByteLengths (128 ∷ 1 ∷ 4 ∷ 3 ∷ 2 ∷ 3 ∷ 2 ∷ 0 ∷ 0 ∷ 0 ∷ 3 ∷ 0 ∷ 0 ∷ 0 ∷ 0 ∷ 0 ∷ 0 ∷ 0 ∷ 97 ∷ 98 ∷ 98 ∷ []) 3 ((97 ∷ []) ∷ (98 ∷ 98 ∷ []) ∷ [] ∷ []) 21
unfolding int_wrap
three_values = record {
  at = 18;
  rest = [];
  lengths = one_part w32 3 5 1 2 18 (pos 1) (negsuc 1) _ _ (omega arith) (omega arith) (header 3 1 (pos 1) _ (omega arith) (short 2 _ (omega arith))) (short 3 _ (omega arith)) (omega arith) refl (omega arith) (omega arith) refl refl;
  joined = refl;
  ends = refl;
}

less_than_nothing : IsDelta w32 (128 ∷ 1 ∷ 4 ∷ 1 ∷ 1 ∷ []) 1 (negsuc 0 ∷ []) 5
unfolding int_wrap
less_than_nothing = without_blocks w32 1 5 (negsuc 0) _ (negsuc 0 ∷ []) (omega arith) (header 1 1 (negsuc 0) _ (omega arith) (short 1 _ (omega arith))) refl

no_length : (values : List (List ℕ)) → sizes values ≡ negsuc 0 ∷ [] → ⊥
no_length [] same = cc
no_length (v ∷ vs) same = cc

-- a length of -1
pub not_negative : NothingStands (IsByteLengths (128 ∷ 1 ∷ 4 ∷ 1 ∷ 1 ∷ []) 1)
not_negative values used p = no_length values (one_delta w32 1 _ _ _ p.at 5 p.lengths less_than_nothing).0

-- axis, axle, babble and babyhood, by what each shares with the one before
pub four_values : IsPrefixed (128 ∷ 1 ∷ 4 ∷ 4 ∷ 0 ∷ 3 ∷ 3 ∷ 0 ∷ 0 ∷ 0 ∷ 68 ∷ 1 ∷ 0 ∷ 0 ∷ 0 ∷ 0 ∷ 0 ∷ 0 ∷ 0 ∷ 0 ∷ 0 ∷ 0 ∷ 128 ∷ 1 ∷ 4 ∷ 4 ∷ 8 ∷ 3 ∷ 3 ∷ 0 ∷ 0 ∷ 0 ∷ 112 ∷ 0 ∷ 0 ∷ 0 ∷ 0 ∷ 0 ∷ 0 ∷ 0 ∷ 0 ∷ 0 ∷ 0 ∷ 0 ∷ 97 ∷ 120 ∷ 105 ∷ 115 ∷ 108 ∷ 101 ∷ 98 ∷ 97 ∷ 98 ∷ 98 ∷ 108 ∷ 101 ∷ 121 ∷ 104 ∷ 111 ∷ 111 ∷ 100 ∷ [])
    4 ((97 ∷ 120 ∷ 105 ∷ 115 ∷ []) ∷ (97 ∷ 120 ∷ 108 ∷ 101 ∷ []) ∷ (98 ∷ 97 ∷ 98 ∷ 98 ∷ 108 ∷ 101 ∷ []) ∷ (98 ∷ 97 ∷ 98 ∷ 121 ∷ 104 ∷ 111 ∷ 111 ∷ 100 ∷ []) ∷ []) 61
unfolding int_wrap
four_values = record {
  at = 22;
  rest = 39;
  prefixes = 0 ∷ 2 ∷ 0 ∷ 3 ∷ [];
  suffixes = (97 ∷ 120 ∷ 105 ∷ 115 ∷ []) ∷ (108 ∷ 101 ∷ []) ∷ (98 ∷ 97 ∷ 98 ∷ 98 ∷ 108 ∷ 101 ∷ []) ∷ (121 ∷ 104 ∷ 111 ∷ 111 ∷ 100 ∷ []) ∷ [];
  shared = one_part w32 4 5 1 3 22 (pos 0) (negsuc 1) _ _ (omega arith) (omega arith) (header 4 1 (pos 0) _ (omega arith) (short 0 _ (omega arith))) (short 3 _ (omega arith)) (omega arith) refl (omega arith) (omega arith) refl refl;
  others = record {
    at = 22;
    rest = [];
    lengths = one_part w32 4 5 1 3 22 (pos 4) (negsuc 1) _ _ (omega arith) (omega arith) (header 4 1 (pos 4) _ (omega arith) (short 8 _ (omega arith))) (short 3 _ (omega arith)) (omega arith) refl (omega arith) (omega arith) refl refl;
    joined = refl;
    ends = refl;
  };
  completed = (omega arith, refl, (omega arith, refl, (omega arith, refl, (omega arith, refl, tt))));
  ends = refl;
}
