-- What writing one run gives: parquet-format, Encodings.md, "Run Length Encoding / Bit-Packing Hybrid".
use Rattle.std.specs.Prelude.{◌≡◌, ℕ, ◌+◌, ◌-◌, ◌*◌, ◌/◌, ◌^◌, ◌<◌, ◌≤◌, ◌⊎◌, List, ◌∷◌, [], ◌++◌, length, take}
use Rattle.bits.specs.Codec.{Appends}
use Rattle.hybrid_rle.specs.Hybrid.{IsRun, IsHybrid}

-- only the end is new
abbrev pub Extends : List ℕ → List ℕ → Type 0
Extends old new = (text : List ℕ) × (new ≡ old ++ text)

-- the numbers, and zeros after them
abbrev pub with_zeros : List ℕ → List ℕ
with_zeros xs = xs ++ 0 ∷ 0 ∷ 0 ∷ 0 ∷ 0 ∷ 0 ∷ 0 ∷ 0 ∷ []

-- the numbers, filled up with zeros to groups of eight
abbrev pub filled_up : List ℕ → List ℕ
filled_up xs = take (8 * ((length xs + 7) / 8)) (with_zeros xs)

-- the numbers stand at the end as one packed run, in as few bytes as hold a shortest header and their groups
pub record IsPacking (width : ℕ) (xs old new : List ℕ) : Type 0 where
  pub text : List ℕ
  pub header : ℕ
  pub joined : new ≡ old ++ text
  pub stands : (rest : List ℕ) → IsRun width text rest (filled_up xs)
  pub size : length text ≡ header + (length xs + 7) / 8 * width
  pub few : header ≤ 10
  pub shortest : (header ≡ 1) ⊎ (128 ^ (header - 1) ≤ 2 * ((length xs + 7) / 8) + 1)

-- a run stands at the end for the first `count` of the numbers; only where these are all may it stand for more, and be longer
pub record IsPut (width : ℕ) (xs old new : List ℕ) (count : ℕ) : Type 0 where
  pub text : List ℕ
  pub run : List ℕ
  pub joined : new ≡ old ++ text
  pub stands : (rest : List ℕ) → IsRun width text rest run
  pub some : 0 < count
  pub within : count ≤ length xs
  pub enough : count ≤ length run
  pub first : take count run ≡ take count xs
  pub exact : count < length xs → length run ≡ count
  pub short : count < length xs → length text ≤ 9 * count
  pub most : length text ≤ 80 + 9 * count

-- the bytes of `new` are those of `old` and at most 80 + 9n more, which stand for these n numbers
abbrev pub AppendsHybrid : ℕ → List ℕ → List ℕ → List ℕ → Type 0
AppendsHybrid width numbers old new = Appends (λ bytes. IsHybrid width bytes (length numbers) numbers) (80 + 9 * length numbers) old new
