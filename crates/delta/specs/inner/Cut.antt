-- Byte values that are cut from the front of joined bytes: parquet-format, Encodings.md, "Delta-length byte array".
use Rattle.std.specs.Prelude.{◌≡◌, ℕ, ◌<◌, List, ◌++◌, length, map, ℤ, pos}
use Rattle.std.specs.List.{concat}
use Rattle.schema.specs.Values.{ValueTree, bytes}
use Rattle.delta.specs.ByteDeltas.{sizes}

-- the first `used` bytes are values of these lengths
pub record AreCut (lengths : List ℤ) (text : List ℕ) (values : List ValueTree) (used : ℕ) : Type 0 where
  pub texts : List (List ℕ)
  pub rest : List ℕ
  pub lengths_are : lengths ≡ sizes texts
  pub joined : text ≡ concat texts ++ rest
  pub are : values ≡ map bytes texts
  pub ends : used ≡ length (concat texts)

-- no values of these lengths are there
abbrev pub NoneAreCut : List ℤ → List ℕ → Type 0
NoneAreCut lengths text = (texts : List (List ℕ)) (rest : List ℕ) → lengths ≡ sizes texts → text ≡ concat texts ++ rest → ⊥

-- a length above 16 MiB
abbrev pub IsLong : ℤ → Type 0
IsLong z = (n : ℕ) × (z ≡ pos n) × (16777216 < n)
