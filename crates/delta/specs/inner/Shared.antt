-- Suffixes that complete values, one by one: parquet-format, Encodings.md, "Delta Strings".
use Rattle.std.specs.Prelude.{◌≡◌, ℕ, ◌+◌, ◌<◌, ◌≤◌, ◌⊎◌, List, [], ◌∷◌, ◌++◌, length, take, drop, ℤ, pos}

-- the first `used` bytes of the text are the suffixes of values with these prefix lengths and suffix lengths, after the value `before`
abbrev pub AreShared : List ℕ → List ℤ → List ℤ → List ℕ → ℕ → Type 0
AreShared before [] [] text used = used ≡ 0
AreShared before (pos prefix ∷ prefixes) (pos size ∷ lengths) text used =
    (prefix ≤ length before) × (size ≤ length text) × (rest : ℕ) × AreShared (take prefix before ++ take size text) prefixes lengths (drop size text) rest × (used ≡ size + rest)
AreShared before prefixes lengths text used = ⊥

-- one of the values is announced with more than 16 MiB, and those before it are there
abbrev pub IsSharedLong : List ℕ → List ℤ → List ℤ → List ℕ → Type 0
IsSharedLong before (pos prefix ∷ prefixes) (pos size ∷ lengths) text =
    (prefix ≤ length before) × ((16777216 < prefix + size) ⊎ ((size ≤ length text) × IsSharedLong (take prefix before ++ take size text) prefixes lengths (drop size text)))
IsSharedLong before prefixes lengths text = ⊥

-- a prefix of a value with `before` bytes, and a suffix, are announced with more than 16 MiB together
abbrev pub IsLongPair : ℤ → ℤ → ℕ → Type 0
IsLongPair prefix announced before = (p : ℕ) × (z : ℕ) × (prefix ≡ pos p) × (announced ≡ pos z) × (p ≤ before) × (16777216 < p + z)
