-- Byte values by their lengths, or by what they share with the value before:
-- parquet-format, Encodings.md, "Delta-length byte array" and "Delta Strings" (DELTA_LENGTH_BYTE_ARRAY and DELTA_BYTE_ARRAY).
use Rattle.std.specs.Prelude.{◌≡◌, ℕ, nat_eq, ◌+◌, ◌*◌, ◌<◌, ◌≤◌, All, List, [], ◌∷◌, ◌++◌, length, take, drop, map, ℤ, pos, negsuc}
use Rattle.std.specs.List.{concat, common_prefix_len}
use Rattle.std.specs.Int.{w32}
use Rattle.bits.specs.Codec.{Appends}
use Rattle.schema.specs.Values.{ValueTree, bytes}
use Rattle.schema.specs.declared.value.Kind.TheVariants.{ByteArray}
use Rattle.plain.specs.Plain.{AreBytes, IsOfKind, text_size}
use Rattle.delta.specs.Delta.{IsDelta}

-- the lengths of values, as numbers that a delta has
abbrev pub sizes : List (List ℕ) → List ℤ
sizes values = map (λ value. pos (length value)) values

-- the lengths as differences of 32 bits, and then all bytes
pub record IsByteLengths (text : List ℕ) (n : ℕ) (values : List (List ℕ)) (used : ℕ) : Type 0 where
  pub at : ℕ
  pub rest : List ℕ
  pub lengths : IsDelta w32 text n (sizes values) at
  pub joined : drop at text ≡ concat values ++ rest
  pub ends : used ≡ at + length (concat values)

-- one of the lengths is above 16 MiB, and the values before it are there
pub record IsCutLong (lengths : List ℤ) (text : List ℕ) : Type 0 where
  pub before : List (List ℕ)
  pub announced : ℕ
  pub later : List ℤ
  pub rest : List ℕ
  pub are : lengths ≡ sizes before ++ pos announced ∷ later
  pub joined : text ≡ concat before ++ rest
  pub much : 16777216 < announced

-- one of n values is announced with more than 16 MiB, after values that stand
pub record IsLengthsOver (text : List ℕ) (n : ℕ) : Type 0 where
  pub lengths : List ℤ
  pub at : ℕ
  pub stand : IsDelta w32 text n lengths at
  pub over : IsCutLong lengths (drop at text)

-- each value is the stated prefix of the value before it, and then its suffix
abbrev pub AreCompleted : List ℕ → List ℕ → List (List ℕ) → List (List ℕ) → Type 0
AreCompleted before [] [] [] = Unit {0}
AreCompleted before (prefix ∷ prefixes) (suffix ∷ suffixes) (value ∷ values) =
    (prefix ≤ length before) × (value ≡ take prefix before ++ suffix) × AreCompleted value prefixes suffixes values
AreCompleted before prefixes suffixes values = ⊥

-- the lengths of the shared prefixes as differences of 32 bits, and then the suffixes by their lengths; the first value has none before it
pub record IsPrefixed (text : List ℕ) (n : ℕ) (values : List (List ℕ)) (used : ℕ) : Type 0 where
  pub at : ℕ
  pub rest : ℕ
  pub prefixes : List ℕ
  pub suffixes : List (List ℕ)
  pub shared : IsDelta w32 text n (map pos prefixes) at
  pub others : IsByteLengths (drop at text) n suffixes rest
  pub completed : AreCompleted [] prefixes suffixes values
  pub ends : used ≡ at + rest

-- the last of the values, or the value before them where there are none
abbrev pub last_value : List ℕ → List (List ℕ) → List ℕ
last_value before [] = before
last_value before (value ∷ values) = last_value value values

-- a prefix and a suffix are announced with more than 16 MiB together, and the values before them are there, the first one after `start`
pub record IsLongCompletion (start : List ℕ) (prefixes lengths : List ℤ) (text : List ℕ) : Type 0 where
  pub before : List ℕ
  pub suffixes : List (List ℕ)
  pub values : List (List ℕ)
  pub prefix : ℕ
  pub announced : ℕ
  pub later_prefixes : List ℤ
  pub later_lengths : List ℤ
  pub rest : List ℕ
  pub prefixes_are : prefixes ≡ map pos before ++ pos prefix ∷ later_prefixes
  pub lengths_are : lengths ≡ sizes suffixes ++ pos announced ∷ later_lengths
  pub joined : text ≡ concat suffixes ++ rest
  pub completed : AreCompleted start before suffixes values
  pub shared : prefix ≤ length (last_value start values)
  pub much : 16777216 < prefix + announced

-- one of n values is announced with more than 16 MiB, after values that stand
pub record IsPrefixesOver (text : List ℕ) (n : ℕ) : Type 0 where
  pub prefixes : List ℤ
  pub at : ℕ
  pub lengths : List ℤ
  pub then : ℕ
  pub shared : IsDelta w32 text n prefixes at
  pub others : IsDelta w32 (drop at text) n lengths then
  pub over : IsLongCompletion [] prefixes lengths (drop then (drop at text))

-- a length as a natural number; 0 where it is negative
abbrev pub natural : ℤ → ℕ
natural (pos n) = n
natural (negsuc n) = 0

-- The values that prefix lengths and suffix lengths make of the suffixes at the front of the text, after the value `before`:
-- each is the prefix of the value before it, and then its suffix.
abbrev pub completed : List ℕ → List ℤ → List ℤ → List ℕ → List (List ℕ)
completed before (prefix ∷ prefixes) (size ∷ lengths) text =
    (take (natural prefix) before ++ take (natural size) text)
    ∷ completed (take (natural prefix) before ++ take (natural size) text) prefixes lengths (drop (natural size) text)
completed before prefixes lengths text = []

-- what stands for lists of bytes, stands for byte values
pub record StandForBytes (Stand : List (List ℕ) → ℕ → Type 0) (values : List ValueTree) (used : ℕ) : Type 0 where
  pub texts : List (List ℕ)
  pub stand : Stand texts used
  pub are : values ≡ map bytes texts

-- how many bytes two values share at their front
abbrev pub shared_size : List ℕ → List ℕ → ℕ
shared_size xs ys = common_prefix_len nat_eq xs ys

-- the lengths of the longest prefixes that values share with the value before them, the first one with `before`
abbrev pub longest_prefixes : List ℕ → List (List ℕ) → List ℕ
longest_prefixes before [] = []
longest_prefixes before (value ∷ values) = shared_size before value ∷ longest_prefixes value values

-- the rest of each value after its prefix
abbrev pub shortest_suffixes : List ℕ → List (List ℕ) → List (List ℕ)
shortest_suffixes before [] = []
shortest_suffixes before (value ∷ values) = drop (shared_size before value) value ∷ shortest_suffixes value values

-- values are written at the end by their lengths, and the bytes stand for them whatever follows
abbrev pub AppendsByLengths : List ValueTree → List ℕ → List ℕ → Type 0
AppendsByLengths values old new = Appends (λ bytes. StandForBytes (IsByteLengths bytes (length values)) values) (170 + 5 * length values + text_size values) old new

-- values are written at the end by their prefixes, and the bytes stand for them whatever follows
abbrev pub AppendsByPrefixes : List ValueTree → List ℕ → List ℕ → Type 0
AppendsByPrefixes values old new = Appends (λ bytes. StandForBytes (IsPrefixed bytes (length values)) values) (340 + 10 * length values + text_size values) old new

-- the end has at most 340 + 10n bytes and what values do not share with the value before them
abbrev pub IsShortByPrefixes : List ValueTree → List ℕ → List ℕ → Type 0
IsShortByPrefixes values old new =
    (texts : List (List ℕ)) → values ≡ map bytes texts → length new ≤ length old + (340 + 10 * length values + length (concat (shortest_suffixes [] texts)))

-- no bytes stand for the values by their lengths
abbrev pub NoLengthsOf : List ValueTree → Type 0
NoLengthsOf values = (text : List ℕ) (used : ℕ) → AreBytes text → StandForBytes (IsByteLengths text (length values)) values used → ⊥

-- no bytes stand for the values by their prefixes
abbrev pub NoPrefixesOf : List ValueTree → Type 0
NoPrefixesOf values = (text : List ℕ) (used : ℕ) → AreBytes text → StandForBytes (IsPrefixed text (length values)) values used → ⊥

-- n byte values by their lengths
pub record AreByLengths (n : ℕ) (text : List ℕ) (values : List ValueTree) (used : ℕ) : Type 0 where
  pub fit : All (IsOfKind ByteArray) values
  pub stand : StandForBytes (IsByteLengths text n) values used
