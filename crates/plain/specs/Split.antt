-- Values whose bytes stand apart, in as many streams as a value has bytes: parquet-format, Encodings.md, "Byte Stream Split" (BYTE_STREAM_SPLIT).
use Rattle.std.specs.Prelude.{◌≡◌, ℕ, ◌+◌, ◌*◌, ◌<◌, ◌≤◌, List, All, length, get_or, slice_index}
use Rattle.bits.specs.Codec.{Appends}
use Rattle.schema.specs.declared.value.Kind.{Kind}
use Rattle.schema.specs.declared.value.Kind.TheVariants.{Int32, Int64, FixedLenByteArray}
use Rattle.schema.specs.Values.{ValueTree, null}
use Rattle.plain.specs.Plain.{IsOfKind, IsWriteOver, MOST_BYTES_OF_VALUE, plain_size, spelling}

-- n values of k bytes each, whose bytes stand at the start one value after the other in `text`: byte i of value j is byte i * n + j
pub record AreJoined (k n : ℕ) (body text : List ℕ) (used : ℕ) : Type 0 where
  pub count : length text ≡ n * k
  pub each : (i j : ℕ) → i < k → j < n → slice_index text (j * k + i) ≡ slice_index body (i * n + j)
  pub within : n * k ≤ length body
  pub ends : used ≡ n * k

-- n values of a type whose values have k bytes each: byte i of value j, as PLAIN spells it, is byte i * n + j
pub record AreStreams (kind : Kind) (k n : ℕ) (body : List ℕ) (values : List ValueTree) (used : ℕ) : Type 0 where
  pub count : length values ≡ n
  pub of_kind : All (IsOfKind kind) values
  pub each : (i j : ℕ) → i < k → j < n → slice_index (spelling kind (get_or values j null)) i ≡ slice_index body (i * n + j)
  pub within : n * k ≤ length body
  pub ends : used ≡ n * k

-- the types whose values all have one number of bytes; no others are split
abbrev pub CanBeSplit : Kind → Type 0
CanBeSplit Int32 = Unit {0}
CanBeSplit Int64 = Unit {0}
CanBeSplit (FixedLenByteArray k) = Unit {0}
CanBeSplit _ = ⊥

-- n values of the type stand at the start, split
abbrev pub IsSplit : Kind → ℕ → List ℕ → List ValueTree → ℕ → Type 0
IsSplit Int32 n body values used = AreStreams Int32 4 n body values used
IsSplit Int64 n body values used = AreStreams Int64 8 n body values used
IsSplit (FixedLenByteArray k) n body values used = AreStreams (FixedLenByteArray k) k n body values used
IsSplit _ n body values used = ⊥

-- there are values, and each would be longer than a value may be
abbrev pub IsSizeOver : ℕ → ℕ → Type 0
IsSizeOver k n = (0 < n) × (MOST_BYTES_OF_VALUE < k)

-- there are n values of the type, one at least, and each would be longer than a value may be
abbrev pub IsSplitReadOver : Kind → List ℕ → ℕ → Type 0
IsSplitReadOver (FixedLenByteArray k) body n = IsSizeOver k n
IsSplitReadOver _ body n = ⊥

-- the values are all of a type that is split, and one is too long
abbrev pub IsSplitWriteOver : Kind → List ValueTree → Type 0
IsSplitWriteOver (FixedLenByteArray k) values = IsWriteOver (FixedLenByteArray k) values
IsSplitWriteOver _ values = ⊥

-- the bytes of `new` are those of `old` and at most `plain_size` more, which stand for the values
abbrev pub AppendsSplit : Kind → List ValueTree → List ℕ → List ℕ → Type 0
AppendsSplit kind values old new = Appends (λ bytes. IsSplit kind (length values) bytes values) (plain_size kind values) old new
