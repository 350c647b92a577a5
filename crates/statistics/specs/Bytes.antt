-- The bytes of a bound: parquet.thrift, Statistics: PLAIN (Encodings.md), a BYTE_ARRAY without the length before it.
use Rattle.std.specs.Prelude.{◌≡◌, ◌<◌, ◌≤◌, ℕ, List, [], ◌∷◌, length, Option, Some, None}
use Rattle.schema.specs.declared.value.Kind.{Kind}
use Rattle.schema.specs.declared.value.Kind.TheVariants.{ByteArray, FixedLenByteArray}
use Rattle.schema.specs.Values.{ValueTree, bytes}
use Rattle.plain.specs.Plain.{AreBytes, IsOfKind, IsPlain, HasZeroPadding, IsTooLong}
use Rattle.statistics.specs.Bounds.{IsKeptAsBound}

-- the bytes are the whole of one value of the type
abbrev pub IsBound : Kind → List ℕ → ValueTree → Type 0
IsBound ByteArray text (bytes s) = AreBytes s × (text ≡ s)
IsBound ByteArray text _ = ⊥
IsBound kind text v = IsPlain kind 1 text (v ∷ []) (length text)

-- a bound that is there has its bytes there, and one that is not has none
abbrev pub IsBoundAt : Kind → Option (List ℕ) → Option ValueTree → Type 0
IsBoundAt kind None None = Unit {0}
IsBoundAt kind (Some text) (Some v) = IsBound kind text v
IsBoundAt kind _ _ = ⊥

-- a written bound: the bits after a boolean are 0
abbrev pub IsWrittenBound : Kind → Option (List ℕ) → Option ValueTree → Type 0
IsWrittenBound kind None None = Unit {0}
IsWrittenBound kind (Some text) (Some v) = IsBound kind text v × HasZeroPadding kind 1 text (length text)
IsWrittenBound kind _ _ = ⊥

-- where a bound is there, it is a value of the type
abbrev pub IsOfKindAt : Kind → Option ValueTree → Type 0
IsOfKindAt kind (Some v) = IsOfKind kind v
IsOfKindAt kind None = Unit {0}

-- a bound is there, and is longer than a value may be
abbrev pub IsLongAt : Option ValueTree → Type 0
IsLongAt (Some v) = IsTooLong v
IsLongAt None = ⊥

-- values of the type are longer than a value may be, 16 MiB (this store's own limit)
abbrev pub IsLengthOverLimit : Kind → Type 0
IsLengthOverLimit (FixedLenByteArray k) = 16777216 < k
IsLengthOverLimit _ = ⊥

-- some bytes stand for at most one bound
abbrev pub BoundsAreOne : Type 0
BoundsAreOne = (kind : Kind) (text : List ℕ) (v w : ValueTree) → IsBound kind text v → IsBound kind text w → v ≡ w

-- the bytes of a value that is kept as a bound are at most 64
abbrev pub KeptBoundsAreShort : Type 0
KeptBoundsAreShort = (kind : Kind) (text : List ℕ) (v : ValueTree) → IsBound kind text v → IsKeptAsBound v → length text ≤ 64
