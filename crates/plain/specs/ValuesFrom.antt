-- The values that stand from an index on, one after the other: parquet-format, Encodings.md, "Plain".
-- An index counts bytes; that of a boolean counts bits. Each definition is total: where the bytes end too early, it says nothing of use.
use Rattle.std.specs.Prelude.{ℕ, zero, suc, ◌+◌, ◌-◌, ◌*◌, ◌^◌, ◌==◌, List, [], ◌∷◌, length, take, drop, get_or, min}
use Rattle.std.specs.Int.{w32, w64, cast_signed}
use Rattle.byteorder.specs.Endian.{little_number}
use Rattle.bits.specs.Bits.{bits}
use Rattle.schema.specs.declared.value.Kind.{Kind}
use Rattle.schema.specs.declared.value.Kind.TheVariants.{Boolean, Int32, Int64, ByteArray, FixedLenByteArray}
use Rattle.schema.specs.Values.{ValueTree, boolean, integer, bytes}

-- the value at the index
abbrev pub value_at : Kind → ℕ → List ℕ → ValueTree
value_at Boolean at body = boolean (get_or (bits body) at 0 == 1)
value_at Int32 at body = integer (cast_signed w32 (little_number 4 (drop at body)))
value_at Int64 at body = integer (cast_signed w64 (little_number 8 (drop at body)))
value_at ByteArray at body = bytes (take (little_number 4 (drop at body)) (drop 4 (drop at body)))
value_at (FixedLenByteArray size) at body = bytes (take size (drop at body))

-- how far from the value at the index the next one stands
abbrev pub size_at : Kind → ℕ → List ℕ → ℕ
size_at Boolean at body = 1
size_at Int32 at body = 4
size_at Int64 at body = 8
size_at ByteArray at body = 4 + little_number 4 (drop at body)
size_at (FixedLenByteArray size) at body = size

-- n values from the index on
abbrev pub values_from : Kind → ℕ → ℕ → List ℕ → List ValueTree
values_from kind zero at body = []
values_from kind (suc n) at body = value_at kind at body ∷ values_from kind n (at + size_at kind at body) body

-- the index after n values from the index on
abbrev pub end_from : Kind → ℕ → ℕ → List ℕ → ℕ
end_from kind zero at body = at
end_from kind (suc n) at body = end_from kind n (at + size_at kind at body) body

-- the greatest index after values that are there
abbrev pub greatest_end : Kind → List ℕ → ℕ
greatest_end Boolean body = min (8 * length body) (2 ^ 64 - 1)
greatest_end kind body = length body
