-- The types whose values all have one size: parquet-format, Encodings.md, "Plain".
use Rattle.std.specs.Prelude.{◌≡◌, ℕ, Option, Some, None}
use Rattle.schema.specs.declared.value.Kind.{Kind}
use Rattle.schema.specs.declared.value.Kind.TheVariants.{Int32, Int64, FixedLenByteArray}
use Rattle.plain.specs.Split.{CanBeSplit}

-- each value of the type takes `size` bytes
abbrev pub HasSize : Kind → ℕ → Type 0
HasSize Int32 size = size ≡ 4
HasSize Int64 size = size ≡ 8
HasSize (FixedLenByteArray k) size = size ≡ k
HasSize _ size = ⊥

-- the size is known, or there is none
abbrev pub IsSizeOf : Kind → Option ℕ → Type 0
IsSizeOf kind (Some size) = HasSize kind size
IsSizeOf kind None = CanBeSplit kind → ⊥
