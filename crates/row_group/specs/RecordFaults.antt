-- Why the record of a chunk is refused, before any page of it is read: parquet.thrift, ColumnMetaData.
use Rattle.std.specs.Prelude.{◌≡◌, ◌≢◌, ℕ, ℤ, pos, ◌<ℤ◌}
use Rattle.bits.specs.declared.refusal.Refusal.{Refusal}
use Rattle.bits.specs.declared.refusal.Refusal.TheVariants.{Schema, Codec, Page, Limit}
use Rattle.schema.specs.Stripe.{Leaf}
use Rattle.metadata.specs.Records.{ColumnMeta}
use Rattle.row_group.specs.Greatest.{most_entries}
use Rattle.row_group.specs.Chunks.{IsChunkOf}

-- a number of a record has to be a count of at most so many
abbrev pub IsCountFault : ℤ → ℤ → Refusal → Type 0
IsCountFault number most Page = (n : ℕ) → number ≡ pos n → ⊥
IsCountFault number most Limit = most <ℤ number
IsCountFault number most _ = ⊥

-- the record of a chunk is of another leaf, or compressed, or its number of entries is no count that is read
abbrev pub IsRecordFault : ColumnMeta → Leaf → Refusal → Type 0
IsRecordFault m leaf Schema = IsChunkOf m leaf → ⊥
IsRecordFault m leaf Codec = m.codec ≢ pos 0
IsRecordFault m leaf e = IsCountFault m.num_values most_entries e
