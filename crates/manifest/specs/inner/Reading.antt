-- What is read of the records of a root, and what they are refused for.
use Rattle.std.specs.Prelude.{◌≡◌, ◌≢◌, ◌⊎◌, ℕ, ℤ, ◌+◌, ◌<◌, ◌≤◌, ◌<ℤ◌, pos, List, [], ◌∷◌, length, Contains, Option, Some, None, IfSome}
use Rattle.bits.specs.declared.refusal.Refusal.{Refusal}
use Rattle.bits.specs.declared.refusal.Refusal.TheVariants.{Schema, Codec, Page, Key, Limit, Memory}
use Rattle.schema.specs.declared.value.Kind.{Kind}
use Rattle.schema.specs.declared.value.Kind.TheVariants.{FixedLenByteArray}
use Rattle.schema.specs.Shape.{Fields, no_fields, field, count}
use Rattle.schema.specs.Stripe.{leaves}
use Rattle.metadata.specs.Records.{ChunkMeta, ColumnMeta, GroupMeta, Statistics as StatisticsRecord}
use Rattle.row_group.specs.Greatest.{most_entries, most_rows}
use Rattle.row_group.specs.Limits.{HasCodec}
use Rattle.statistics.specs.Bounds.{Statistics}
use Rattle.statistics.specs.Bytes.{IsBoundAt}
use Rattle.manifest.specs.declared.fronts.Fronts.{Fronts}
use Rattle.schema.specs.Fronts.{fields_after, AreOptional}

-- what the record of a chunk is refused for
abbrev pub IsChunkFault : ColumnMeta → Refusal → Type 0
IsChunkFault m Schema = Unit {0}
IsChunkFault m Codec = m.codec ≢ pos 0
IsChunkFault m Page = Unit {0}
IsChunkFault m Limit = most_entries <ℤ m.num_values
IsChunkFault m Memory = Unit {0}
IsChunkFault m _ = ⊥

-- a chunk of the group announces too many entries
abbrev pub HasLargeChunk : GroupMeta → Type 0
HasLargeChunk g = (c : ChunkMeta) × Contains g.columns c × (most_entries <ℤ c.meta_data.num_values)

-- what the records of chunks are refused for
abbrev pub IsChunksFault : List ChunkMeta → Refusal → Type 0
IsChunksFault cs Schema = Unit {0}
IsChunksFault cs Codec = (c : ChunkMeta) × Contains cs c × (c.meta_data.codec ≢ pos 0)
IsChunksFault cs Page = Unit {0}
IsChunksFault cs Limit = (c : ChunkMeta) × Contains cs c × (most_entries <ℤ c.meta_data.num_values)
IsChunksFault cs Memory = Unit {0}
IsChunksFault cs _ = ⊥

-- the path that the first chunk names
abbrev pub FirstPath : List ChunkMeta → Option (List ℕ) → Type 0
FirstPath [] found = found ≡ None
FirstPath (c ∷ cs) found = found ≡ c.file_path

-- what the record of a group is refused for
abbrev pub IsGroupFault : GroupMeta → Refusal → Type 0
IsGroupFault g Schema = Unit {0}
IsGroupFault g Codec = HasCodec g
IsGroupFault g Page = Unit {0}
IsGroupFault g Key = Unit {0}
IsGroupFault g Limit = (most_rows <ℤ g.num_rows) ⊎ HasLargeChunk g
IsGroupFault g Memory = Unit {0}
IsGroupFault g _ = ⊥

-- each bound has at most 64 bytes
pub record HasShortBounds (s : StatisticsRecord) : Type 0 where
  pub min : IfSome s.min_value (λ bound. length bound ≤ 64)
  pub max : IfSome s.max_value (λ bound. length bound ≤ 64)

-- these are the statistics that the record says
pub record AreGiven (kind : Kind) (given : StatisticsRecord) (s : Statistics) : Type 0 where
  pub nulls : given.null_count ≡ Some (pos s.nulls)
  pub min : IsBoundAt kind given.min_value s.min
  pub max : IsBoundAt kind given.max_value s.max

-- values of the type have more bytes than a bound
abbrev pub HasLongValues : Kind → Type 0
HasLongValues (FixedLenByteArray k) = 64 < k
HasLongValues _ = ⊥

-- how many leaves the first field has, the first two, and so on, each with `before` added
abbrev pub ends_from : ℕ → Fields → List ℕ
ends_from before no_fields = []
ends_from before (field f fs) = (before + length (leaves f)) ∷ ends_from (before + length (leaves f)) fs

-- the ends of the first fields, counted in leaves, and the fewest of the fields that a file has: all later ones are OPTIONAL
pub record HasFronts (fronts : Fronts) (fs : Fields) : Type 0 where
  pub ends : fronts.ends.items ≡ ends_from 0 fs
  pub some : 1 ≤ fronts.least
  pub optional : AreOptional (fields_after fronts.least fs)
  pub needed : (n : ℕ) → 1 ≤ n → n ≤ count fs → AreOptional (fields_after n fs) → fronts.least ≤ n

-- what a number of rows is refused for
abbrev pub IsRowsFault : ℤ → Refusal → Type 0
IsRowsFault number Page = Unit {0}
IsRowsFault number Limit = most_rows <ℤ number
IsRowsFault number _ = ⊥

-- what the records of groups are refused for
abbrev pub IsGroupsFault : List GroupMeta → Refusal → Type 0
IsGroupsFault gs Schema = Unit {0}
IsGroupsFault gs Codec = (g : GroupMeta) × Contains gs g × HasCodec g
IsGroupsFault gs Page = Unit {0}
IsGroupsFault gs Key = Unit {0}
IsGroupsFault gs Limit = (g : GroupMeta) × Contains gs g × ((most_rows <ℤ g.num_rows) ⊎ HasLargeChunk g)
IsGroupsFault gs Memory = Unit {0}
IsGroupsFault gs _ = ⊥
