-- Where a chunk or a group goes beyond a limit, and what they are refused for.
use Rattle.std.specs.Prelude.{◌≡◌, ◌≢◌, ℕ, pos, ℤ, ◌<ℤ◌, List, ◌++◌, map, filter, length, drop, slice_get, Contains, Option, Some}
use Rattle.bits.specs.Codec.{InTurn}
use Rattle.bits.specs.declared.refusal.Refusal.{Refusal}
use Rattle.bits.specs.declared.refusal.Refusal.TheVariants.{Schema, Codec}
use Rattle.schema.specs.Values.{ValueTree, ValueTrees}
use Rattle.schema.specs.Shape.{Fields}
use Rattle.schema.specs.Stripe.{Leaf, Entry, leaves_of}
use Rattle.metadata.specs.Records.{ColumnMeta, ChunkMeta, GroupMeta}
use Rattle.pages.specs.Page.{Page, entries, IsPage}
use Rattle.pages.specs.Chunk.{is_read, dictionary_page, all_entries}
use Rattle.pages.specs.Limits.{IsPageOver, IsOfPages}
use Rattle.row_group.specs.Greatest.{most_entries, most_rows}
use Rattle.row_group.specs.Chunks.{IsChunkOf, StartsAt, GroupMeans}

-- Behind pages that stand as the first ones of a chunk, with its dictionary where they have one, and that hold fewer entries
-- than so many, one page has a value that is too long.
pub record HasPageOver (count : ℤ) (leaf : Leaf) (bytes : List ℕ) : Type 0 where
  pub dictionary : Option (List ValueTree)
  pub before : List Page
  pub parts : List (List Entry)
  pub at : ℕ
  pub stand : InTurn (IsPage leaf dictionary) bytes before at
  pub in_order : filter is_read before ≡ dictionary_page dictionary ++ map entries parts
  pub fewer : pos (length (all_entries before)) <ℤ count
  pub over : IsPageOver leaf (drop at bytes)

-- the chunk that begins here announces too many entries, or has a value that is too long
pub data IsChunkOver (m : ColumnMeta) (leaf : Leaf) (bytes : List ℕ) : Type 0 where
  many_entries : most_entries <ℤ m.num_values → IsChunkOver m leaf bytes
  long_value : IsChunkOf m leaf → HasPageOver m.num_values leaf bytes → IsChunkOver m leaf bytes

-- chunk k of the group, with leaf k of the schema
pub record HasColumn (fs : Fields) (g : GroupMeta) (Is : ColumnMeta → Leaf → Type 0) : Type 0 where
  pub k : ℕ
  pub chunk : ChunkMeta
  pub leaf : Leaf
  pub of_group : slice_get g.columns k ≡ Some chunk
  pub of_schema : slice_get (leaves_of fs) k ≡ Some leaf
  pub is : Is chunk.meta_data leaf

-- the chunk begins in these bytes, and is so from there
abbrev pub BeginsWith : List ℕ → (ColumnMeta → Leaf → List ℕ → Type 0) → ColumnMeta → Leaf → Type 0
BeginsWith front Is m leaf = (start : ℕ) × StartsAt m start × Is m leaf (drop start front)

-- the group announces too many rows, or a chunk of it goes beyond a limit
pub data IsGroupOver (front : List ℕ) (fs : Fields) (g : GroupMeta) : Type 0 where
  many_rows : most_rows <ℤ g.num_rows → IsGroupOver front fs g
  large_chunk : HasColumn fs g (BeginsWith front IsChunkOver) → IsGroupOver front fs g

-- a chunk of the group is compressed
abbrev pub HasCodec : GroupMeta → Type 0
HasCodec g = (chunk : ChunkMeta) × Contains g.columns chunk × (chunk.meta_data.codec ≢ pos 0)

-- what a chunk or a group is refused for
abbrev pub IsOfChunks : Refusal → Type 0
IsOfChunks Schema = Unit {0}
IsOfChunks Codec = Unit {0}
IsOfChunks e = IsOfPages e

-- a group has these rows, and goes beyond no limit
pub record IsReadable (front : List ℕ) (fs : Fields) (g : GroupMeta) (rows : List ValueTrees) : Type 0 where
  pub means : GroupMeans front fs g rows
  pub within_limits : IsGroupOver front fs g → ⊥
