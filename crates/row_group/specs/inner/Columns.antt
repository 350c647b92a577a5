-- Words of the functions that write the columns of a group one by one.
use Rattle.std.specs.Prelude.{◌≡◌, ℕ, ◌+◌, ◌<◌, ◌<ℤ◌, pos, List, [], ◌∷◌, ◌++◌, length}
use Rattle.std.specs.List.{Any, AllByRecursion}
use Rattle.schema.specs.Stripe.{Leaf, Entry}
use Rattle.schema.specs.Law.{IsEntryOf}
use Rattle.metadata.specs.Records.{ChunkMeta}
use Rattle.plain.specs.Plain.{IsTooLong}
use Rattle.pages.specs.Page.{values}
use Rattle.pages.specs.Headers.{rows_in}
use Rattle.pages.specs.Writing.{AreShort}
use Rattle.row_group.specs.Greatest.{most_entries, most_bytes_before}
use Rattle.row_group.specs.declared.options.ChunkOptions.{ChunkOptions}
use Rattle.row_group.specs.Paged.{BeginsRow, columns_weight}
use Rattle.row_group.specs.Writing.{AppendsChunk, IsOwnChunk, AppendsEach}

-- for each leaf, a column of its entries
abbrev pub AreColumnsOf : List Leaf → List (List Entry) → Type 0
AreColumnsOf [] [] = Unit {0}
AreColumnsOf (leaf ∷ leaves) (es ∷ cols) = AllByRecursion (IsEntryOf leaf) es × AreColumnsOf leaves cols
AreColumnsOf _ _ = ⊥

-- the entries begin this many rows, and the first of them begins one
pub record HasRows (n : ℕ) (es : List Entry) : Type 0 where
  pub count : rows_in es ≡ n
  pub first : 0 < length es → BeginsRow es

-- the bytes of `new` are those of `old` and a chunk of each column; none of the columns is too much for a reader
pub record AppendsChunks (o : ChunkOptions) (leaves : List Leaf) (cols : List (List Entry)) (old new : List ℕ) (chunks : List ChunkMeta) : Type 0 where
  pub each : AppendsEach o leaves cols old new chunks
  pub few : AllByRecursion (λ es. most_entries <ℤ pos (length es) → ⊥) cols
  pub values_short : AllByRecursion AreShort cols

-- why columns are too much for a group with these options after this many bytes, where they have as many rows
pub data AreTooMuch (o : ChunkOptions) (leaves : List Leaf) (before : ℕ) (cols : List (List Entry)) : Type 0 where
  empty_pages : o.page_rows ≡ 0 → AreTooMuch o leaves before cols
  many_entries : Any (λ es. most_entries <ℤ pos (length es)) cols → AreTooMuch o leaves before cols
  long_value : Any (λ es. Any IsTooLong (values es)) cols → AreTooMuch o leaves before cols
  heavy : ((n : ℕ) → AllByRecursion (HasRows n) cols → most_bytes_before < before + columns_weight o n leaves cols) → AreTooMuch o leaves before cols

-- what was there stands before what is new
abbrev pub Extends : List ℕ → List ℕ → Type 0
Extends old new = (text : List ℕ) × (new ≡ old ++ text)

-- the bytes of `new` are those of `old` and a chunk of this file with these entries, which are not too much for a reader
pub record AppendsColumn (leaf : Leaf) (o : ChunkOptions) (es : List Entry) (old new : List ℕ) (c : ChunkMeta) : Type 0 where
  pub chunk : AppendsChunk leaf o old new c.meta_data es
  pub own : IsOwnChunk c
  pub few : most_entries <ℤ pos (length es) → ⊥
  pub values_short : AreShort es
