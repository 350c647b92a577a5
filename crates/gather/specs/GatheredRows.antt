-- The rows that are gathered, and what was shown of the next one.
use Rattle.std.specs.Prelude.{◌≡◌, ℕ, List, [], ◌∷◌, length}
use Rattle.schema.specs.Values.{ValueTrees}
use Rattle.schema.specs.Shape.{Fields}
use Rattle.schema.specs.Fits.{RowsFit}
use Rattle.schema.specs.Keys.{KeyColumn, key_columns_view, IsTableOver}
use Rattle.assemble.specs.Sinks.{Token, tokens_each}
use Rattle.shred.specs.inner.Opening.{schema_token, rows_token, rows_said}
use Rattle.gather.specs.declared.gathered.Gathered.{Gathered}
use Rattle.gather.specs.declared.key_buffers.KeyBuffers.{KeyBuffers}
use Rattle.gather.specs.KeyBuffers.{HaveTaken}
use Rattle.gather.specs.CutRows.{CutShown, part_count}

-- the schema of the rows
abbrev pub schema_of : Gathered → Fields
schema_of g = g.schema.now

-- the key columns
abbrev pub columns_of : Gathered → List KeyColumn
columns_of g = key_columns_view g.columns.now

-- the schema of the rows without their keys, as files have them
abbrev pub stored_of : Gathered → Fields
stored_of g = g.buffers.stored.now

-- how many rows a group has
abbrev pub size_of : Gathered → ℕ
size_of g = g.buffers.size

-- what is held of the rows before the one that is shown
pub record Base : Type 0 where
  pub schema : Fields
  pub columns : List KeyColumn
  pub buffers : KeyBuffers
  pub parts : ℕ

-- the columns and the rows before the one that is shown
abbrev pub base_of : Gathered → Base
base_of g = record { schema = schema_of g; columns = columns_of g; buffers = g.buffers; parts = part_count g.row }

-- these rows of a table, which fit, were taken
pub record IsGathered (base : Base) (rows : List ValueTrees) : Type 0 where
  pub table : IsTableOver base.columns base.buffers.stored.now base.schema
  pub fit : RowsFit base.schema rows
  pub buffers : HaveTaken base.columns base.buffers rows
  pub parts : base.parts ≡ length base.columns

-- these rows are gathered, and of the next one these tokens were shown
pub record Holds (g : Gathered) (rows : List ValueTrees) (shown : List Token) : Type 0 where
  pub gathered : IsGathered (base_of g) rows
  pub row : CutShown (columns_of g) g.row shown

-- these rows are gathered, and nothing was shown of the next one
abbrev pub holds : Gathered → List ValueTrees → Type 0
holds g rows = Holds g rows []

-- what was shown: first the schema and the rows before, which nobody shows, and then values
abbrev pub gathered_shows : Gathered → List Token → Type 0
gathered_shows g (t ∷ u ∷ ts) = (t ≡ schema_token (schema_of g)) × Holds g (rows_said u) ts
gathered_shows g _ = ⊥

-- these rows of the schema are gathered, and nothing was shown yet of the next one
abbrev pub BeginsRow : Gathered → Fields → List ValueTrees → Type 0
BeginsRow g fs rows = gathered_shows g (schema_token fs ∷ rows_token rows ∷ [])

-- these rows of the schema are gathered, and the values of the next one were shown
abbrev pub ShowsRow : Gathered → Fields → List ValueTrees → ValueTrees → Type 0
ShowsRow g fs rows values = gathered_shows g (schema_token fs ∷ rows_token rows ∷ tokens_each values)

-- the schema and the rows before were shown, and nothing of the next one
abbrev pub shows_whole : Gathered → List Token → Type 0
shows_whole g (t ∷ u ∷ []) = (t ≡ schema_token (schema_of g)) × holds g (rows_said u)
shows_whole g _ = ⊥

-- where it goes back to this base, the schema and the rows before were shown, and nothing of the next one
abbrev pub goes_back : Base → List Token → Type 0
goes_back base (t ∷ u ∷ []) = (t ≡ schema_token base.schema) × IsGathered base (rows_said u)
goes_back base _ = ⊥
