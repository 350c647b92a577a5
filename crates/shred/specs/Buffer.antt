-- The rows that a buffer holds as columns, and what it was shown of the next one.
use Rattle.std.specs.Prelude.{◌≡◌, ℕ, ◌≤◌, ◌^◌, List, [], ◌∷◌, length}
use Rattle.schema.specs.Values.{ValueTrees}
use Rattle.schema.specs.Shape.{Fields}
use Rattle.schema.specs.Stripe.{Entry, columns}
use Rattle.schema.specs.Fits.{RowsFit}
use Rattle.assemble.specs.Sinks.{Token, tokens_each}
use Rattle.shred.specs.declared.row_buffer.RowBuffer.{RowBuffer}
use Rattle.shred.specs.inner.Filling.{state_of, marked_of, run, root}
use Rattle.shred.specs.inner.Opening.{schema_token, rows_token, rows_said}

-- the schema whose rows a buffer holds
abbrev pub schema_of : RowBuffer → Fields
schema_of buffer = buffer.schema.now

-- The buffer holds these rows, which fit, as columns; and of the next row it was shown these tokens.
pub record Holds (buffer : RowBuffer) (rows : List ValueTrees) (shown : List Token) : Type 0 where
  pub fit : RowsFit (schema_of buffer) rows
  pub counted : buffer.count ≡ length rows
  pub countable : buffer.count ≤ 2 ^ 62
  pub state : state_of buffer.filling ≡ run (root (schema_of buffer) (columns (schema_of buffer) rows)) shown

-- the buffer holds these rows, and was shown nothing of the next one
abbrev pub holds : RowBuffer → List ValueTrees → Type 0
holds buffer rows = Holds buffer rows []

-- what a buffer was shown: first the schema and the rows before, which nobody shows, and then values
abbrev pub buffer_shows : RowBuffer → List Token → Type 0
buffer_shows buffer (t ∷ u ∷ ts) = (t ≡ schema_token (schema_of buffer)) × Holds buffer (rows_said u) ts
buffer_shows buffer _ = ⊥

-- a buffer holds these rows of the schema, and was shown nothing yet of the next one
abbrev pub BeginsRow : RowBuffer → Fields → List ValueTrees → Type 0
BeginsRow buffer fs rows = buffer_shows buffer (schema_token fs ∷ rows_token rows ∷ [])

-- a buffer holds these rows of the schema, and was shown the values of the next one
abbrev pub ShowsRow : RowBuffer → Fields → List ValueTrees → ValueTrees → Type 0
ShowsRow buffer fs rows values = buffer_shows buffer (schema_token fs ∷ rows_token rows ∷ tokens_each values)

-- ---- a row that is dropped

-- what a buffer keeps of the rows before the one that it is shown
pub record Base : Type 0 where
  pub schema : Fields
  pub count : ℕ
  pub marked : List (List Entry)

-- the schema of a buffer, the number of the rows before the one that it is shown, and the columns of these rows
abbrev pub base_of : RowBuffer → Base
base_of buffer = record { schema = schema_of buffer; count = buffer.count; marked = marked_of buffer.filling }

-- These rows, which fit, are held once the row is dropped that is shown.
pub record HoldsBelow (base : Base) (rows : List ValueTrees) : Type 0 where
  pub fit : RowsFit base.schema rows
  pub counted : base.count ≡ length rows
  pub countable : base.count ≤ 2 ^ 62
  pub marked : base.marked ≡ columns base.schema rows

-- a buffer was shown the schema and the rows before, and nothing of the next one
abbrev pub shows_whole : RowBuffer → List Token → Type 0
shows_whole buffer (t ∷ u ∷ []) = (t ≡ schema_token (schema_of buffer)) × holds buffer (rows_said u)
shows_whole buffer _ = ⊥

-- a buffer that goes back to this base was shown the schema and the rows before, and nothing of the next one
abbrev pub goes_back : Base → List Token → Type 0
goes_back base (t ∷ u ∷ []) = (t ≡ schema_token base.schema) × HoldsBelow base (rows_said u)
goes_back base _ = ⊥
