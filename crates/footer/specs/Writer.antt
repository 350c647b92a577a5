-- The rows that a writer was given, and what it does with them.
use Rattle.std.specs.Prelude.{◌≡◌, ℕ, ◌+◌, ◌≤◌, ◌<◌, pos, List, [], ◌∷◌, ◌++◌, length, map, sum_by}
use Rattle.std.specs.List.{AllByRecursion}
use Rattle.schema.specs.Values.{ValueTrees, integer, group, no_values, value}
use Rattle.schema.specs.Shape.{Fields}
use Rattle.metadata.specs.Records.{GroupMeta}
use Rattle.metadata.specs.Views.{group_meta_view}
use Rattle.assemble.specs.Sinks.{Token, single, tokens_each}
use Rattle.shred.specs.Buffer.{Holds, holds, HoldsBelow}
use Rattle.shred.specs.Buffer as buffer
use Rattle.shred.specs.inner.Opening.{schema_token, rows_token, rows_said}
use Rattle.row_group.specs.declared.options.Style.{Style}
use Rattle.row_group.specs.declared.options.Style.TheVariants.{Plain, Dictionary, Delta, Lengths, Split}
use Rattle.row_group.specs.Paged.{group_weight}
use Rattle.row_group.specs.Writing.{AreTaken}
use Rattle.footer.specs.declared.options.WriteOptions.{WriteOptions}
use Rattle.footer.specs.declared.file_writer.FileWriter.{FileWriter}
use Rattle.footer.specs.File.{magic}
use Rattle.footer.specs.Writing.{chunk_options, groups_of, HasLargeColumn, IsOutOfRange}
use Rattle.footer.specs.Own.{AppendsGroups}

-- The groups `metas` of the rows are written, and the rows in `rest` are still to be: with the groups of `rest` after them
-- they are the groups of the rows.
pub record IsBegun (fs : Fields) (o : WriteOptions) (rows rest : List ValueTrees) (out : List ℕ) (metas : List GroupMeta) : Type 0 where
  pub before : List ValueTrees
  pub split : rows ≡ before ++ rest
  pub stands : (new : List ℕ) (gs : List GroupMeta) → AppendsGroups fs (chunk_options o) out new gs (groups_of o.group_rows rest)
      → AppendsGroups fs (chunk_options o) magic new (metas ++ gs) (groups_of o.group_rows rows)
  pub taken : AllByRecursion (AreTaken fs) (groups_of o.group_rows rest) → AllByRecursion (AreTaken fs) (groups_of o.group_rows rows)
  pub weighs : length out + sum_by (group_weight fs (chunk_options o)) (groups_of o.group_rows rest) ≤ 4 + sum_by (group_weight fs (chunk_options o)) (groups_of o.group_rows rows)
  pub large : HasLargeColumn fs (groups_of o.group_rows rest) → HasLargeColumn fs (groups_of o.group_rows rows)

-- the schema of the rows that a writer takes
abbrev pub schema_of : FileWriter → Fields
schema_of writer = buffer.schema_of writer.waiting

-- how a writer writes its rows
abbrev pub options_of : FileWriter → WriteOptions
options_of writer = writer.options

-- a writer has written all of these rows but the rest
abbrev pub HasWritten : FileWriter → List ValueTrees → List ValueTrees → Type 0
HasWritten writer rows rest = IsBegun (schema_of writer) (options_of writer) rows rest writer.bytes.items (map group_meta_view writer.groups.items)

-- Rows were given: full groups of them are written, whatever rows come later, and the others wait.
pub record AreGiven (fs : Fields) (o : WriteOptions) (out : List ℕ) (metas : List GroupMeta) (waiting : List ValueTrees) (written : ℕ) (rows : List ValueTrees) : Type 0 where
  pub full : List ValueTrees
  pub joined : rows ≡ full ++ waiting
  pub begun : (later : List ValueTrees) → IsBegun fs o (full ++ later) later out metas
  pub few : length waiting ≤ o.group_rows
  pub counted : written ≡ length full
  pub in_range : IsOutOfRange o → ⊥

-- a writer was given these rows: its buffer holds those that wait
pub record IsGiven (writer : FileWriter) (rows : List ValueTrees) : Type 0 where
  pub waiting : List ValueTrees
  pub held : holds writer.waiting waiting
  pub given : AreGiven (schema_of writer) (options_of writer) writer.bytes.items (map group_meta_view writer.groups.items) waiting writer.written rows

-- the rows that a writer was given are these
abbrev pub has_rows : FileWriter → List ValueTrees → Type 0
has_rows = IsGiven

-- ---- what a writer is shown of its next row

-- the number of a style in the token of the options
abbrev pub style_number : Style → ℕ
style_number Plain = 0
style_number Dictionary = 1
style_number Delta = 2
style_number Lengths = 3
style_number Split = 4

-- the token that says the options
abbrev pub options_token : WriteOptions → Token
options_token o = single (group (value (integer (pos o.group_rows)) (value (integer (pos o.page_rows)) (value (integer (pos o.page_version)) (value (integer (pos (style_number o.style))) no_values)))))

-- the writer was given these rows, its next group is not full, and of the next row it was shown these tokens
pub record IsShown (writer : FileWriter) (rows : List ValueTrees) (shown : List Token) : Type 0 where
  pub waiting : List ValueTrees
  pub held : Holds writer.waiting waiting shown
  pub given : AreGiven (schema_of writer) (options_of writer) writer.bytes.items (map group_meta_view writer.groups.items) waiting writer.written rows
  pub few : length waiting < (options_of writer).group_rows

-- what a writer was shown: first the schema, the rows before and the options, which nobody shows, and then values
abbrev pub writer_shows : FileWriter → List Token → Type 0
writer_shows writer (t ∷ u ∷ o ∷ ts) = (t ≡ schema_token (schema_of writer)) × ((o ≡ options_token (options_of writer)) × IsShown writer (rows_said u) ts)
writer_shows writer _ = ⊥

-- a writer with this schema and these options was given these rows, and was shown nothing yet of the next one
abbrev pub BeginsRow : FileWriter → Fields → WriteOptions → List ValueTrees → Type 0
BeginsRow writer fs o rows = writer_shows writer (schema_token fs ∷ rows_token rows ∷ options_token o ∷ [])

-- a writer with this schema and these options was given these rows, and was shown the values of the next one
abbrev pub ShowsRow : FileWriter → Fields → WriteOptions → List ValueTrees → ValueTrees → Type 0
ShowsRow writer fs o rows values = writer_shows writer (schema_token fs ∷ rows_token rows ∷ options_token o ∷ tokens_each values)

-- ---- a row that is dropped

-- what a writer keeps of the rows before the one that it is shown
pub record Base : Type 0 where
  pub waiting : buffer.Base
  pub options : WriteOptions
  pub bytes : List ℕ
  pub groups : List GroupMeta
  pub written : ℕ

-- the options of a writer, the bytes, groups and number of rows that it has written, and what it keeps of the rows that wait
abbrev pub base_of : FileWriter → Base
base_of writer = record { waiting = buffer.base_of writer.waiting; options = options_of writer; bytes = writer.bytes.items; groups = map group_meta_view writer.groups.items; written = writer.written }

-- The writer was given these rows once the row is dropped that is shown, and its next group is not full.
pub record HasBelow (base : Base) (rows : List ValueTrees) : Type 0 where
  pub waiting : List ValueTrees
  pub held : HoldsBelow base.waiting waiting
  pub given : AreGiven base.waiting.schema base.options base.bytes base.groups waiting base.written rows
  pub few : length waiting < base.options.group_rows

-- a writer was shown the schema, the rows before and the options, and nothing of the next row
abbrev pub shows_whole : FileWriter → List Token → Type 0
shows_whole writer (t ∷ u ∷ o ∷ []) = (t ≡ schema_token (schema_of writer)) × ((o ≡ options_token (options_of writer)) × IsShown writer (rows_said u) [])
shows_whole writer _ = ⊥

-- a writer that goes back to this base was shown the schema, the rows before and the options, and nothing of the next row
abbrev pub goes_back : Base → List Token → Type 0
goes_back base (t ∷ u ∷ o ∷ []) = (t ≡ schema_token base.waiting.schema) × ((o ≡ options_token base.options) × HasBelow base (rows_said u))
goes_back base _ = ⊥
