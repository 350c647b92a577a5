-- What is printed of a row is read as that row.
use Rattle.std.specs.Prelude.{◌≡◌, Bool, Some, IsTrue}
use Rattle.serde_json.specs.Data.{Data}
use Rattle.serde_json.specs.Read.{read}
use Rattle.schema.specs.Values.{ValueTrees}
use Rattle.schema.specs.Shape.{Fields}
use Rattle.schema.specs.Fits.{fits_each}
use Rattle.schema.specs.Law.{IsSchema, IsWithinLimits}
use Rattle.rowtext.specs.Json.{row_text, row_text_as}
use Rattle.rowtext.specs.Reading.{row_of, row_of_as}

-- the text of each row that fits the schema, with texts or without, is JSON, and is read in the same way as that row
abbrev pub RowsReadBackAs : Type 0
RowsReadBackAs =
    (texts : Bool) (fs : Fields) (row : ValueTrees) → IsSchema fs → IsWithinLimits fs → IsTrue (fits_each fs row)
    → (d : Data) × (read (row_text_as texts fs row) ≡ Some d) × (row_of_as texts fs d ≡ Some row)

-- the text of each row that fits the schema is JSON, and that row
abbrev pub RowsReadBack : Type 0
RowsReadBack = (fs : Fields) (row : ValueTrees) → IsSchema fs → IsWithinLimits fs → IsTrue (fits_each fs row) → (d : Data) × (read (row_text fs row) ≡ Some d) × (row_of fs d ≡ Some row)
