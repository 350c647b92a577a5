-- What a reader reads.
use Rattle.std.specs.Prelude.{◌≡◌, ℕ, Bool, false, List, Some, IsTrue}
use Rattle.serde_json.specs.Data.{Data}
use Rattle.serde_json.specs.Read.{read}
use Rattle.schema.specs.Fits.{fits_each}
use Rattle.schema.specs.Shape.{Fields}
use Rattle.schema.specs.Values.{ValueTrees}
use Rattle.rowtext.specs.Reading.{row_of_as}
use Rattle.rowtext.specs.declared.reader.Reader.{Reader}

-- the schema whose rows a reader reads
abbrev pub schema_of : Reader → Fields
schema_of r = r.plan

-- the text is the row of the schema with these values, with texts or without
abbrev pub IsRowAs : Bool → Fields → List ℕ → ValueTrees → Type 0
IsRowAs texts fs text values = (d : Data) × ((read text ≡ Some d) × ((row_of_as texts fs d ≡ Some values) × IsTrue (fits_each fs values)))

-- the text is the row of the schema with these values, without texts
abbrev pub IsRowOf : Fields → List ℕ → ValueTrees → Type 0
IsRowOf = IsRowAs false
