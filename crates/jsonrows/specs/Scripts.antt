-- The lines of a script: each is a call over the schema that the table has by then.
use Rattle.std.specs.Prelude.{◌≡◌, ◌⊎◌}
use Rattle.schema.specs.Shape.{Field, Fields}
use Rattle.schema.specs.Fronts.{with_field}
use Rattle.schema.specs.Growing.{IsColumnFor}
use Rattle.table.specs.Calls.{Call, add_column}
use Rattle.jsonrows.specs.declared.script_reader.ScriptReader.{ScriptReader}

-- the schema over which the next line is read
abbrev pub next_schema : ScriptReader → Fields
next_schema r = r.schema

-- the schema after a call: with the field of an added column, unless the schema can take no such field
abbrev pub IsAfter : Call → Fields → Fields → Type 0
IsAfter (add_column es) old new = ((f : Field) × IsColumnFor old es f × (new ≡ with_field old f)) ⊎ (((f : Field) → IsColumnFor old es f → ⊥) × (new ≡ old))
IsAfter call old new = new ≡ old
