-- The first rows of a query.
use Rattle.std.specs.Prelude.{ℕ, Bool, List, map, filter, take}
use Rattle.table.specs.Table.{Table, rows}
use Rattle.table.specs.Deciding.{Filter, satisfies}
use Rattle.table.specs.Cursors.{Columns, wanted_places, cut}
use Rattle.answers.specs.Querying.{fields_at, row_lines}

-- the lines of the first so many of the rows of a table that satisfy, in table order: objects of the wanted columns
abbrev pub first_lines : Bool → ℕ → Filter → Columns → Table → List ℕ
first_lines texts limit terms columns t =
    row_lines texts (fields_at (wanted_places columns 0 t.schema) 0 t.schema)
    (take limit (map (cut (wanted_places columns 0 t.schema)) (filter (satisfies t.schema terms) (rows t.groups))))
