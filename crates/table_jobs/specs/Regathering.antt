-- Rows that wait under their keys, and the rows of the table that they are.
use Rattle.std.specs.Prelude.{List, Option, Some, None}
use Rattle.std.specs.List.{AllZip}
use Rattle.schema.specs.Values.{ValueTree}
use Rattle.schema.specs.Keys.{KeyColumn, AreRowsOf}
use Rattle.partition.specs.Splitting.{KeyRows}

-- the rows of the table for the rows that wait under each key, key by key
abbrev pub AreWhole : List KeyColumn → List KeyRows → List KeyRows → Type 0
AreWhole columns waiting whole = AllZip (λ (w v : KeyRows). AreRowsOf columns w.key w.rows v.rows) waiting whole

-- the value of a row of the table at a place: that of the key, where the key has one there, or else this one
abbrev pub whole_value : Option ValueTree → ValueTree → ValueTree
whole_value (Some v) next = v
whole_value None next = next
