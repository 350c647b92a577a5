-- A schema and rows as tokens, by which what was shown to a buffer says them.
use Rattle.std.specs.Prelude.{ℤ, List, [], ◌∷◌}
use Rattle.schema.specs.Values.{ValueTree, integer, bytes, group, list, ValueTrees, no_values, value}
use Rattle.schema.specs.Shape.{Fields}
use Rattle.schema.specs.inner.Code.{Rose, rose, Roses, no_roses, roses, fields_roses}
use Rattle.assemble.specs.Sinks.{Token, single}

-- integers as values, one for each and in their order
abbrev pub integers : List ℤ → ValueTrees
integers [] = no_values
integers (z ∷ zs) = value (integer z) (integers zs)

abbrev mutual
  pub rose_value : Rose → ValueTree
  rose_value (rose a b rs) = group (value (bytes a) (value (group (integers b)) (value (group (roses_values rs)) no_values)))

  pub roses_values : Roses → ValueTrees
  roses_values no_roses = no_values
  roses_values (roses r rs) = value (rose_value r) (roses_values rs)

-- the token that says the schema
abbrev pub schema_token : Fields → Token
schema_token fs = single (group (roses_values (fields_roses fs)))

-- rows as groups, one for each and in their order
abbrev pub groups : List ValueTrees → ValueTrees
groups [] = no_values
groups (row ∷ rows) = value (group row) (groups rows)

-- the token that says the rows before
abbrev pub rows_token : List ValueTrees → Token
rows_token rows = single (list (groups rows))

-- the rows that groups are, up to the first value that is no group
abbrev pub rows_among : ValueTrees → List ValueTrees
rows_among (value (group row) vs) = row ∷ rows_among vs
rows_among _ = []

-- the rows that such a token says; none for any other token
abbrev pub rows_said : Token → List ValueTrees
rows_said (single (list vs)) = rows_among vs
rows_said _ = []
