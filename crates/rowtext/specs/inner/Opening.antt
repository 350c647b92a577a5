-- A schema as one token, by which two schemas are told apart, and the lines before a row as another.
use Rattle.std.specs.Prelude.{ℕ, ℤ, Bool, true, false, List, [], ◌∷◌}
use Rattle.schema.specs.Values.{ValueTree, integer, bytes, group, list, ValueTrees, no_values, value}
use Rattle.schema.specs.Shape.{Fields}
use Rattle.schema.specs.inner.Code.{Rose, rose, Roses, no_roses, roses, fields_roses}
use Rattle.assemble.specs.Sinks.{Token, single}

-- integers as values, one for each and in their order
abbrev pub integers : List ℤ → ValueTrees
integers [] = no_values
integers (z ∷ zs) = value (integer z) (integers zs)

abbrev mutual
  pub rose_value : Rose → ValueTree
  rose_value (rose a b rs) = group (value (bytes a) (value (group (integers b)) (value (group (roses_values rs)) no_values)))

  pub roses_values : Roses → ValueTrees
  roses_values no_roses = no_values
  roses_values (roses r rs) = value (rose_value r) (roses_values rs)

-- the token that says the schema, and whether there are texts
abbrev pub opening_as : Bool → Fields → Token
opening_as false fs = single (group (roses_values (fields_roses fs)))
opening_as true fs = single (list (roses_values (fields_roses fs)))

-- the token that says the schema, without texts
abbrev pub opening : Fields → Token
opening = opening_as false

-- the token that says the lines before a row
abbrev pub lines_token : List ℕ → Token
lines_token lines = single (bytes lines)

-- the lines that such a token says; no bytes for any other token
abbrev pub lines_said : Token → List ℕ
lines_said (single (bytes lines)) = lines
lines_said _ = []
