-- What a `Value` is: a tree, apart from where it lies in memory.
use Rattle.std.specs.Prelude.{ℕ, zero, suc, ℤ, Bool, true, ◌&&◌, List, [], ◌∷◌, map}
use Rattle.schema.specs.declared.value.Value.{Value, fold-Value}
use Rattle.schema.specs.declared.value.Value.TheOpen.{Value-F}

-- a value: null, a boolean, a number, bytes, a group of one value for each field, or a list of items; and some values, in order
mutual
  pub data ValueTree : Type 0 where
    null : ValueTree
    boolean : Bool → ValueTree
    integer : ℤ → ValueTree
    bytes : List ℕ → ValueTree
    group : ValueTrees → ValueTree
    list : ValueTrees → ValueTree

  pub data ValueTrees : Type 0 where
    no_values : ValueTrees
    value : ValueTree → ValueTrees → ValueTrees

-- a list of trees as `ValueTrees`, in the same order
abbrev pub trees_of : List ValueTree → ValueTrees
trees_of [] = no_values
trees_of (v ∷ vs) = value v (trees_of vs)

-- one level, with each value inside already seen as its tree
abbrev pub view_step : Value-F ValueTree → ValueTree
view_step Value-F.Null = null
view_step (Value-F.Bool b) = boolean b
view_step (Value-F.Int z) = integer z
view_step (Value-F.Bytes s) = bytes s.items
view_step (Value-F.Group vs) = group (trees_of vs.items)
view_step (Value-F.List vs) = list (trees_of vs.items)

-- the tree of a value
abbrev pub view : Value → ValueTree
view = fold-Value ValueTree view_step

-- the trees of some values
abbrev pub views : List Value → ValueTrees
views vs = trees_of (map view vs)

-- whether each of the values passes the test
abbrev pub each : (ValueTree → Bool) → ValueTrees → Bool
each p no_values = true
each p (value v vs) = p v && each p vs

-- the value at a place of a group's values, the first of which is 0; null past the end
abbrev pub member_at : ℕ → ValueTrees → ValueTree
member_at i no_values = null
member_at zero (value v vs) = v
member_at (suc i) (value v vs) = member_at i vs

-- the value at a place of a group; null past the end, and of any value that is no group
abbrev pub member : ℕ → ValueTree → ValueTree
member i (group vs) = member_at i vs
member i _ = null
