-- Tests of equality, for the clauses of private functions.
use Rattle.std.specs.Prelude.{Bool, true, false, ◌&&◌, ◌||◌}
use Rattle.std.specs.Ordering.{int_eq}
use Rattle.std.specs.Str.{bytes_eq}
use mathlib.Core.Bool.{beq}
use Rattle.schema.specs.Values.{ValueTree, null, boolean, integer, bytes, group, list, ValueTrees, no_values, value as item}

-- two values are the same
abbrev mutual
  pub same : ValueTree → ValueTree → Bool
  same null null = true
  same (boolean a) (boolean b) = beq a b
  same (integer a) (integer b) = int_eq a b
  same (bytes a) (bytes b) = bytes_eq a b
  same (group a) (group b) = same_each a b
  same (list a) (list b) = same_each a b
  same _ _ = false

  -- there are as many values of one as of the other, and each is the same as the other one at its place
  pub same_each : ValueTrees → ValueTrees → Bool
  same_each no_values no_values = true
  same_each (item v vs) (item w ws) = same v w && same_each vs ws
  same_each _ _ = false

-- one of the values passes the test
abbrev pub one_passes : (ValueTree → Bool) → ValueTrees → Bool
one_passes p no_values = false
one_passes p (item v vs) = p v || one_passes p vs

-- a value is in a list
abbrev pub is_listed : ValueTree → ValueTree → Bool
is_listed v (list vs) = one_passes (same v) vs
is_listed v _ = false
