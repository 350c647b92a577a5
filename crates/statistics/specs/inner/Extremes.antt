-- What the private functions give: the least and the greatest of some values, where all of them compare.
use Rattle.std.specs.Prelude.{Bool, List, [], ◌∷◌, Option, Some, None, true, length, nat_le, if◌then◌else◌}
use Rattle.std.specs.List.{list_all}
use Rattle.std.specs.Ordering.{is_some_and, is_lt, is_gt}
use Rattle.schema.specs.declared.order.Order.{Order}
use Rattle.schema.specs.Values.{ValueTree, bytes}
use Rattle.schema.specs.Orders.{compared, is_compared}

-- the lesser of two values; the second if they are equal or do not compare
abbrev pub lesser : Option Order → ValueTree → ValueTree → ValueTree
lesser order v m = if is_some_and is_lt (compared order v m) then v else m

-- the greater of two values; the second if they are equal or do not compare
abbrev pub greater : Option Order → ValueTree → ValueTree → ValueTree
greater order v m = if is_some_and is_gt (compared order v m) then v else m

-- one of two by `pick`, the second perhaps not there
abbrev pub picked : (ValueTree → ValueTree → ValueTree) → ValueTree → Option ValueTree → ValueTree
picked pick v None = v
picked pick v (Some m) = pick v m

-- what is picked from what was picked before and some values after it
abbrev pub pick_from : (ValueTree → ValueTree → ValueTree) → Option ValueTree → List ValueTree → Option ValueTree
pick_from pick found [] = found
pick_from pick found (v ∷ vs) = pick_from pick (Some (picked pick v found)) vs

-- a value may be kept as a bound: a byte value has at most 64 bytes
abbrev pub is_within_limit : ValueTree → Bool
is_within_limit (bytes s) = nat_le (length s) 64
is_within_limit _ = true

-- a bound that may be kept
abbrev pub if_within_limit : Option ValueTree → Option ValueTree
if_within_limit None = None
if_within_limit (Some m) = if is_within_limit m then Some m else None

-- what is kept of what was picked, where all values compare
abbrev pub kept : Bool → Option ValueTree → Option ValueTree
kept all_compared found = if all_compared then if_within_limit found else None

-- the bound that is picked from the values
abbrev pub bound_of : Option Order → (ValueTree → ValueTree → ValueTree) → List ValueTree → Option ValueTree
bound_of order pick vs = kept (list_all (is_compared order) vs) (pick_from pick None vs)
