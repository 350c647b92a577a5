-- What a borrowed value and a borrowed entry show, apart from where they lie in memory.
use Rattle.std.specs.Prelude.{option_map}
use Rattle.schema.specs.Values.{ValueTree, null, boolean, integer, bytes, group, list, views}
use Rattle.schema.specs.Stripe.{Entry}
use Rattle.schema.specs.declared.borrowed.ValueRef.{ValueRef}
use Rattle.schema.specs.declared.borrowed.ValueRef.TheVariants.{Null, Bool, Int, Bytes, Group, List}
use Rattle.schema.specs.declared.borrowed.EntryRef.{EntryRef}

-- the tree of a borrowed value
abbrev pub value_ref_view : ValueRef → ValueTree
value_ref_view Null = null
value_ref_view (Bool b) = boolean b
value_ref_view (Int z) = integer z
value_ref_view (Bytes s) = bytes s.now
value_ref_view (Group vs) = group (views vs.now)
value_ref_view (List vs) = list (views vs.now)

-- a borrowed entry of a column: its levels, and the tree of its value, if it has one
abbrev pub entry_ref_view : EntryRef → Entry
entry_ref_view e = record { repetition = e.repetition; definition = e.definition; value = option_map value_ref_view e.value }
