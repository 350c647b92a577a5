-- The entries of a leaf without levels.
use Rattle.std.specs.Prelude.{List, map, Some}
use Rattle.schema.specs.Values.{ValueTree}
use Rattle.schema.specs.Stripe.{Entry}

-- the entry of a value: both levels are 0, and the value is there
abbrev pub flat_entry : ValueTree → Entry
flat_entry v = record { repetition = 0; definition = 0; value = Some v }

-- an entry for each value
abbrev pub flat_entries : List ValueTree → List Entry
flat_entries vs = map flat_entry vs
