-- The values that wait in PLAIN.
use Rattle.std.specs.Prelude.{List, [], take, Option, None, Some}
use Rattle.schema.specs.Values.{ValueTree}
use Rattle.plain.specs.ValuesFrom.{values_from}
use Rattle.shred.specs.declared.plain_values.PlainValues.{PlainValues}
use Rattle.shred.specs.inner.Roomy.{list_of}

-- the values that wait in PLAIN, in their order
abbrev pub plain_view : PlainValues → List ValueTree
plain_view p = values_from p.kind p.count 0 (list_of p.bytes)

-- the values that waited in PLAIN when they were marked
abbrev pub plain_marked : PlainValues → List ValueTree
plain_marked p = take p.marked (plain_view p)

-- the values of a column, where some can wait in PLAIN
abbrev pub waiting : Option PlainValues → List ValueTree
waiting None = []
waiting (Some p) = plain_view p

-- the values of a column that waited in PLAIN when they were marked; none if no value of it can wait so
abbrev pub waiting_marked : Option PlainValues → List ValueTree
waiting_marked None = []
waiting_marked (Some p) = plain_marked p
