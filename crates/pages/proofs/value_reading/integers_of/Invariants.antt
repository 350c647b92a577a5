use Rattle.std.proofs.Common.{◌≡◌, map, take}
use Rattle.std.specs.Prelude.{All}
use Rattle.schema.specs.declared.value.Kind.TheVariants.{Int32}
use Rattle.schema.specs.Borrowed.{value_ref_view}
use Rattle.schema.specs.Values.{integer}
use Rattle.plain.specs.Plain.{IsOfKind}
use Rattle.pages.proofs.value_reading.integers_of.Given as goal

abbrev pub invariant-loop-number : goal.invariant-loop-number
invariant-loop-number l = (map value_ref_view l.values.items ≡ map integer (take l.number-index l.numbers)) × All (IsOfKind Int32) (map value_ref_view l.values.items)
