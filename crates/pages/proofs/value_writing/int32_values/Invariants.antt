use Rattle.std.proofs.Common.{◌≡◌, ◌++◌, drop, map}
use Rattle.schema.specs.Borrowed.{value_ref_view}
use Rattle.schema.specs.Values.{integer}
use Rattle.pages.proofs.value_writing.int32_values.Given as goal

abbrev pub invariant-loop-value : goal.invariant-loop-value
invariant-loop-value l = map integer l.numbers.items ++ map value_ref_view (drop l.value-index l.values) ≡ map value_ref_view l.values
