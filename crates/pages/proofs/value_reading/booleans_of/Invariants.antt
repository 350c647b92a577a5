use Rattle.std.proofs.Common.{◌≡◌, ◌==◌, map, take}
use Rattle.schema.specs.Borrowed.{value_ref_view}
use Rattle.schema.specs.Values.{boolean}
use Rattle.pages.proofs.value_reading.booleans_of.Given as goal

abbrev pub invariant-loop-number : goal.invariant-loop-number
invariant-loop-number l = map value_ref_view l.values.items ≡ map (λ n. boolean (n == 1)) (take l.number-index l.numbers)
