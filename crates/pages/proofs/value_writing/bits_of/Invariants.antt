use Rattle.std.proofs.Common.{◌≡◌, ◌++◌, drop, map}
use Rattle.schema.specs.Borrowed.{value_ref_view}
use Rattle.plain.specs.Plain.{bit_of}
use Rattle.pages.proofs.value_writing.bits_of.Given as goal

abbrev pub invariant-loop-value : goal.invariant-loop-value
invariant-loop-value l = l.bits.items ++ map bit_of (map value_ref_view (drop l.value-index l.values)) ≡ map bit_of (map value_ref_view l.values)
