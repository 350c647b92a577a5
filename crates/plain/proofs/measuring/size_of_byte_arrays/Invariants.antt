use Rattle.std.proofs.Common.{◌≡◌, ◌≤◌, length}
use Rattle.bits.specs.Codec.{InTurn}
use Rattle.schema.specs.declared.value.Kind.TheVariants.{ByteArray}
use Rattle.plain.specs.Plain.{IsSpelled, IsReadOver}
use Rattle.plain.specs.ValuesFrom.{values_from, end_from}
use Rattle.plain.proofs.measuring.size_of_byte_arrays.Given as goal

abbrev pub invariant-loop : goal.invariant-loop
invariant-loop l = record { within : l.at ≤ length l.bytes; ends : end_from ByteArray l.counter 0 l.bytes ≡ l.at; stand : InTurn (IsSpelled ByteArray) l.bytes (values_from ByteArray l.counter 0 l.bytes) l.at; below : IsReadOver ByteArray l.bytes l.counter → ⊥ }
