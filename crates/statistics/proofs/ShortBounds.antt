-- The bytes of a value that is kept as a bound.
use Rattle.std.proofs.Common.{◌≡◌, ℕ, List, [], ◌∷◌, length, arith, ap}
use Rattle.bits.specs.Codec.{AreInTurn}
use Rattle.schema.specs.declared.value.Kind.{Kind}
use Rattle.schema.specs.declared.value.Kind.TheVariants.{Boolean, Int32, Int64, ByteArray, FixedLenByteArray}
use Rattle.schema.specs.Values.{ValueTree, integer, bytes}
use Rattle.plain.specs.Plain.{spelling, IsSpelled}
use Rattle.statistics.specs.Bytes.{KeptBoundsAreShort}

one_spelled : (kind : Kind) (text : List ℕ) (v : ValueTree) → AreInTurn (IsSpelled kind) 1 text (v ∷ []) (length text) → length text ≡ length (spelling kind v)
one_spelled kind text v h = omega (arith, h.1.2.ends, h.1.3, h.1.4)

pub kept_bounds_are_short : KeptBoundsAreShort
kept_bounds_are_short Boolean text v h kept = omega (arith, h.ends)
kept_bounds_are_short Int32 text (integer z) h kept = omega (arith, one_spelled Int32 text (integer z) h)
kept_bounds_are_short Int32 text v h kept = omega (arith, one_spelled Int32 text v h)
kept_bounds_are_short Int64 text (integer z) h kept = omega (arith, one_spelled Int64 text (integer z) h)
kept_bounds_are_short Int64 text v h kept = omega (arith, one_spelled Int64 text v h)
kept_bounds_are_short ByteArray text (bytes s) h kept = omega (arith, ap length h.1, kept)
kept_bounds_are_short ByteArray text v h kept = absurd h
kept_bounds_are_short (FixedLenByteArray k) text (bytes s) h kept = omega (arith, one_spelled (FixedLenByteArray k) text (bytes s) h, kept)
kept_bounds_are_short (FixedLenByteArray k) text v h kept = omega (arith, one_spelled (FixedLenByteArray k) text v h)
