use Rattle.std.proofs.Common.{◌-◌, ◌∙◌, arith, to_z, to_z-of_z, refl, length, drop, take, FitsSigned}
use Rattle.std.specs.Int.{w128}
use Rattle.jiff_core.proofs.SignedLemmas.{signed_arith}
use Rattle.valuetext.proofs.ByteNumbers.{byte_kept, within_kept, room_for, number_done}
use Rattle.valuetext.proofs.twos_complement.number_of.Goals as goal

pub with_byte-number-requires : goal.with_byte-number-requires
with_byte-number-requires c =
    let room = room_for (to_z w128 c.loop-byte.number-bits) c.loop-byte.byte-index (omega arith) c.loop-byte.invariant.within in
    (omega (arith, signed_arith, room), omega (arith, signed_arith, room))

pub loop-byte-preserved : goal.loop-byte-preserved
loop-byte-preserved c =
    let i = c.loop-byte.byte-index in
    let n = to_z w128 c.loop-byte.number-bits in
    let room = room_for n i (omega arith) c.loop-byte.invariant.within in
    record {
      same = byte_kept n _ _ i _ (take (length c.args.bytes.now - 1) (drop 1 c.args.bytes.now)) (omega arith) refl
          (omega (arith, signed_arith, c.with_byte-number.ensures.value, c.with_byte-number.ensures.byte, room)) c.loop-byte.invariant.same;
      within = within_kept n _ i _ c.with_byte-number.ensures.byte (omega (arith, signed_arith, c.with_byte-number.ensures.value, c.with_byte-number.ensures.byte, room)) c.loop-byte.invariant.within;
    }

pub returns-clause-number : goal.returns-clause-number
returns-clause-number c =
    let first = c.signed_byte-number.result in
    let fits : FitsSigned w128 first = omega (arith, signed_arith, c.signed_byte-number.ensures.bound) in
    number_done c.args.bytes.now (to_z w128 c.loop-byte.number-bits) _ c.loop-byte.byte-index (omega arith) c.loop-byte.invariant.same (omega arith) (to_z-of_z fits ∙ c.signed_byte-number.ensures.value)
