use Rattle.std.proofs.Common.{◌≡◌, ◌∙◌, sym, ap, length, pos, ◌*ℤ◌, ◌+ℤ◌, arith, to_z, of_z, to_z-of_z, FitsSigned}
use Rattle.std.specs.Int.{w128}
use Rattle.jiff_core.proofs.SignedLemmas.{signed_arith}
use Rattle.valuetext.proofs.ByteNumbers.{after_none, none_are, one_are, put_before, too_few}
use Rattle.valuetext.proofs.twos_complement.bytes_of.Goals as goal
use Rattle.valuetext.proofs.twos_complement.bytes_of.Goals.{then-rest-ltminus128-via-then-rest-ltminus128, then-rest-ltminus128-via-else-rest-ltminus128+then-rest-gt127}

pub bytes-init : goal.bytes-init
bytes-init c = record {
  same = after_none _ c.new-bytes.result.items c.new-bytes.ensures;
  count = ap length c.new-bytes.ensures;
  all = none_are c.new-bytes.result.items c.new-bytes.ensures;
}

pub bytes-preserved : goal.bytes-preserved
bytes-preserved c =
    let before = c.split_byte-before.result.0 in
    let byte = c.split_byte-before.result.1 in
    let fits : FitsSigned w128 before = omega (arith, signed_arith, c.split_byte-before.ensures.before) in
    let back : to_z w128 (of_z w128 before) ≡ before = to_z-of_z fits in
    record {
      same = put_before _ (to_z w128 c.bytes.rest-bits) _ byte c.bytes.bytes.items c.put_first.new.bytes.items c.put_first.ensures.items
          (c.split_byte-before.ensures.whole ∙ ap (λ z. z *ℤ pos 256 +ℤ pos byte) (sym back)) c.bytes.invariant.same;
      count = omega (arith, c.put_first.ensures.len, c.bytes.invariant.count);
      all = one_are byte c.bytes.bytes.items c.put_first.new.bytes.items c.put_first.ensures.items c.split_byte-before.ensures.byte c.bytes.invariant.all;
    }

pub returns-then-rest-ltminus128-clause-none : goal.returns-then-rest-ltminus128-clause-none
returns-then-rest-ltminus128-clause-none c = λ _ bytes all len is.
    let fits : FitsSigned w128 c.args.number = c.ranges.number in
    let few = too_few (to_z w128 c.bytes.rest-bits) c.args.number c.bytes.bytes.items bytes c.bytes.invariant.all all (omega (arith, len, c.bytes.invariant.count)) (c.bytes.invariant.same ∙ to_z-of_z fits) is in
    elim c.then-rest-ltminus128.branch [
      | then-rest-ltminus128-via-then-rest-ltminus128 w ↦ omega (arith, signed_arith, few, w.if-rest-ltminus128.true)
      | then-rest-ltminus128-via-else-rest-ltminus128+then-rest-gt127 w ↦ omega (arith, signed_arith, few, w.if-rest-gt127.true)
    ]

pub returns-clause-bytes : goal.returns-clause-bytes
returns-clause-bytes c = one_are _ c.bytes.bytes.items c.put_first-2.new.bytes.items c.put_first-2.ensures.items c.split_byte-first.ensures.byte c.bytes.invariant.all
