use Rattle.std.proofs.Common.{◌≡◌, ◌<◌, ◌-◌, ◌∙◌, sym, ap, subst, true≢false, length, pos, neg_ℤ, ◌*ℤ◌, ◌+ℤ◌, arith, to_z, of_z, to_z-of_z, FitsSigned}
use Rattle.std.specs.Int.{w128}
use Rattle.jiff_core.specs.Calendar.{IsBetween}
use Rattle.jiff_core.proofs.SignedLemmas.{signed_arith}
use Rattle.arrayvec.specs.ArrayVec.{array_vec_len}
use Rattle.valuetext.proofs.ByteNumbers.{IsNeeded, after_none, none_are, none_needed, one_are, one_needed, put_before, less_within, last_within, one_before, shortest_made}
use Rattle.valuetext.proofs.twos_complement.shortest_bytes_of.Goals as goal
use Rattle.valuetext.proofs.twos_complement.shortest_bytes_of.Goals.{else-bytes-test, then-bytes-test+then-is_one_byte}

pub bytes-init : goal.bytes-init
bytes-init c =
    let fits : FitsSigned w128 c.args.number = c.ranges.number in
    record {
      same = after_none _ c.new-bytes.result.items c.new-bytes.ensures;
      count = ap length c.new-bytes.ensures;
      all = none_are c.new-bytes.result.items c.new-bytes.ensures;
      needed = none_needed (to_z w128 (of_z w128 c.args.number)) c.new-bytes.result.items c.new-bytes.ensures;
      within = (omega (arith, signed_arith, fits, to_z-of_z fits), omega (arith, signed_arith, fits, to_z-of_z fits));
    }

pub put_first-requires : goal.put_first-requires
put_first-requires c = omega (arith, c.bytes-test.true, c.bytes.invariant.count)

pub bytes-preserved : goal.bytes-preserved
bytes-preserved c =
    let before = c.split_byte-before.result.0 in
    let byte = c.split_byte-before.result.1 in
    let fits : FitsSigned w128 before = omega (arith, signed_arith, c.split_byte-before.ensures.before) in
    let back : to_z w128 (of_z w128 before) ≡ before = to_z-of_z fits in
    let whole = c.split_byte-before.ensures.whole ∙ ap (λ z. z *ℤ pos 256 +ℤ pos byte) (sym back) in
    let rest = to_z w128 c.bytes.rest-bits in
    let items = c.put_first.new.bytes.items in
    record {
      same = put_before _ rest _ byte c.bytes.bytes.items items c.put_first.ensures.items whole c.bytes.invariant.same;
      count = omega (arith, c.put_first.ensures.len, c.bytes.invariant.count);
      all = one_are byte c.bytes.bytes.items items c.put_first.ensures.items c.split_byte-before.ensures.byte c.bytes.invariant.all;
      needed = one_needed rest (to_z w128 (of_z w128 before)) byte c.bytes.bytes.items items c.put_first.ensures.items whole (λ one. true≢false (sym (c.is_one_byte.ensures.1 one) ∙ c.if-is_one_byte.false));
      within = less_within rest _ byte (15 - c.bytes.counter) _ (omega (arith, c.bytes-test.true)) c.split_byte-before.ensures.byte whole c.bytes.invariant.within;
    }

pub put_first-requires-2 : goal.put_first-requires-2
put_first-requires-2 c = omega (arith, c.bytes.auto.counter-end, c.bytes.invariant.count)

pub returns-clause-number : goal.returns-clause-number
returns-clause-number c =
    let one : IsBetween (neg_ℤ (pos 128)) (pos 127) (to_z w128 c.bytes.rest-bits) = elim c.bytes-test.branch [
      | else-bytes-test w ↦ last_within (to_z w128 c.bytes.rest-bits) c.bytes.counter (omega (arith, w.bytes-test.false)) c.bytes.invariant.within
      | then-bytes-test+then-is_one_byte w ↦ w.is_one_byte.ensures.0 w.if-is_one_byte.true
    ] in
    let fits : FitsSigned w128 c.args.number = c.ranges.number in
    one_before (to_z w128 c.bytes.rest-bits) c.split_byte-first.result.0 _ _ c.bytes.bytes.items c.put_first-2.new.bytes.items c.put_first-2.ensures.items one c.split_byte-first.ensures.whole c.split_byte-first.ensures.byte (c.bytes.invariant.same ∙ to_z-of_z fits)

pub returns-clause-shortest : goal.returns-clause-shortest
returns-clause-shortest c =
    let one : IsBetween (neg_ℤ (pos 128)) (pos 127) (to_z w128 c.bytes.rest-bits) = elim c.bytes-test.branch [
      | else-bytes-test w ↦ last_within (to_z w128 c.bytes.rest-bits) c.bytes.counter (omega (arith, w.bytes-test.false)) c.bytes.invariant.within
      | then-bytes-test+then-is_one_byte w ↦ w.is_one_byte.ensures.0 w.if-is_one_byte.true
    ] in
    shortest_made (to_z w128 c.bytes.rest-bits) c.split_byte-first.result.0 _ c.bytes.bytes.items c.put_first-2.new.bytes.items c.put_first-2.ensures.items one c.split_byte-first.ensures.whole c.split_byte-first.ensures.byte c.bytes.invariant.all c.bytes.invariant.needed

pub returns-clause-bytes : goal.returns-clause-bytes
returns-clause-bytes c = one_are _ c.bytes.bytes.items c.put_first-2.new.bytes.items c.put_first-2.ensures.items c.split_byte-first.ensures.byte c.bytes.invariant.all

pub returns-clause-length : goal.returns-clause-length
returns-clause-length c = omega (arith, c.bytes.auto.counter-end, c.bytes.invariant.count, c.put_first-2.ensures.len)
