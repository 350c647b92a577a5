use Rattle.std.proofs.Common.{◌≡◌, ◌≤◌, ◌+◌, ◌-◌, ◌*◌, ◌%◌, ◌^◌, get_or, arith, below_more}
use Rattle.std.specs.Int.Bits.{bit_and}
use Rattle.bits.specs.Varint.{IsUleb}
use Rattle.bits.proofs.Facts.{one_uleb}
use Rattle.bits.proofs.Varints.{stepped, few_still}
use Rattle.bits.proofs.varint.read_uleb.Goals as goal
use Rattle.bits.proofs.varint.read_uleb.Goals.{else-at-eq9-via-then-at-eq9+else-byte-gt1, else-at-eq9-via-else-at-eq9}

pub overflow_add-value : goal.overflow_add-value
overflow_add-value c =
    let small : c.loop-at.at ≡ 9 → get_or c.args.bytes.now c.loop-at.at 0 ≤ 1 = λ e. elim c.else-at-eq9.branch [ else-at-eq9-via-then-at-eq9+else-byte-gt1 w ↦ omega arith | else-at-eq9-via-else-at-eq9 w ↦ absurd (omega (arith, w.if-at-eq9)) ] in
    let s = stepped c.args.bytes.now c.loop-at.at c.loop-at.value c.loop-at-test.true c.loop-at.invariant.few small c.loop-at.invariant.so_far in
    omega (arith, s.fits)

pub returns-then-byte-lt128-clause-stands : goal.returns-then-byte-lt128-clause-stands
returns-then-byte-lt128-clause-stands c =
    let small : c.loop-at.at ≡ 9 → get_or c.args.bytes.now c.loop-at.at 0 ≤ 1 = λ e. elim c.else-at-eq9.branch [ else-at-eq9-via-then-at-eq9+else-byte-gt1 w ↦ omega arith | else-at-eq9-via-else-at-eq9 w ↦ absurd (omega (arith, w.if-at-eq9)) ] in
    let s = stepped c.args.bytes.now c.loop-at.at c.loop-at.value c.loop-at-test.true c.loop-at.invariant.few small c.loop-at.invariant.so_far in
    record { begins = omega arith; within = omega arith; ten = omega arith; more = λ k lt. c.loop-at.invariant.high k (omega arith); last = let e : c.loop-at.at + 1 - 1 ≡ c.loop-at.at = omega arith in rw e c.if-byte-lt128.true; number = s.is; fits = s.fits }

pub returns-then-byte-lt128-clause-alone : goal.returns-then-byte-lt128-clause-alone
returns-then-byte-lt128-clause-alone c =
    let small : c.loop-at.at ≡ 9 → get_or c.args.bytes.now c.loop-at.at 0 ≤ 1 = λ e. elim c.else-at-eq9.branch [ else-at-eq9-via-then-at-eq9+else-byte-gt1 w ↦ omega arith | else-at-eq9-via-else-at-eq9 w ↦ absurd (omega (arith, w.if-at-eq9)) ] in
    let s = stepped c.args.bytes.now c.loop-at.at c.loop-at.value c.loop-at-test.true c.loop-at.invariant.few small c.loop-at.invariant.so_far in
    let value = c.loop-at.value + (bit_and (get_or c.args.bytes.now c.loop-at.at 0) 127 * 2 ^ (7 * c.loop-at.at)) % 2 ^ 64 in
    let found : IsUleb c.args.bytes.now value (c.loop-at.at + 1) = record { begins = omega arith; within = omega arith; ten = omega arith; more = λ k lt. c.loop-at.invariant.high k (omega arith); last = let e : c.loop-at.at + 1 - 1 ≡ c.loop-at.at = omega arith in rw e c.if-byte-lt128.true; number = s.is; fits = s.fits } in
    λ n used p. one_uleb c.args.bytes.now n value used (c.loop-at.at + 1) p found

pub loop-at-preserved : goal.loop-at-preserved
loop-at-preserved c =
    let small : c.loop-at.at ≡ 9 → get_or c.args.bytes.now c.loop-at.at 0 ≤ 1 = λ e. elim c.else-at-eq9.branch [ else-at-eq9-via-then-at-eq9+else-byte-gt1 w ↦ omega arith | else-at-eq9-via-else-at-eq9 w ↦ absurd (omega (arith, w.if-at-eq9)) ] in
    let s = stepped c.args.bytes.now c.loop-at.at c.loop-at.value c.loop-at-test.true c.loop-at.invariant.few small c.loop-at.invariant.so_far in
    record { few = few_still c.loop-at.at (get_or c.args.bytes.now c.loop-at.at 0) c.loop-at.invariant.few small c.if-byte-lt128.false; high = below_more _ _ c.loop-at.invariant.high c.if-byte-lt128.false; so_far = s.is }
