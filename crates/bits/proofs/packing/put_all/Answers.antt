use Rattle.std.proofs.Common.{◌≡◌, ◌/◌, ◌^◌, ℕ, ◌++◌, List, arith, take, get_or, length, ◌<◌, subst}
use Rattle.std.proofs.lemmas.List.{take_more, take_all}
use Rattle.std.specs.Int.Bits.{bit_and}
use Rattle.bits.proofs.Put.{Putting, all_bits, all_bits_push, bits_of, more_held, bit_small, put_next, put_eighth, finish, finish_last}
use Rattle.bits.proofs.packing.put_all.Goals as goal
use Rattle.bits.proofs.packing.put_all.Goals.{then-filled-eq8+in_ok-push, else-filled-eq8, then-filled-gt0+in_ok-push-2, else-filled-gt0}

pub overflow_add-byte : goal.overflow_add-byte
overflow_add-byte c =
    let x = get_or c.args.numbers.now c.loop-x.x-index 0 in
    let m = more_held c.args.out.now.items c.loop-k.out.items c.loop-k.byte c.loop-k.filled (bit_and (x / 2 ^ c.loop-k.k) 1) (all_bits c.args.width (take c.loop-x.x-index c.args.numbers.now) ++ bits_of c.loop-k.k x) (bit_small (x / 2 ^ c.loop-k.k)) c.loop-k.invariant in
    omega (arith, m.fits)

pub loop-k-preserved : goal.loop-k-preserved
loop-k-preserved c =
    let x = get_or c.args.numbers.now c.loop-x.x-index 0 in
    let all = all_bits c.args.width (take c.loop-x.x-index c.args.numbers.now) in
    elim c.if-filled-eq8.branch [
      | then-filled-eq8+in_ok-push w ↦ rw (w.out-is, w.byte-is, w.filled-is, w.in_ok-push.ensures.items) (put_eighth c.args.out.now.items c.loop-k.out.items c.loop-k.byte c.loop-k.filled x c.loop-k.k all w.if-filled-eq8.true c.loop-k.invariant)
      | else-filled-eq8 w ↦ rw (w.out-is, w.byte-is, w.filled-is) (put_next c.args.out.now.items c.loop-k.out.items c.loop-k.byte c.loop-k.filled x c.loop-k.k all w.if-filled-eq8.false c.loop-k.invariant)
    ]

pub loop-x-preserved : goal.loop-x-preserved
loop-x-preserved c =
    let x = get_or c.args.numbers.now c.loop-x.x-index 0 in
    let k : c.loop-k.k ≡ c.args.width = omega arith in
    let more = all_bits_push c.args.width (take c.loop-x.x-index c.args.numbers.now) x in
    rw (take_more c.args.numbers.now c.loop-x.x-index 0 c.loop-x-test.true, more) (subst (λ (w : ℕ). Putting c.args.out.now.items c.loop-k.out.items c.loop-k.byte c.loop-k.filled (all_bits c.args.width (take c.loop-x.x-index c.args.numbers.now) ++ bits_of w x)) k c.loop-k.invariant)

pub returns-clause-stands : goal.returns-clause-stands
returns-clause-stands c =
    let xs = c.args.numbers.now in
    let fit : (i : ℕ) → i < length xs → get_or xs i 0 < 2 ^ c.args.width = λ i lt. c.requires.fit i 0 lt in
    let e : take c.loop-x.x-index xs ≡ xs = take_all c.loop-x.x-index xs c.loop-x-test.false in
    let p = subst (λ (t : List ℕ). Putting c.args.out.now.items c.loop-x.out.items c.loop-x.byte c.loop-x.filled (all_bits c.args.width t)) e c.loop-x.invariant in
    elim c.if-filled-gt0.branch [
      | then-filled-gt0+in_ok-push-2 w ↦ rw (w.out-is, w.in_ok-push-2.ensures.items) (finish_last c.args.out.now.items c.loop-x.out.items xs c.args.width c.loop-x.byte c.loop-x.filled w.if-filled-gt0.true fit p)
      | else-filled-gt0 w ↦ let z : c.loop-x.filled ≡ 0 = omega (arith, w.if-filled-gt0) in rw w.out-is (finish c.args.out.now.items c.loop-x.out.items xs c.args.width c.loop-x.byte fit (subst (λ (f : ℕ). Putting c.args.out.now.items c.loop-x.out.items c.loop-x.byte f (all_bits c.args.width xs)) z p))
    ]
