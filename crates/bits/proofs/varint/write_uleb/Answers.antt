use Rattle.std.proofs.Common.{◌≡◌, ◌+◌, ◌-◌, ◌^◌, ◌≤◌, ◌⊎◌, length, take, arith, set, sym, subst, ℕ}
use Rattle.std.proofs.lemmas.List.{length-take, length-set}
use Rattle.bits.specs.Varint.{IsUleb}
use Rattle.bits.proofs.Varints.{put_on, put_all, put_shortest}
use Rattle.bits.proofs.Facts.{uleb_stays}
use Rattle.bits.proofs.varint.write_uleb.Goals as goal

pub loop-rest-preserved : goal.loop-rest-preserved
loop-rest-preserved c = put_on c.loop-rest.buffer c.args.n c.loop-rest.rest c.loop-rest.used c.ranges.n.fits c.loop-rest-test.true c.loop-rest.invariant

pub returns-clause-stands : goal.returns-clause-stands
returns-clause-stands c =
    let p = c.loop-rest.invariant in
    let text = take (c.loop-rest.used + 1) (set c.loop-rest.buffer c.loop-rest.used c.loop-rest.rest) in
    let size : length text ≡ c.loop-rest.used + 1 = simp (length-take, length-set) (omega (arith, p.few, p.size)) in
    let spelled = subst (λ (u : ℕ). IsUleb text c.args.n u) (sym size) (put_all c.loop-rest.buffer c.args.n c.loop-rest.rest c.loop-rest.used c.ranges.n.fits c.loop-rest-test.false p) in
    let shortest = subst (λ (u : ℕ). (u ≡ 1) ⊎ (128 ^ (u - 1) ≤ c.args.n)) (sym size) (put_shortest c.loop-rest.buffer c.args.n c.loop-rest.rest c.loop-rest.used p) in
    record { text = text; joined = c.in_ok-extend_from_slice.ensures.items; stands = λ more. record { spelled = uleb_stays text more c.args.n (length text) spelled; shortest = shortest }; short = omega (arith, p.few, size) }
