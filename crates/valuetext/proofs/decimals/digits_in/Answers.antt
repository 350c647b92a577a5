use Rattle.std.proofs.Common.{◌+◌, refl, sym, ◌∙◌, ap, arith, drop, slice_index}
use Rattle.valuetext.specs.inner.Scan.{with_byte, digits_after}
use Rattle.valuetext.proofs.DecimalTexts.{grows, step_on, at_end}
use Rattle.valuetext.proofs.decimals.digits_in.Goals as goal

pub returns-in_default-clause-none : goal.returns-in_default-clause-none
returns-in_default-clause-none c = λ _.
    let text = c.args.text.now in
    let i = c.loop-byte.byte-index in
    let step = step_on c.loop-byte.number i text (omega arith) in
    let low = c.in_default.ensures.none refl in
    omega (arith, grows (with_byte c.loop-byte.number (slice_index text i)) (drop (i + 1) text), step, low, c.loop-byte.invariant)

pub loop-byte-preserved : goal.loop-byte-preserved
loop-byte-preserved c =
    let text = c.args.text.now in
    let i = c.loop-byte.byte-index in
    ap (λ x. digits_after x (drop (i + 1) text)) c.in-Some.ensures.number ∙ sym (step_on c.loop-byte.number i text (omega arith)) ∙ c.loop-byte.invariant

pub returns-clause-number : goal.returns-clause-number
returns-clause-number c =
    sym (at_end c.loop-byte.number c.loop-byte.byte-index c.args.text.now (omega arith)) ∙ c.loop-byte.invariant
