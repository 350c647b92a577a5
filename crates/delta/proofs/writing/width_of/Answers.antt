use Rattle.std.proofs.Common.{◌+◌, ◌^◌, ◌<◌, arith}
use Rattle.std.specs.Prelude.{slice_index}
use Rattle.std.proofs.lemmas.List.Elements.{All-from_get_or}
use Rattle.delta.proofs.Putting.{width_narrow, width_least}
use Rattle.delta.proofs.writing.width_of.Goals as goal

pub returns-clause-narrow : goal.returns-clause-narrow
returns-clause-narrow c =
    All-from_get_or (λ x. x < 2 ^ (c.ilog2.result + 1)) c.args.numbers.now 0
    (λ i lt. width_narrow c.loop-number.largest c.ilog2.result (slice_index c.args.numbers.now i) c.ilog2.ensures.next_power_gt (c.loop-number.invariant.top i (omega (arith, lt, c.loop-number-test.false))))

pub returns-clause-wide : goal.returns-clause-wide
returns-clause-wide c = λ b all. width_least c.loop-number.largest c.ilog2.result b c.ilog2.ensures.power_le (c.loop-number.invariant.below b all)
