use Rattle.std.proofs.Common.{subst, arith, pos, ◌<ℤ◌}
use Rattle.jiff_core.proofs.SignedLemmas.{signed_arith}
use Rattle.valuetext.specs.Units.{per_day}
use Rattle.valuetext.proofs.timestamps.number_of.Goals as goal

pub overflow_sub-result : goal.overflow_sub-result
overflow_sub-result c =
    let time : c.args.time <ℤ pos 86_400_000 = subst (λ u. c.args.time <ℤ pos (per_day u)) c.in-Millis.is c.requires.time.1 in
    omega (arith, signed_arith, c.requires.day, c.requires.seconds, c.requires.time.0, time)

pub overflow_sub-result-in-Micros : goal.overflow_sub-result-in-Micros
overflow_sub-result-in-Micros c =
    let time : c.args.time <ℤ pos 86_400_000_000 = subst (λ u. c.args.time <ℤ pos (per_day u)) c.in-Micros.is c.requires.time.1 in
    omega (arith, signed_arith, c.requires.day, c.requires.seconds, c.requires.time.0, time)

pub returns-in-Millis-clause-moment : goal.returns-in-Millis-clause-moment
returns-in-Millis-clause-moment c =
    let time : c.args.time <ℤ pos 86_400_000 = subst (λ u. c.args.time <ℤ pos (per_day u)) c.in-Millis.is c.requires.time.1 in
    rw (c.in-Millis.is) (omega (arith, signed_arith, c.requires.day, c.requires.seconds, c.requires.time.0, time))

pub returns-in-Micros-clause-moment : goal.returns-in-Micros-clause-moment
returns-in-Micros-clause-moment c =
    let time : c.args.time <ℤ pos 86_400_000_000 = subst (λ u. c.args.time <ℤ pos (per_day u)) c.in-Micros.is c.requires.time.1 in
    rw (c.in-Micros.is) (omega (arith, signed_arith, c.requires.day, c.requires.seconds, c.requires.time.0, time))

pub returns-in-Millis-clause-bound : goal.returns-in-Millis-clause-bound
returns-in-Millis-clause-bound c =
    let time : c.args.time <ℤ pos 86_400_000 = subst (λ u. c.args.time <ℤ pos (per_day u)) c.in-Millis.is c.requires.time.1 in
    (omega (arith, signed_arith, c.requires.day, c.requires.seconds, c.requires.time.0, time), omega (arith, signed_arith, c.requires.day, c.requires.seconds, c.requires.time.0, time))

pub returns-in-Micros-clause-bound : goal.returns-in-Micros-clause-bound
returns-in-Micros-clause-bound c =
    let time : c.args.time <ℤ pos 86_400_000_000 = subst (λ u. c.args.time <ℤ pos (per_day u)) c.in-Micros.is c.requires.time.1 in
    (omega (arith, signed_arith, c.requires.day, c.requires.seconds, c.requires.time.0, time), omega (arith, signed_arith, c.requires.day, c.requires.seconds, c.requires.time.0, time))
