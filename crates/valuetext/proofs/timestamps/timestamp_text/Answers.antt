use Rattle.std.proofs.Common.{◌++◌, ◌∷◌, [], refl, ◌∙◌, ap, arith, to_z-of_z, FitsSigned, w64}
use Rattle.jiff_core.proofs.SignedLemmas.{signed_arith}
use Rattle.valuetext.proofs.TimestampTexts.{no_date, no_clock, made}
use Rattle.valuetext.proofs.timestamps.timestamp_text.Goals as goal

pub returns-in_default-clause-none : goal.returns-in_default-clause-none
returns-in_default-clause-none c = λ _ text h.
    let fits : FitsSigned w64 c.args.number = c.ranges.number in
    no_date c.args.unit c.args.number c.moment_of-day.result.0 c.moment_of-day.result.1 _ c.moment_of-day.ensures.moment (to_z-of_z fits) c.moment_of-day.ensures.time
    _ (c.in_default.ensures.none refl) (omega (arith, signed_arith, c.moment_of-day.ensures.day)) text h

pub returns-in_default-time_text-clause-none : goal.returns-in_default-time_text-clause-none
returns-in_default-time_text-clause-none c = λ _ text h.
    let fits : FitsSigned w64 c.args.number = c.ranges.number in
    no_clock c.args.unit c.args.number c.moment_of-day.result.0 c.moment_of-day.result.1 _ c.moment_of-day.ensures.moment (to_z-of_z fits) c.moment_of-day.ensures.time
    _ (c.in_default-time_text.ensures.none refl) (omega (arith, signed_arith, c.moment_of-day.ensures.time.0, c.moment_of-day.ensures.bound)) text h

pub returns-clause-text : goal.returns-clause-text
returns-clause-text c =
    let fits : FitsSigned w64 c.args.number = c.ranges.number in
    made c.args.unit c.args.number c.moment_of-day.result.0 c.moment_of-day.result.1 _ c.moment_of-day.ensures.moment (to_z-of_z fits)
    _ c.in-Some.date.bytes c.in-Some.ensures.text (omega (arith, signed_arith, c.moment_of-day.ensures.day))
    _ c.in-Some-time_text.clock.bytes c.in-Some-time_text.ensures.text (omega (arith, signed_arith, c.moment_of-day.ensures.time.0, c.moment_of-day.ensures.bound))
    c.joined.result.bytes
    (c.joined.ensures ∙ ap (λ x. x ++ 84 ∷ (c.as_str-2.result.now ++ 90 ∷ [])) c.as_str.ensures.value ∙ ap (λ x. c.in-Some.date.bytes ++ 84 ∷ (x ++ 90 ∷ [])) c.as_str-2.ensures.value)
