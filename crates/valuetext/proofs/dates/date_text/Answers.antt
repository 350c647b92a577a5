use Rattle.std.proofs.Common.{◌≡◌, sym, ◌∙◌, arith, subst, to_z, of_z, to_z-of_z, w64, FitsSigned}
use Rattle.std.proofs.lemmas.Bool.{false≢true as false_true}
use Rattle.jiff_core.specs.Calendar.{IsEpochDay}
use Rattle.jiff_core.proofs.DateLemmas.{epoch_day_range, epoch_day_injective}
use Rattle.jiff_core.proofs.SignedLemmas.{signed_arith}
use Rattle.valuetext.proofs.dates.date_text.Goals as goal

pub returns-in_default-clause-none : goal.returns-in_default-clause-none
returns-in_default-clause-none c = λ _ text h.
    let fits : FitsSigned w64 c.args.day = c.ranges.day in
    let back : to_z w64 (of_z w64 c.args.day) ≡ c.args.day = to_z-of_z fits in
    let r : IsEpochDay (to_z w64 (of_z w64 c.args.day)) = subst (λ z. IsEpochDay z) (h.2 ∙ sym back) (epoch_day_range h.0) in
    false_true (c.in_default.ensures.succeeds.1 r)

pub returns-then-date-lt1-clause-none : goal.returns-then-date-lt1-clause-none
returns-then-date-lt1-clause-none c = λ _ text h.
    let fits : FitsSigned w64 c.args.day = c.ranges.day in
    let back : to_z w64 (of_z w64 c.args.day) ≡ c.args.day = to_z-of_z fits in
    let p = epoch_day_injective h.0 c.in-Ok.date (h.2 ∙ sym (c.in-Ok.ensures.value ∙ back)) in
    omega (arith, signed_arith, p.0, h.1, c.if-date-lt1.true)

pub returns-clause-text : goal.returns-clause-text
returns-clause-text c =
    let fits : FitsSigned w64 c.args.day = c.ranges.day in
    let back : to_z w64 (of_z w64 c.args.day) ≡ c.args.day = to_z-of_z fits in
    (c.in-Ok.date, omega (arith, signed_arith, c.if-date-lt1.false), c.in-Ok.ensures.value ∙ back, c.date_text.ensures)
