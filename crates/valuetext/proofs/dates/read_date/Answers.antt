use Rattle.std.proofs.Common.{◌≡◌, sym, ◌∙◌, ap, arith, to_z, of_z, to_z-of_z, w32, FitsSigned}
use Rattle.jiff_fmt.specs.Text.{date_text}
use Rattle.jiff_fmt.specs.Temporal.{date_parts}
use Rattle.jiff_core.proofs.SignedLemmas.{signed_arith}
use Rattle.valuetext.proofs.DateTexts.{unread, read_parts, text_of_parts}
use Rattle.valuetext.proofs.SameTexts.{told_apart, told_same}
use Rattle.valuetext.proofs.dates.read_date.Goals as goal

pub returns-in_default-clause-none : goal.returns-in_default-clause-none
returns-in_default-clause-none c = λ _ day h. unread c.in_default.field-0 day c.args.text.now c.in_default.ensures h

pub returns-then-date-lt1-clause-none : goal.returns-then-date-lt1-clause-none
returns-then-date-lt1-clause-none c = λ _ day h.
    let parts = read_parts (date_parts c.in-Ok.date) day c.args.text.now c.in-Ok.ensures h in
    omega (arith, signed_arith, ap (λ p. p.year) parts, h.1, c.if-date-lt1.true)

pub returns-then-ne-clause-none : goal.returns-then-ne-clause-none
returns-then-ne-clause-none c = λ _ day h.
    let parts = read_parts (date_parts c.in-Ok.date) day c.args.text.now c.in-Ok.ensures h in
    let same : date_text c.in-Ok.date ≡ c.args.text.now = text_of_parts c.in-Ok.date h.0 parts ∙ sym h.3 in
    let printed : c.as_bytes.result.now ≡ c.args.text.now = c.as_bytes.ensures.value ∙ c.deref.ensures.0 ∙ c.date_text-printed.ensures ∙ same in
    told_apart _ _ _ c.ne.ensures c.if-ne.true printed

pub returns-clause-day : goal.returns-clause-day
returns-clause-day c =
    let same = told_same _ _ _ c.ne.ensures c.if-ne.false in
    let day = c.to_unix_epoch_day.result in
    let fits : FitsSigned w32 day = omega (arith, signed_arith, c.to_unix_epoch_day.ensures.bound) in
    let back : to_z w32 (of_z w32 day) ≡ day = to_z-of_z fits in (
      c.in-Ok.date,
      omega (arith, signed_arith, c.if-date-lt1.false),
      sym c.to_unix_epoch_day.ensures.value ∙ sym back,
      sym same ∙ c.as_bytes.ensures.value ∙ c.deref.ensures.0 ∙ c.date_text-printed.ensures,
    )
