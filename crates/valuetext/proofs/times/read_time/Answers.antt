use Rattle.std.proofs.Common.{◌≡◌, sym, ◌∙◌, ap, ◌%◌}
use Rattle.lists.proofs.Booleans.{not_true_and_false as not_true}
use Rattle.jiff_fmt.specs.Temporal.{time_parts}
use Rattle.jiff_core.specs.Time.{time_nanos}
use Rattle.valuetext.specs.Units.{nanos_of}
use Rattle.valuetext.proofs.TimeTexts.{unread, read_parts, written_of_parts, nanos_of_parts, multiple, quotient_read}
use Rattle.valuetext.proofs.SameTexts.{is_true}
use Rattle.valuetext.proofs.times.read_time.Goals as goal

pub returns-in_default-clause-none : goal.returns-in_default-clause-none
returns-in_default-clause-none c = λ _ number h. unread c.in_default.field-0 c.args.unit number c.args.text.now c.in_default.ensures h

pub returns-then-not-is_written-clause-none : goal.returns-then-not-is_written-clause-none
returns-then-not-is_written-clause-none c = λ _ number h.
    let parts = read_parts (time_parts c.in-Ok.time) c.args.unit number c.args.text.now c.in-Ok.ensures h in
    let written = c.is_written.ensures.1 (written_of_parts c.args.unit h.0 c.in-Ok.time c.args.text.now (sym parts) h.2) in
    not_true c.is_written.result written c.if-not-is_written.true

pub returns-then-nanos-ne0-clause-none : goal.returns-then-nanos-ne0-clause-none
returns-then-nanos-ne0-clause-none c = λ _ number h.
    let parts = read_parts (time_parts c.in-Ok.time) c.args.unit number c.args.text.now c.in-Ok.ensures h in
    let none = multiple c.args.unit number h.0 h.1 in
    let nanos : time_nanos c.in-Ok.time ≡ time_nanos h.0 = nanos_of_parts c.in-Ok.time h.0 parts in
    let left : time_nanos c.in-Ok.time % nanos_of c.args.unit ≡ 0 = ap (λ n. n % nanos_of c.args.unit) nanos ∙ none in
    c.if-nanos-ne0.true (ap (λ n. n % c.nanos.result) c.to_nanosecond-nanos.ensures.value ∙ ap (λ u. time_nanos c.in-Ok.time % u) c.nanos.ensures ∙ left)

pub returns-clause-number : goal.returns-clause-number
returns-clause-number c =
    let time = c.in-Ok.time in (
      time,
      quotient_read c.args.unit time c.to_nanosecond-nanos.result c.nanos.result c.nanos-2.result c.to_nanosecond-nanos.ensures.value c.nanos.ensures c.nanos-2.ensures c.if-nanos-ne0.false,
      c.is_written.ensures.0 (is_true c.is_written.result c.if-not-is_written.false),
    )
