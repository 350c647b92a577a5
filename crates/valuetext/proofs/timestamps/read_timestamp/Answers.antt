use Rattle.std.proofs.Common.{◌-◌, inl, inr, refl, sym, subst, arith, take, drop, length}
use Rattle.jiff_core.proofs.SignedLemmas.{signed_arith}
use Rattle.valuetext.specs.Times.{ReadsTime}
use Rattle.valuetext.specs.Timestamps.{IsZone}
use Rattle.valuetext.proofs.TimestampTexts.{reads-room, moved, rest_is, day_bound}
use Rattle.valuetext.proofs.timestamps.read_timestamp.Goals as goal
use Rattle.valuetext.proofs.timestamps.read_timestamp.Goals.{else-text-ne84-via-then-text-ne84+else-text-ne32, else-text-ne84-via-else-text-ne84}

pub returns-then-text-zone-clause-none : goal.returns-then-text-zone-clause-none
returns-then-text-zone-clause-none c = λ _ number h.
    omega (arith, reads-room c.args.unit number c.args.text.now h, c.zone_length-zone.ensures.value, c.if-text-zone.true)

pub returns-in_default-clause-none : goal.returns-in_default-clause-none
returns-in_default-clause-none c = λ _ number h. c.in_default.ensures.none refl h.0 h.4

pub returns-in_default-read_time-clause-none : goal.returns-in_default-read_time-clause-none
returns-in_default-read_time-clause-none c = λ _ number h.
    let text = c.args.text.now in
    let front = take (length text - c.zone_length-zone.result) text in
    c.in_default-read_time.ensures.none refl h.1
    (subst (λ x. ReadsTime c.args.unit h.1 x) (sym (rest_is 11 front)) (subst (λ z. ReadsTime c.args.unit h.1 (drop 11 (take (length text - z) text))) (sym c.zone_length-zone.ensures.value) h.6))

pub returns-in_default-seconds_ahead-clause-none : goal.returns-in_default-seconds_ahead-clause-none
returns-in_default-seconds_ahead-clause-none c = λ _ number h.
    let text = c.args.text.now in
    c.in_default-seconds_ahead.ensures.none refl h.2
    (subst (λ x. IsZone h.2 x) (sym (rest_is (length text - c.zone_length-zone.result) text)) (subst (λ z. IsZone h.2 (drop (length text - z) text)) (sym c.zone_length-zone.ensures.value) h.7))

pub returns-clause-number : goal.returns-clause-number
returns-clause-number c =
    let text = c.args.text.now in
    let unit = c.args.unit in
    let day = c.in-Some.day in
    let time = c.in-Some-read_time.time in
    let seconds = c.in-Some-seconds_ahead.seconds in
    let moment = c.number_of.ensures.moment in
    let front = take (length text - c.zone_length-zone.result) text in (
      day,
      time,
      seconds,
      moved unit _ day time seconds _ _ _ _ moment
          (omega (arith, signed_arith, c.number_of.ensures.bound))
          (omega (arith, signed_arith, c.in-Some-seconds_ahead.ensures.bound))
          (omega (arith, signed_arith, c.in-Some.ensures.bound))
          (omega (arith, signed_arith, c.in-Some-read_time.ensures.bound, day_bound unit)),
      c.in-Some.ensures.day,
      elim c.else-text-ne84.branch [
        | else-text-ne84-via-then-text-ne84+else-text-ne32 w ↦ inr w.if-text-ne32.false
        | else-text-ne84-via-else-text-ne84 w ↦ inl w.if-text-ne84.false
      ],
      subst (λ z. ReadsTime unit time (drop 11 (take (length text - z) text))) c.zone_length-zone.ensures.value (subst (λ x. ReadsTime unit time x) (rest_is 11 front) c.in-Some-read_time.ensures.number),
      subst (λ z. IsZone seconds (drop (length text - z) text)) c.zone_length-zone.ensures.value (subst (λ x. IsZone seconds x) (rest_is (length text - c.zone_length-zone.result) text) c.in-Some-seconds_ahead.ensures.seconds),
    )
