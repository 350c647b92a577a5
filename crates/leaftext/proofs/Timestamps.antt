-- Timestamps and their texts.
use Rattle.std.proofs.Common.{◌≡◌, ℕ, ◌==◌, inl, inr, ℤ, pos, ◌+ℤ◌, ◌-ℤ◌, ◌*ℤ◌, List, [], ◌∷◌, ◌++◌, take, slice_index, Bool, true, false, ◌||◌, Option, Some, None, Result, Ok, Err, if◌then◌else◌, refl, sym, ◌∙◌, ap, subst, arith}
use Rattle.std.specs.Int.{int_div_euclid, int_rem_euclid}
use Rattle.std.specs.Result.{result_ok}
use Rattle.std.proofs.lemmas.Bool.Decides.{Decides-eqb}
use Rattle.std.proofs.lemmas.Bool.{or_cases as either_true, or_left, or_right}
use Rattle.lists.proofs.Options.{some_if as if_passed}
use Rattle.jiff_core.proofs.SignedLemmas.{signed_arith}
use Rattle.jiff_core.specs.declared.error.Error.{Error}
use Rattle.jiff_fmt.specs.Reader.{◌>>=◌}
use Rattle.jiff_fmt.specs.Temporal.{full}
use Rattle.jiff_fmt.specs.Offset.{parse_optional, datetime_parser}
use Rattle.valuetext.specs.declared.unit.TimeUnit.{TimeUnit}
use Rattle.valuetext.specs.declared.unit.TimeUnit.TheVariants.{Millis, Micros}
use Rattle.valuetext.specs.Units.{per_second, per_day}
use Rattle.valuetext.specs.Dates.{IsDateText}
use Rattle.valuetext.specs.Times.{IsTimeText}
use Rattle.valuetext.specs.Timestamps.{IsMoment, IsTimestampText, ReadsTimestamp, IsSeparator, zone_of, clock_of, seconds_ahead}
use Rattle.valuetext.proofs.TimestampTexts.{moment_of, time_within, parts_of}
use Rattle.leaftext.specs.Texts.{date_text_of, time_text_of, date_and_time, timestamp_text_of}
use Rattle.leaftext.specs.Reads.{date_read, time_read, moment_read, zone_read, timestamp_read}
use Rattle.leaftext.specs.Laws.{TimestampsAgree}
use Rattle.leaftext.proofs.Dates as dates
use Rattle.leaftext.proofs.Times as times

joined : (o p : Option (List ℕ)) (text : List ℕ) → date_and_time o p ≡ Some text → (date clock : List ℕ) × (o ≡ Some date) × (p ≡ Some clock) × (text ≡ date ++ 84 ∷ (clock ++ 90 ∷ []))
joined None p text e = absurd (cc)
joined (Some date) None text e = absurd (cc)
joined (Some date) (Some clock) text e = (date, clock, refl, refl, cc)

pub text_is : (unit : TimeUnit) (number : ℤ) (text : List ℕ) → timestamp_text_of unit number ≡ Some text → IsTimestampText unit number text
text_is unit number text e =
    let day = int_div_euclid number (pos (per_day unit)) in
    let time = int_rem_euclid number (pos (per_day unit)) in
    let w = joined (date_text_of day) (time_text_of unit time) text e in
    (day, time, w.0, w.1, moment_of unit number, dates.text_is day w.0 w.2, times.text_is unit time w.1 w.3, w.4)

pub is_text : (unit : TimeUnit) (number : ℤ) (text : List ℕ) → IsTimestampText unit number text → timestamp_text_of unit number ≡ Some text
is_text unit number text h =
    let day = int_div_euclid number (pos (per_day unit)) in
    let time = int_rem_euclid number (pos (per_day unit)) in
    let same = parts_of unit number day time text (moment_of unit number) (time_within unit number) h in
    let date : date_text_of day ≡ Some h.2 = dates.is_text day h.2 (subst (λ z. IsDateText z h.2) same.0 h.5) in
    let clock : time_text_of unit time ≡ Some h.3 = times.is_text unit time h.3 (subst (λ z. IsTimeText unit z h.3) same.1 h.6) in
    ap (λ o. date_and_time o (time_text_of unit time)) date ∙ ap (date_and_time (Some h.2)) clock ∙ ap Some (sym h.7)

-- ---- reading

separates : (b : ℕ) → ((b == 84) || (b == 32)) ≡ true → IsSeparator b
separates b e =
    elim (either_true (b == 84) (b == 32) e) [
      | inl t ↦ inl ((Decides-eqb b 84).0 t)
      | inr t ↦ inr ((Decides-eqb b 32).0 t)
    ]

is_separator : (b : ℕ) → IsSeparator b → ((b == 84) || (b == 32)) ≡ true
is_separator b (inl e) = or_left (b == 84) (b == 32) ((Decides-eqb b 84).1 e)
is_separator b (inr e) = or_right (b == 84) (b == 32) ((Decides-eqb b 32).1 e)

moment_is : (unit : TimeUnit) (d t s : Option ℤ) (number : ℤ) → moment_read unit d t s ≡ Some number
    → (day time seconds : ℤ) × (d ≡ Some day) × (t ≡ Some time) × (s ≡ Some seconds) × (day *ℤ pos (per_day unit) +ℤ time -ℤ seconds *ℤ pos (per_second unit) ≡ number)
moment_is unit None t s number e = absurd (cc)
moment_is unit (Some day) None s number e = absurd (cc)
moment_is unit (Some day) (Some time) None number e = absurd (cc)
moment_is unit (Some day) (Some time) (Some seconds) number e = (day, time, seconds, refl, refl, refl, cc)

zone_is : (r : Result ℤ Error) (seconds : ℤ) → result_ok r ≡ Some seconds → r ≡ Ok seconds
zone_is (Ok s) seconds e = cc
zone_is (Err x) seconds e = absurd (cc)

there : (unit : TimeUnit) (n d t s : ℤ) → d *ℤ pos (per_day unit) +ℤ t -ℤ s *ℤ pos (per_second unit) ≡ n → IsMoment unit (n +ℤ s *ℤ pos (per_second unit)) d t
there Millis n d t s e = omega (arith, signed_arith, e)
there Micros n d t s e = omega (arith, signed_arith, e)

back : (unit : TimeUnit) (n d t s : ℤ) → IsMoment unit (n +ℤ s *ℤ pos (per_second unit)) d t → d *ℤ pos (per_day unit) +ℤ t -ℤ s *ℤ pos (per_second unit) ≡ n
back Millis n d t s e = omega (arith, signed_arith, e)
back Micros n d t s e = omega (arith, signed_arith, e)

pub read_is : (unit : TimeUnit) (number : ℤ) (text : List ℕ) → timestamp_read unit text ≡ Some number → ReadsTimestamp unit number text
read_is unit number text e =
    let parts = moment_read unit (date_read (take 10 text)) (time_read unit (clock_of text)) (zone_read (zone_of text)) in
    let test = if_passed ((slice_index text 10 == 84) || (slice_index text 10 == 32)) parts number e in
    let w = moment_is unit (date_read (take 10 text)) (time_read unit (clock_of text)) (zone_read (zone_of text)) number test.1 in (
      w.0,
      w.1,
      w.2,
      there unit number w.0 w.1 w.2 w.6,
      dates.read_is w.0 (take 10 text) w.3,
      separates (slice_index text 10) test.0,
      times.read_is unit w.1 (clock_of text) w.4,
      zone_is (full (parse_optional datetime_parser (zone_of text)) >>= seconds_ahead) w.2 w.5,
    )

if_lets : {A : Type 0} (b : Bool) (o : Option A) → b ≡ true → (if b then o else None) ≡ o
if_lets true o e = refl
if_lets false o e = absurd (cc)

pub is_read : (unit : TimeUnit) (number : ℤ) (text : List ℕ) → ReadsTimestamp unit number text → timestamp_read unit text ≡ Some number
is_read unit number text h =
    let d = dates.is_read h.0 (take 10 text) h.4 in
    let t = times.is_read unit h.1 (clock_of text) h.6 in
    let s : zone_read (zone_of text) ≡ Some h.2 = ap result_ok h.7 in
    if_lets ((slice_index text 10 == 84) || (slice_index text 10 == 32)) _ (is_separator (slice_index text 10) h.5)
    ∙ ap (λ x. moment_read unit x (time_read unit (clock_of text)) (zone_read (zone_of text))) d ∙ ap (λ x. moment_read unit (Some h.0) x (zone_read (zone_of text))) t
    ∙ ap (moment_read unit (Some h.0) (Some h.1)) s ∙ ap Some (back unit number h.0 h.1 h.2 h.3)

pub timestamps_agree : TimestampsAgree
timestamps_agree unit = (λ number text. (text_is unit number text, is_text unit number text), λ number text. (read_is unit number text, is_read unit number text))
