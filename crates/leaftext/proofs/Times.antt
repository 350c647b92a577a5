-- Times of day and their texts.
use Rattle.std.proofs.Common.{◌≡◌, ℕ, zero, suc, ◌-◌, ◌*◌, ◌/◌, ◌%◌, ◌^◌, ◌==◌, ◌<◌, ◌≤◌, ◌⊎◌, inl, inr, nat_lt, ℤ, pos, negsuc, List, true, Option, Some, None, refl, sym, ◌∙◌, ap, subst, arith}
use Rattle.std.specs.Prelude.{bytes_eq}
use Rattle.std.proofs.lemmas.Bool.Decides.{Decides-ltb, Decides-eqb}
use Rattle.std.proofs.lemmas.Bool.{and_parts as both_true, and_from as and_is, or_cases as either_true, or_left, or_right}
use Rattle.jiff_core.specs.declared.civil.time.Time.{Time}
use Rattle.jiff_core.specs.Time.{time_nanos}
use Rattle.jiff_core.proofs.DateTimeLemmas.{time_nanos_bound, time_nanos_injective}
use Rattle.jiff_core.proofs.SignedLemmas.{signed_arith}
use Rattle.jiff_fmt.specs.Text.{time_text}
use Rattle.valuetext.specs.declared.unit.TimeUnit.{TimeUnit}
use Rattle.valuetext.specs.declared.unit.TimeUnit.TheVariants.{Millis, Micros}
use Rattle.valuetext.specs.Units.{nanos_of, unit_places, per_day}
use Rattle.valuetext.specs.Times.{IsTimeOf, IsTimeText, IsInPlaces, ReadsTime}
use Rattle.valuetext.proofs.TimeTexts.{one_number, within_day}
use Rattle.leaftext.specs.Texts.{clock_text, time_text_of}
use Rattle.leaftext.specs.Reads.{is_in_places, is_in_some_places, is_written, time_read}
use Rattle.leaftext.specs.Laws.{TimesAgree}
use Rattle.leaftext.proofs.Tests.{passed, stopped, lets, found_at, missed_at, answers, same_bytes, bytes_same, false_true}

-- the time that a clock shows so many nanoseconds after midnight
abbrev time_at : (n : ℕ) → n < 86_400_000_000_000 → Time
time_at n h = record {
  hour = n / 3_600_000_000_000;
  minute = n / 60_000_000_000 % 60;
  second = n / 1_000_000_000 % 60;
  subsec_nanosecond = n % 1_000_000_000;
  hour_in = omega (arith, h);
  minute_in = omega arith;
  second_in = omega arith;
  subsec_in = omega arith;
}

nanos_at : (n : ℕ) (h : n < 86_400_000_000_000) → time_nanos (time_at n h) ≡ n
nanos_at n h = omega (arith, h)

same_clock : (o : Option ℕ) (t u : Time) → time_nanos t ≡ time_nanos u → time_text o t ≡ time_text o u
same_clock o t u h =
    let parts = time_nanos_injective t u h in
    rw (parts.0, parts.1, parts.2, parts.3)

-- the text of a time is what the clock shows
clock_is : (o : Option ℕ) (t : Time) (n : ℕ) → time_nanos t ≡ n → clock_text o n ≡ time_text o t
clock_is o t n e =
    let h : n < 86_400_000_000_000 = omega (arith, e, time_nanos_bound t) in
    same_clock o (time_at n h) t (nanos_at n h ∙ sym e)

within : (unit : TimeUnit) (n : ℕ) → n < per_day unit → n * nanos_of unit < 86_400_000_000_000
within Millis n h = omega (arith, h)
within Micros n h = omega (arith, h)

time_of : (unit : TimeUnit) (n : ℕ) (t : Time) → time_nanos t ≡ n * nanos_of unit → IsTimeOf unit (pos n) t
time_of Millis n t e = omega (arith, signed_arith, e)
time_of Micros n t e = omega (arith, signed_arith, e)

nanos_are : (unit : TimeUnit) (n : ℕ) (t : Time) → IsTimeOf unit (pos n) t → time_nanos t ≡ n * nanos_of unit
nanos_are Millis n t e = omega (arith, signed_arith, e)
nanos_are Micros n t e = omega (arith, signed_arith, e)

below_day : (unit : TimeUnit) (n : ℕ) (t : Time) → IsTimeOf unit (pos n) t → n < per_day unit
below_day unit n t e = let w = within_day unit (pos n) t e in omega (arith, signed_arith, w.1)

none_below : (unit : TimeUnit) (n : ℕ) (t : Time) → IsTimeOf unit (negsuc n) t → ⊥
none_below unit n t e = let w = within_day unit (negsuc n) t e in omega (arith, signed_arith, w.0)

pub text_is : (unit : TimeUnit) (number : ℤ) (text : List ℕ) → time_text_of unit number ≡ Some text → IsTimeText unit number text
text_is unit (pos n) text e =
    let test = passed (nat_lt n (per_day unit)) (clock_text None (n * nanos_of unit)) text e in
    let low = within unit n ((Decides-ltb n (per_day unit)).0 test.0) in
    (time_at (n * nanos_of unit) low, time_of unit n (time_at (n * nanos_of unit) low) (nanos_at (n * nanos_of unit) low), sym test.1)
text_is unit (negsuc n) text e = absurd (cc)

pub is_text : (unit : TimeUnit) (number : ℤ) (text : List ℕ) → IsTimeText unit number text → time_text_of unit number ≡ Some text
is_text unit (pos n) text h =
    lets (nat_lt n (per_day unit)) (clock_text None (n * nanos_of unit)) ((Decides-ltb n (per_day unit)).1 (below_day unit n h.0 h.1))
    ∙ ap Some (clock_is None h.0 (n * nanos_of unit) (nanos_are unit n h.0 h.1) ∙ sym h.2)
is_text unit (negsuc n) text h = absurd (none_below unit n h.0 h.1)

-- ---- reading

-- the places that are found leave nothing out
places_found : (most nanos : ℕ) (text : List ℕ) (t : Time) → t.subsec_nanosecond ≡ nanos % 1_000_000_000 → ((o : Option ℕ) → clock_text o nanos ≡ time_text o t) → is_in_some_places most nanos text ≡ true
    → (places : ℕ) × (places ≤ most) × IsInPlaces t places text
places_found zero nanos text t sub clock e = false_true e
places_found (suc k) nanos text t sub clock e =
    elim (either_true (is_in_places (suc k) nanos text) (is_in_some_places k nanos text) e) [
      | inl here ↦
          (let parts = both_true (nanos % 1_000_000_000 % 10 ^ (9 - suc k) == 0) (bytes_eq text (clock_text (Some (suc k)) nanos)) here in
          let clean = (Decides-eqb (nanos % 1_000_000_000 % 10 ^ (9 - suc k)) 0).0 parts.0 in
          (suc k, omega arith, (omega arith, rw sub clean, same_bytes text (clock_text (Some (suc k)) nanos) parts.1 ∙ clock (Some (suc k)))))
      | inr later ↦ (let w = places_found k nanos text t sub clock later in (w.0, omega (arith, w.1), w.2))
    ]

places_are : (most nanos : ℕ) (text : List ℕ) (t : Time) → t.subsec_nanosecond ≡ nanos % 1_000_000_000 → ((o : Option ℕ) → clock_text o nanos ≡ time_text o t) → (places : ℕ) → places ≤ most → IsInPlaces t places text
    → is_in_some_places most nanos text ≡ true
places_are zero nanos text t sub clock places low h = absurd (omega (arith, low, h.0))
places_are (suc k) nanos text t sub clock places low h =
    elim (last places k low) [
      | inl less ↦ or_right (is_in_places (suc k) nanos text) (is_in_some_places k nanos text) (places_are k nanos text t sub clock places less h)
      | inr same ↦ or_left (is_in_places (suc k) nanos text) (is_in_some_places k nanos text) (here same)
    ]
  where
    last : (i n : ℕ) → i ≤ suc n → (i ≤ n) ⊎ (i ≡ suc n)
    last i n h = grind (arith, h)

    here : places ≡ suc k → is_in_places (suc k) nanos text ≡ true
    here same =
        let at = subst (λ p. IsInPlaces t p text) same h in
        let clean : nanos % 1_000_000_000 % 10 ^ (9 - suc k) ≡ 0 = subst (λ x. x % 10 ^ (9 - suc k) ≡ 0) sub at.1 in
        and_is (nanos % 1_000_000_000 % 10 ^ (9 - suc k) == 0) (bytes_eq text (clock_text (Some (suc k)) nanos)) ((Decides-eqb (nanos % 1_000_000_000 % 10 ^ (9 - suc k)) 0).1 clean)
        (bytes_same text (clock_text (Some (suc k)) nanos) (at.2 ∙ sym (clock (Some (suc k)))))

written_is : (unit : TimeUnit) (n : ℕ) (text : List ℕ) → n < per_day unit → is_written (unit_places unit) (n * nanos_of unit) text ≡ true → ReadsTime unit (pos n) text
written_is unit n text low e =
    let nanos = n * nanos_of unit in
    let h = within unit n low in
    let t = time_at nanos h in
    let clock : (o : Option ℕ) → clock_text o nanos ≡ time_text o t = λ o. refl in (
      t,
      time_of unit n t (nanos_at nanos h),
      elim (either_true (bytes_eq text (clock_text None nanos)) (is_in_some_places (unit_places unit) nanos text) e) [
        | inl same ↦ inl (same_bytes text (clock_text None nanos) same)
        | inr some ↦ inr (places_found (unit_places unit) nanos text t refl clock some)
      ],
    )

pub read_is : (unit : TimeUnit) (number : ℤ) (text : List ℕ) → time_read unit text ≡ Some number → ReadsTime unit number text
unfolding time_read
read_is unit number text e =
    let n = found_at (per_day unit) _ number e in
    let test = passed (is_written (unit_places unit) (n.0 * nanos_of unit) text) (pos n.0) number n.2 in
    subst (λ z. ReadsTime unit z text) test.1 (written_is unit n.0 text n.1 test.0)

subsec_of : (t : Time) (n : ℕ) → time_nanos t ≡ n → t.subsec_nanosecond ≡ n % 1_000_000_000
subsec_of t n e = omega (arith, e, t.subsec_in)

is_written_so : (unit : TimeUnit) (n : ℕ) (text : List ℕ) → ReadsTime unit (pos n) text → is_written (unit_places unit) (n * nanos_of unit) text ≡ true
is_written_so unit n text h =
    let nanos = n * nanos_of unit in
    let e = nanos_are unit n h.0 h.1 in
    elim h.2 [
      | inl same ↦ or_left (bytes_eq text (clock_text None nanos)) (is_in_some_places (unit_places unit) nanos text) (bytes_same text (clock_text None nanos) (same ∙ sym (clock_is None h.0 nanos e)))
      | inr w ↦ or_right (bytes_eq text (clock_text None nanos)) (is_in_some_places (unit_places unit) nanos text)
          (places_are (unit_places unit) nanos text h.0 (subsec_of h.0 nanos e) (λ o. clock_is o h.0 nanos e) w.0 w.1 w.2)
    ]

unread : (unit : TimeUnit) (number : ℤ) (text : List ℕ) → ReadsTime unit number text → time_read unit text ≡ None → ⊥
unfolding time_read
unread unit (pos n) text h e =
    let none = missed_at (per_day unit) _ e n (below_day unit n h.0 h.1) in
    stopped (is_written (unit_places unit) (n * nanos_of unit) text) (pos n) none (is_written_so unit n text h)
unread unit (negsuc n) text h e = none_below unit n h.0 h.1

pub is_read : (unit : TimeUnit) (number : ℤ) (text : List ℕ) → ReadsTime unit number text → time_read unit text ≡ Some number
is_read unit number text h = answers (λ x. ReadsTime unit x text) (time_read unit text) number (λ x e. read_is unit x text e) (unread unit number text h) (λ x k. one_number unit text x number k h)

pub times_agree : TimesAgree
times_agree unit = (λ number text. (text_is unit number text, is_text unit number text), λ number text. (read_is unit number text, is_read unit number text))
