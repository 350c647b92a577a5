-- Times of day and their texts.
use Rattle.std.proofs.Common.{◌≡◌, ℕ, ℤ, pos, ◌+◌, ◌-◌, ◌*◌, ◌/◌, ◌%◌, ◌^◌, ◌<◌, ◌≤◌, ◌==◌, ◌||◌, ◌⊎◌, inl, inr, min, take_at, drop_at, true, false, List, [], ◌∷◌, ◌++◌, length, Option, Some, None, Ok, Err, sym, ◌∙◌, ap, subst, arith, append-nil, negsuc, unsigned_abs, to_z, w64, ◌<ℤ◌, ◌≤ℤ◌}
use Rattle.std.proofs.lemmas.Bool.Decides.{nat_tests}
use Rattle.std.specs.Char.{is_ascii_digit}
use Rattle.std.specs.List.{prefix_len}
use Rattle.jiff_core.specs.declared.civil.time.Time.{Time}
use Rattle.jiff_core.specs.declared.error.Error.{Error}
use Rattle.jiff_core.specs.declared.error.Error.TheVariants.{Parse}
use Rattle.jiff_core.specs.declared.error.Syntax.TheVariants as Syntax
use Rattle.jiff_core.specs.declared.error.Bound.TheVariants as Bd
use Rattle.jiff_core.specs.Time.{time_nanos}
use Rattle.jiff_core.proofs.DateTimeLemmas.{time_nanos_bound, time_nanos_injective}
use Rattle.jiff_core.proofs.SignedLemmas.{signed_arith, signed_casts}
use Rattle.jiff_fmt.specs.Reader.{two_digits, four_digits, nanoseconds, temporal_fraction, fraction_value}
use Rattle.jiff_fmt.specs.Text.{pad2, time_text, places, fraction, fraction_part}
use Rattle.jiff_fmt.specs.Temporal.{year, date_spec, temporal_datetime, time_spec, time_parts, TimeParts, parse_time}
use Rattle.jiff_fmt.specs.Temporal as spec
use Rattle.jiff_fmt.proofs.TextLemmas.{places-read}
use Rattle.jiff_fmt.proofs.RoundTrip.{two_digits-pad2, field-pad2, offset-empty, annotations-empty, parse_time-time_text}
use Rattle.valuetext.specs.declared.unit.TimeUnit.{TimeUnit}
use Rattle.valuetext.specs.declared.unit.TimeUnit.TheVariants.{Millis, Micros}
use Rattle.valuetext.specs.Units.{nanos_of, unit_places, per_day}
use Rattle.valuetext.specs.Times.{IsTimeOf, IsTimeText, IsInPlaces, ReadsTime}
use Rattle.valuetext.specs.Laws.{TimesReadBack}

-- places that leave nothing out are read as the whole fraction
nanoseconds-places : (k n : ℕ) → 1 ≤ k → k ≤ 9 → n % 10 ^ (9 - k) ≡ 0 → n < 1_000_000_000 → nanoseconds (fraction (Some k) n) ≡ Ok (n, [])
unfolding nanoseconds
nanoseconds-places k n low high multiple bound =
    let one : min k 9 ≡ k = omega arith in
    let facts = places-read k 9 n [] high bound in
    let clean : places k 1_000_000_000 n ++ [] ≡ places k 1_000_000_000 n = append-nil (places k 1_000_000_000 n) in
    let run : prefix_len is_ascii_digit (places k 1_000_000_000 n ++ []) ≡ k = omega (arith, facts.0) in
    let count : min (prefix_len is_ascii_digit (places k 1_000_000_000 n ++ [])) 9 ≡ k = omega (arith, run) in
    let value : fraction_value 9 (places k 1_000_000_000 n) ≡ n = omega (arith, facts.2, multiple) in
    let some : (k == 0) ≡ false = grind (arith, nat_tests) in
    rw (one, ← clean, count, some, take_at (places k 1_000_000_000 n) [] k facts.1, drop_at (places k 1_000_000_000 n) [] k facts.1, value)

fraction-places : (k n : ℕ) → 1 ≤ k → k ≤ 9 → n % 10 ^ (9 - k) ≡ 0 → n < 1_000_000_000 → temporal_fraction (fraction_part (Some k) n) ≡ Ok (Some n, [])
unfolding temporal_fraction
fraction-places k n low high multiple bound =
    let some : (k == 0) ≡ false = grind (arith, nat_tests) in
    let part : fraction_part (Some k) n ≡ 46 ∷ fraction (Some k) n = rw some in
    rw (part, nanoseconds-places k n low high multiple bound)

-- a time's text in places is read to its end
time_spec-places : (t : Time) (k : ℕ) → 1 ≤ k → k ≤ 9 → t.subsec_nanosecond % 10 ^ (9 - k) ≡ 0 → time_spec (time_text (Some k) t) ≡ Ok ((time_parts t, true), [])
unfolding time_spec
time_spec-places t k low high multiple =
    let fraction_read = fraction-places k t.subsec_nanosecond low high multiple t.subsec_in in
    let fraction_text = fraction_part (Some k) t.subsec_nanosecond in
    let after_minute = 58 ∷ pad2 t.second ++ fraction_text in
    let after_hour = 58 ∷ pad2 t.minute ++ after_minute in
    let hour = field-pad2 Syntax.Hour 0 23 Bd.Hour t.hour after_hour (omega arith) (omega (arith, t.hour_in)) (omega (arith, t.hour_in)) in
    let minute = field-pad2 Syntax.Minute 0 59 Bd.Minute t.minute after_minute (omega arith) (omega (arith, t.minute_in)) (omega (arith, t.minute_in)) in
    let second = field-pad2 Syntax.Second 0 60 Bd.LeapSecond t.second fraction_text (omega arith) (omega (arith, t.second_in)) (omega (arith, t.second_in)) in
    let no_leap : (t.second == 60) ≡ false = grind (arith, nat_tests, t.second_in) in
    rw (hour, minute, second, no_leap, fraction_read)

-- it is no datetime's
no_datetime : (t : Time) (k : ℕ) → (e : Error) × (temporal_datetime (time_text (Some k) t) ≡ Err e)
unfolding temporal_datetime date_spec year four_digits two_digits
no_datetime t k =
    let not_plus : ((48 + t.hour / 10) == 43) ≡ false = grind (arith, nat_tests, t.hour_in) in
    let not_minus : ((48 + t.hour / 10) == 45) ≡ false = grind (arith, nat_tests, t.hour_in) in
    let first = two_digits-pad2 t.hour (58 ∷ pad2 t.minute ++ 58 ∷ pad2 t.second ++ fraction_part (Some k) t.subsec_nanosecond) (omega (arith, t.hour_in)) in
    (Parse Syntax.Year, rw (not_plus, not_minus, first))

-- so it is read as the time
parse-places : (t : Time) (k : ℕ) → 1 ≤ k → k ≤ 9 → t.subsec_nanosecond % 10 ^ (9 - k) ≡ 0 → parse_time (time_text (Some k) t) ≡ Ok (time_parts t)
unfolding spec.temporal_time
parse-places t k low high multiple =
    let clock = time_spec-places t k low high multiple in
    let no = no_datetime t k in
    let not_t : (((48 + t.hour / 10) == 84) || ((48 + t.hour / 10) == 116)) ≡ false = grind (arith, nat_tests, t.hour_in) in
    rw (not_t, no.1, clock, offset-empty, annotations-empty)

at_most_nine : (unit : TimeUnit) → unit_places unit ≤ 9
at_most_nine Millis = omega arith
at_most_nine Micros = omega arith

-- a text that is read as a time is one that the kit reads as its parts
pub read_as : (unit : TimeUnit) (number : ℤ) (text : List ℕ) → (h : ReadsTime unit number text) → parse_time text ≡ Ok (time_parts h.0)
read_as unit number text h =
    elim h.2 [
      | inl e ↦ ap parse_time e ∙ parse_time-time_text h.0
      | inr w ↦ ap parse_time w.2.2 ∙ parse-places h.0 w.0 w.2.0 (omega (arith, w.1, at_most_nine unit)) w.2.1
    ]

-- a text that the kit does not read is read as no time
pub unread : (e : Error) (unit : TimeUnit) (number : ℤ) (text : List ℕ) → Err e ≡ parse_time text → ReadsTime unit number text → ⊥
unread e unit number text r h =
    let read = read_as unit number text h in
    cc

pub read_parts : (p : TimeParts) (unit : TimeUnit) (number : ℤ) (text : List ℕ) → Ok p ≡ parse_time text → (h : ReadsTime unit number text) → p ≡ time_parts h.0
read_parts p unit number text r h =
    let read = read_as unit number text h in
    cc

-- times of equal parts are the same time
pub nanos_of_parts : (t u : Time) → time_parts t ≡ time_parts u → time_nanos t ≡ time_nanos u
nanos_of_parts t u h = rw (ap (λ p. p.hour) h, ap (λ p. p.minute) h, ap (λ p. p.second) h, ap (λ p. p.subsec) h)

-- and have one text
pub text_of_parts : (o : Option ℕ) (t u : Time) → time_parts t ≡ time_parts u → time_text o t ≡ time_text o u
text_of_parts o t u h = rw (ap (λ p. p.hour) h, ap (λ p. p.minute) h, ap (λ p. p.second) h, ap (λ p. p.subsec) h)

same_number : (unit : TimeUnit) (a b : ℤ) (t u : Time) → IsTimeOf unit a t → IsTimeOf unit b u → time_nanos t ≡ time_nanos u → a ≡ b
same_number Millis a b t u h k e = omega (arith, signed_arith, h, k, e)
same_number Micros a b t u h k e = omega (arith, signed_arith, h, k, e)

same_nanos : (unit : TimeUnit) (a : ℤ) (t u : Time) → IsTimeOf unit a t → IsTimeOf unit a u → time_nanos t ≡ time_nanos u
same_nanos Millis a t u h k = omega (arith, signed_arith, h, k)
same_nanos Micros a t u h k = omega (arith, signed_arith, h, k)

pub within_day : (unit : TimeUnit) (a : ℤ) (t : Time) → IsTimeOf unit a t → (pos 0 ≤ℤ a) × (a <ℤ pos (per_day unit))
within_day Millis a t h = omega (arith, signed_arith, h, time_nanos_bound t)
within_day Micros a t h = omega (arith, signed_arith, h, time_nanos_bound t)

same_text : (t u : Time) → time_nanos t ≡ time_nanos u → time_text None t ≡ time_text None u
same_text t u h =
    let parts = time_nanos_injective t u h in
    rw (parts.0, parts.1, parts.2, parts.3)

pub one_number : (unit : TimeUnit) (text : List ℕ) (a b : ℤ) → ReadsTime unit a text → ReadsTime unit b text → a ≡ b
one_number unit text a b h k =
    same_number unit a b h.0 k.0 h.1 k.1 (nanos_of_parts h.0 k.0 (read_parts (time_parts h.0) unit b text (sym (read_as unit a text h)) k))

pub one_text : (unit : TimeUnit) (number : ℤ) (a b : List ℕ) → IsTimeText unit number a → IsTimeText unit number b → a ≡ b
one_text unit number a b h k = h.2 ∙ same_text h.0 k.0 (same_nanos unit number h.0 k.0 h.1 k.1) ∙ sym k.2

pub times_read_back : TimesReadBack
times_read_back unit = (one_text unit, λ number text h. (h.0, h.1, inl h.2), one_number unit)

-- the text of a time has at least eight bytes
pub reads-length : (unit : TimeUnit) (number : ℤ) (text : List ℕ) → ReadsTime unit number text → 8 ≤ length text
reads-length unit number text h =
    elim h.2 [
      | inl e ↦ rw e (omega arith)
      | inr w ↦ rw (w.2.2) (omega arith)
    ]

-- a time's text in places has so many bytes after its seconds and the dot
places-length : (t : Time) (k : ℕ) → 1 ≤ k → k ≤ 9 → length (time_text (Some k) t) ≡ 9 + k
places-length t k low high =
    let some : (k == 0) ≡ false = grind (arith, nat_tests) in
    let one : min k 9 ≡ k = omega arith in
    let facts = places-read k 9 t.subsec_nanosecond [] high t.subsec_in in
    rw (some, one) (omega (arith, facts.1))

pub written-length : (unit : TimeUnit) (t : Time) (k : ℕ) (text : List ℕ) → k ≤ unit_places unit → IsInPlaces t k text → (length text ≡ 9 + k) × (1 ≤ k) × (length text ≤ 9 + unit_places unit)
written-length unit t k text most h =
    let nine = at_most_nine unit in
    let len : length text ≡ 9 + k = ap length h.2 ∙ places-length t k h.0 (omega arith) in
    (len, h.0, omega arith)

-- the text writes the time
abbrev pub IsWritten : TimeUnit → Time → List ℕ → Type 0
IsWritten unit t text = (text ≡ time_text None t) ⊎ ((places : ℕ) × (places ≤ unit_places unit) × IsInPlaces t places text)

-- and each time of equal parts
pub written_of_parts : (unit : TimeUnit) (t u : Time) (text : List ℕ) → time_parts t ≡ time_parts u → IsWritten unit t text → IsWritten unit u text
written_of_parts unit t u text same h =
    elim h [
      | inl e ↦ inl (e ∙ text_of_parts None t u same)
      | inr w ↦ inr (w.0, w.1, (w.2.0, subst (λ n. n % 10 ^ (9 - w.0) ≡ 0) (ap (λ p. p.subsec) same) w.2.1, w.2.2 ∙ text_of_parts (Some w.0) t u same))
    ]

-- the nanoseconds of a number of units are a multiple of the unit
pub multiple : (unit : TimeUnit) (a : ℤ) (t : Time) → IsTimeOf unit a t → time_nanos t % nanos_of unit ≡ 0
multiple Millis (pos n) t h = omega (arith, signed_arith, h)
multiple Millis (negsuc n) t h = absurd (omega (arith, signed_arith, h))
multiple Micros (pos n) t h = omega (arith, signed_arith, h)
multiple Micros (negsuc n) t h = absurd (omega (arith, signed_arith, h))

pub quotient_is : (unit : TimeUnit) (t : Time) → time_nanos t % nanos_of unit ≡ 0 → IsTimeOf unit (pos (time_nanos t / nanos_of unit)) t
quotient_is Millis t h = omega (arith, signed_arith, h)
quotient_is Micros t h = omega (arith, signed_arith, h)

-- so many units after midnight
pub product_is : (unit : TimeUnit) (number : ℤ) (nanos : ℕ) (t : Time) → pos 0 ≤ℤ number → nanos ≡ nanos_of unit → time_nanos t ≡ unsigned_abs number * nanos → IsTimeOf unit number t
product_is unit (negsuc n) nanos t low e h = absurd (omega (arith, signed_arith, low))
product_is Millis (pos n) nanos t low e h =
    let k : time_nanos t ≡ n * 1_000_000 = h ∙ ap (λ x. n * x) e in
    omega (arith, signed_arith, k)
product_is Micros (pos n) nanos t low e h =
    let k : time_nanos t ≡ n * 1_000 = h ∙ ap (λ x. n * x) e in
    omega (arith, signed_arith, k)

-- the nanoseconds divided by the unit's, as a signed number
pub quotient_read : (unit : TimeUnit) (t : Time) (n u v : ℕ) → n ≡ time_nanos t → u ≡ nanos_of unit → v ≡ nanos_of unit → n % u ≡ 0 → IsTimeOf unit (to_z w64 (n / v)) t
quotient_read unit t n u v a b c h = rw (a, c) (go unit t (ap (λ x. x % nanos_of unit) (sym a) ∙ ap (λ x. n % x) (sym b) ∙ h))
  where
    go : (unit : TimeUnit) (t : Time) → time_nanos t % nanos_of unit ≡ 0 → IsTimeOf unit (to_z w64 (time_nanos t / nanos_of unit)) t
    go Millis t h = omega (arith, signed_casts, h, time_nanos_bound t)
    go Micros t h = omega (arith, signed_casts, h, time_nanos_bound t)
