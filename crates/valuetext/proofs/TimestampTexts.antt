-- Timestamps and their texts.
use Rattle.std.proofs.Common.{◌≡◌, ℕ, ℤ, pos, ◌+◌, ◌-◌, ◌≤◌, inl, take_at, drop_at, take, drop, slice_index, List, [], ◌∷◌, ◌++◌, length, length-append, refl, sym, ◌∙◌, ap, subst, arith, ◌+ℤ◌, ◌*ℤ◌, ◌<ℤ◌, ◌≤ℤ◌}
use Rattle.std.proofs.lemmas.List.{append_assoc, length-drop, length-take, take_all}
use Rattle.std.specs.Int.{int_div_euclid, int_rem_euclid}
use Rattle.jiff_core.proofs.SignedLemmas.{signed_arith, int_rem_euclid-parts}
use Rattle.jiff_fmt.proofs.RoundTrip.{offset-zulu}
use Rattle.valuetext.specs.declared.unit.TimeUnit.{TimeUnit}
use Rattle.valuetext.specs.declared.unit.TimeUnit.TheVariants.{Millis, Micros}
use Rattle.valuetext.specs.Units.{per_second, per_day}
use Rattle.valuetext.specs.Dates.{IsDateText}
use Rattle.valuetext.specs.Times.{IsTimeText}
use Rattle.valuetext.specs.Timestamps.{IsMoment, IsTimestampText, ReadsTimestamp, IsZone, zone_of, clock_of, zone_length}
use Rattle.valuetext.specs.Laws.{TimestampsReadBack}
use Rattle.valuetext.proofs.DateTexts as dates
use Rattle.valuetext.proofs.TimeTexts as times

-- a number of units is one day and one time of it
pub same_moment : (unit : TimeUnit) (n d t e u : ℤ) → IsMoment unit n d t → IsMoment unit n e u → (pos 0 ≤ℤ t) × (t <ℤ pos (per_day unit)) → (pos 0 ≤ℤ u) × (u <ℤ pos (per_day unit))
    → (d ≡ e) × (t ≡ u)
same_moment Millis n d t e u h k p q = (omega (arith, signed_arith, h, k, p, q), omega (arith, signed_arith, h, k, p, q))
same_moment Micros n d t e u h k p q = (omega (arith, signed_arith, h, k, p, q), omega (arith, signed_arith, h, k, p, q))

-- the quotient is the day, and the remainder the time
pub moment_of : (unit : TimeUnit) (n : ℤ) → IsMoment unit n (int_div_euclid n (pos (per_day unit))) (int_rem_euclid n (pos (per_day unit)))
moment_of Millis n = omega (arith, signed_arith, int_rem_euclid-parts n 86_400_000 (omega arith))
moment_of Micros n = omega (arith, signed_arith, int_rem_euclid-parts n 86_400_000_000 (omega arith))

pub time_within : (unit : TimeUnit) (n : ℤ) → (pos 0 ≤ℤ int_rem_euclid n (pos (per_day unit))) × (int_rem_euclid n (pos (per_day unit)) <ℤ pos (per_day unit))
time_within Millis n = omega (arith, signed_arith, int_rem_euclid-parts n 86_400_000 (omega arith))
time_within Micros n = omega (arith, signed_arith, int_rem_euclid-parts n 86_400_000_000 (omega arith))

-- a timestamp's text has its day's and its time's
pub parts_of : (unit : TimeUnit) (n d t : ℤ) (text : List ℕ) → IsMoment unit n d t → (pos 0 ≤ℤ t) × (t <ℤ pos (per_day unit)) → (h : IsTimestampText unit n text) → (h.0 ≡ d) × (h.1 ≡ t)
parts_of unit n d t text m within h = same_moment unit n h.0 h.1 d t h.4 m (times.within_day unit h.1 h.6.0 h.6.1) within

same_number : (unit : TimeUnit) (a b d t s : ℤ) → IsMoment unit (a +ℤ s *ℤ pos (per_second unit)) d t → IsMoment unit (b +ℤ s *ℤ pos (per_second unit)) d t → a ≡ b
same_number Millis a b d t s h k = omega (arith, signed_arith, h, k)
same_number Micros a b d t s h k = omega (arith, signed_arith, h, k)

no_distance : (unit : TimeUnit) (n d t : ℤ) → IsMoment unit n d t → IsMoment unit (n +ℤ pos 0 *ℤ pos (per_second unit)) d t
no_distance Millis n d t h = omega (arith, signed_arith, h)
no_distance Micros n d t h = omega (arith, signed_arith, h)

same_zone : (a b : ℤ) (text : List ℕ) → IsZone a text → IsZone b text → a ≡ b
same_zone a b text h k =
    let e = sym h ∙ k in
    cc

pub one_number : (unit : TimeUnit) (text : List ℕ) (a b : ℤ) → ReadsTimestamp unit a text → ReadsTimestamp unit b text → a ≡ b
one_number unit text a b h k =
    let day = dates.one_day h.0 k.0 (take 10 text) h.4 k.4 in
    let time = times.one_number unit (clock_of text) h.1 k.1 h.6 k.6 in
    let zone = same_zone h.2 k.2 (zone_of text) h.7 k.7 in
    let moment : IsMoment unit (b +ℤ h.2 *ℤ pos (per_second unit)) h.0 h.1 = rw (day, time, zone) (k.3) in
    same_number unit a b h.0 h.1 h.2 h.3 moment

pub one_text : (unit : TimeUnit) (number : ℤ) (a b : List ℕ) → IsTimestampText unit number a → IsTimestampText unit number b → a ≡ b
one_text unit number a b h k =
    let same = parts_of unit number k.0 k.1 a k.4 (times.within_day unit k.1 k.6.0 k.6.1) h in
    let date : h.2 ≡ k.2 = dates.one_text k.0 h.2 k.2 (subst (λ z. IsDateText z h.2) same.0 h.5) k.5 in
    let clock : h.3 ≡ k.3 = times.one_text unit k.1 h.3 k.3 (subst (λ z. IsTimeText unit z h.3) same.1 h.6) k.6 in
    h.7 ∙ ap (λ x. x ++ 84 ∷ (h.3 ++ 90 ∷ [])) date ∙ ap (λ x. k.2 ++ 84 ∷ (x ++ 90 ∷ [])) clock ∙ sym k.7

-- the byte after the front of a text
byte_after : (front rest : List ℕ) (b : ℕ) → slice_index (front ++ b ∷ rest) (length front) ≡ b
byte_after [] rest b = refl
byte_after (a ∷ front) rest b = byte_after front rest b

-- where the parts of a timestamp's text lie
pub pieces : (date clock text : List ℕ) → length date ≡ 10 → text ≡ date ++ 84 ∷ (clock ++ 90 ∷ [])
    → (take 10 text ≡ date) × (slice_index text 10 ≡ 84) × (clock_of text ≡ clock) × (zone_of text ≡ 90 ∷ [])
pieces date clock text ten e =
    let front = date ++ 84 ∷ clock in
    let whole : text ≡ front ++ 90 ∷ [] = e ∙ sym (append_assoc date (84 ∷ clock) (90 ∷ [])) in
    let len : length text - 1 ≡ length front = rw whole (omega (arith, length-append {A = ℕ})) in
    let last : slice_index text (length text - 1) ≡ 90 = rw (len, whole) (byte_after front [] 90) in
    let one : zone_length text ≡ 1 = rw last refl in
    let head : take (length front) (front ++ 90 ∷ []) ≡ front = take_at front (90 ∷ []) (length front) refl in
    let tail : drop (length front) (front ++ 90 ∷ []) ≡ 90 ∷ [] = drop_at front (90 ∷ []) (length front) refl in
    let shape : front ≡ (date ++ 84 ∷ []) ++ clock = sym (append_assoc date (84 ∷ []) clock) in
    let eleven : length (date ++ 84 ∷ []) ≡ 11 = omega (arith, length-append {A = ℕ}) in
    let clock_is : drop 11 front ≡ clock = rw shape (drop_at (date ++ 84 ∷ []) clock 11 eleven) in (
      rw e (take_at date (84 ∷ (clock ++ 90 ∷ [])) 10 ten),
      rw (e, ← ten) (byte_after date (clock ++ 90 ∷ []) 84),
      rw (one, len, whole, head) clock_is,
      rw (one, len, whole) tail,
    )

pub read_back : (unit : TimeUnit) (number : ℤ) (text : List ℕ) → IsTimestampText unit number text → ReadsTimestamp unit number text
read_back unit number text h =
    let at = pieces h.2 h.3 text (dates.text-length h.0 h.2 h.5) h.7 in
    let zone : IsZone (pos 0) (90 ∷ []) = rw offset-zulu in (
      h.0,
      h.1,
      pos 0,
      no_distance unit number h.0 h.1 h.4,
      rw (at.0) (h.5),
      inl at.1,
      rw (at.2) ((h.6.0, h.6.1, inl h.6.2)),
      rw (at.3) zone,
    )

pub timestamps_read_back : TimestampsReadBack
timestamps_read_back unit = (one_text unit, read_back unit, one_number unit)

-- a number whose day has no text has none
pub no_date : (unit : TimeUnit) (n d t m : ℤ) → IsMoment unit m d t → m ≡ n → (pos 0 ≤ℤ t) × (t <ℤ pos (per_day unit)) → (e : ℤ) → ((text : List ℕ) → IsDateText e text → ⊥) → e ≡ d
    → (text : List ℕ) → IsTimestampText unit n text → ⊥
no_date unit n d t m moment same within e none day text h =
    none h.2 (subst (λ z. IsDateText z h.2) ((parts_of unit n d t text (subst (λ z. IsMoment unit z d t) same moment) within h).0 ∙ sym day) h.5)

-- so has one whose time has none
pub no_clock : (unit : TimeUnit) (n d t m : ℤ) → IsMoment unit m d t → m ≡ n → (pos 0 ≤ℤ t) × (t <ℤ pos (per_day unit)) → (e : ℤ) → ((text : List ℕ) → IsTimeText unit e text → ⊥) → e ≡ t
    → (text : List ℕ) → IsTimestampText unit n text → ⊥
no_clock unit n d t m moment same within e none time text h =
    none h.3 (subst (λ z. IsTimeText unit z h.3) ((parts_of unit n d t text (subst (λ z. IsMoment unit z d t) same moment) within h).1 ∙ sym time) h.6)

-- the text of a day, and that of a time of it
pub made : (unit : TimeUnit) (n d t m : ℤ) → IsMoment unit m d t → m ≡ n → (e : ℤ) (date : List ℕ) → IsDateText e date → e ≡ d → (u : ℤ) (clock : List ℕ) → IsTimeText unit u clock → u ≡ t
    → (text : List ℕ) → text ≡ date ++ 84 ∷ (clock ++ 90 ∷ []) → IsTimestampText unit n text
made unit n d t m moment same e date is_date day u clock is_clock time text joined =
    (d, t, date, clock, subst (λ z. IsMoment unit z d t) same moment, subst (λ z. IsDateText z date) day is_date, subst (λ z. IsTimeText unit z clock) time is_clock, joined)

-- a text that is read has room for its parts
pub reads-room : (unit : TimeUnit) (n : ℤ) (text : List ℕ) → ReadsTimestamp unit n text → 19 + zone_length text ≤ length text
reads-room unit n text h =
    let eight = times.reads-length unit h.1 (clock_of text) h.6 in
    omega (arith, eight, length-drop {A = ℕ}, length-take {A = ℕ})

pub moved : (unit : TimeUnit) (n d t s m e u r : ℤ) → IsMoment unit (m +ℤ r *ℤ pos (per_second unit)) e u → n ≡ m → r ≡ s → e ≡ d → u ≡ t → IsMoment unit (n +ℤ s *ℤ pos (per_second unit)) d t
moved unit n d t s m e u r h a b c f = rw (a, ← b, ← c, ← f) h

-- the rest of a text, as a slice to its end reads it
pub rest_is : (n : ℕ) (xs : List ℕ) → take (length xs - n) (drop n xs) ≡ drop n xs
rest_is n xs = take_all (length xs - n) (drop n xs) (omega (arith, length-drop {A = ℕ}))

pub day_bound : (unit : TimeUnit) → per_day unit ≤ 86_400_000_000
day_bound Millis = omega arith
day_bound Micros = omega arith
