-- Days and their texts.
use Rattle.std.proofs.Common.{◌≡◌, ℕ, zero, suc, ◌<◌, ◌≤◌, ℤ, pos, negsuc, ◌-ℤ◌, ◌+ℤ◌, ◌≤ℤ◌, List, true, Option, Some, None, refl, sym, ◌∙◌, ap, subst, arith}
use Rattle.std.specs.Ordering.{int_eq}
use Rattle.std.proofs.lemmas.Bool.Decides.{Decides-int_eq}
use Rattle.jiff_core.specs.declared.civil.date.Date.{Date}
use Rattle.jiff_core.specs.Calendar.{days_in_month, days_from_civil}
use Rattle.jiff_core.proofs.DateLemmas.{epoch_day_range}
use Rattle.jiff_core.proofs.SignedLemmas.{signed_arith}
use Rattle.valuetext.specs.Dates.{IsDateText}
use Rattle.valuetext.proofs.DateTexts.{one_day, one_text}
use Rattle.leaftext.specs.Texts.{ymd_text, date_text_of}
use Rattle.leaftext.specs.Reads.{is_this, all_days, days_before, date_read}
use Rattle.leaftext.specs.Laws.{DatesAgree}
use Rattle.leaftext.proofs.Tests.{passed, stopped, found_at, missed_at, answers, same_bytes, bytes_same, false_true}

-- a year, a month and a day that the calendar has, as a date
abbrev date_at : (y m d : ℕ) → y < 9999 → m < 12 → d < days_in_month (pos (suc y)) (suc m) → Date
date_at y m d p q r = record {
  year = pos (suc y);
  month = suc m;
  day = suc d;
  year_in = (omega (arith, signed_arith, p), omega (arith, signed_arith, p));
  month_in = (omega arith, omega (arith, q));
  day_in = (omega arith, omega (arith, r));
}

pub text_is : (day : ℤ) (text : List ℕ) → date_text_of day ≡ Some text → IsDateText day text
unfolding date_text_of
text_is day text e =
    let y = found_at 9999 _ text e in
    let m = found_at 12 _ text y.2 in
    let d = found_at (days_in_month (pos (suc y.0)) (suc m.0)) _ text m.2 in
    let test = passed (int_eq (days_from_civil (pos (suc y.0)) (suc m.0) (suc d.0)) day) (ymd_text (suc y.0) (suc m.0) (suc d.0)) text d.2 in
    (date_at y.0 m.0 d.0 y.1 m.1 d.1, omega (arith, signed_arith), (Decides-int_eq (days_from_civil (pos (suc y.0)) (suc m.0) (suc d.0)) day).0 test.0, sym test.1)

-- a day that is a date's has a text
some_text : (day : ℤ) (y m d : ℕ) → y < 9999 → m < 12 → d < days_in_month (pos (suc y)) (suc m) → days_from_civil (pos (suc y)) (suc m) (suc d) ≡ day → date_text_of day ≡ None → ⊥
unfolding date_text_of
some_text day y m d p q r is e =
    let of_year = missed_at 9999 _ e y p in
    let of_month = missed_at 12 _ of_year m q in
    let of_day = missed_at (days_in_month (pos (suc y)) (suc m)) _ of_month d r in
    stopped (int_eq (days_from_civil (pos (suc y)) (suc m) (suc d)) day) (ymd_text (suc y) (suc m) (suc d)) of_day ((Decides-int_eq (days_from_civil (pos (suc y)) (suc m) (suc d)) day).1 is)

at_date : (day : ℤ) (year : ℤ) (month d : ℕ) → pos 1 ≤ℤ year → year ≤ℤ pos 9999 → 1 ≤ month → month ≤ 12 → 1 ≤ d → d ≤ days_in_month year month → days_from_civil year month d ≡ day → date_text_of day ≡ None → ⊥
at_date day (negsuc y) month d a b p q r s is e = absurd (omega (arith, signed_arith, a))
at_date day (pos zero) month d a b p q r s is e = absurd (omega (arith, signed_arith, a))
at_date day (pos (suc y)) zero d a b p q r s is e = absurd (omega (arith, p))
at_date day (pos (suc y)) (suc m) zero a b p q r s is e = absurd (omega (arith, r))
at_date day (pos (suc y)) (suc m) (suc d) a b p q r s is e = some_text day y m d (omega (arith, signed_arith, b)) (omega (arith, q)) (omega (arith, s)) is e

has_text : (day : ℤ) (text : List ℕ) → IsDateText day text → date_text_of day ≡ None → ⊥
has_text day text h e =
    at_date day h.0.year h.0.month h.0.day h.1 h.0.year_in.1 h.0.month_in.0 h.0.month_in.1 h.0.day_in.0 h.0.day_in.1 h.2 e

pub is_text : (day : ℤ) (text : List ℕ) → IsDateText day text → date_text_of day ≡ Some text
is_text day text h = answers (IsDateText day) (date_text_of day) text (text_is day) (has_text day text h) (λ x k. one_text day x text k h)

-- ---- reading

same_as : (text : List ℕ) (o : Option (List ℕ)) → is_this text o ≡ true → o ≡ Some text
same_as text (Some other) e = ap Some (sym (same_bytes text other e))
same_as text None e = false_true e

is_same : (text : List ℕ) (o : Option (List ℕ)) → o ≡ Some text → is_this text o ≡ true
is_same text o e = ap (is_this text) e ∙ bytes_same text text refl

pub read_is : (day : ℤ) (text : List ℕ) → date_read text ≡ Some day → IsDateText day text
unfolding date_read
read_is day text e =
    let n = found_at all_days _ day e in
    let test = passed (is_this text (date_text_of (pos n.0 -ℤ pos days_before))) (pos n.0 -ℤ pos days_before) day n.2 in
    subst (λ z. IsDateText z text) test.1 (text_is (pos n.0 -ℤ pos days_before) text (same_as text _ test.0))

natural : (z : ℤ) → pos 0 ≤ℤ z → (n : ℕ) × (z ≡ pos n)
natural (pos n) h = (n, refl)
natural (negsuc n) h = absurd (omega (arith, signed_arith, h))

-- a day is one of all
day_number : (day : ℤ) (text : List ℕ) → IsDateText day text → (n : ℕ) × (n < all_days) × (day ≡ pos n -ℤ pos days_before)
day_number day text h =
    let range = epoch_day_range h.0 in
    let low : pos 0 ≤ℤ (day +ℤ pos 4_371_587) = omega (arith, signed_arith, range.0, h.2) in
    let n = natural (day +ℤ pos 4_371_587) low in
    (n.0, omega (arith, signed_arith, range.1, h.2, n.1), omega (arith, signed_arith, n.1))

unread : (day : ℤ) (text : List ℕ) → IsDateText day text → date_read text ≡ None → ⊥
unfolding date_read
unread day text h e =
    let n = day_number day text h in
    let none = missed_at all_days _ e n.0 n.1 in
    stopped (is_this text (date_text_of (pos n.0 -ℤ pos days_before))) (pos n.0 -ℤ pos days_before) none (is_same text _ (ap date_text_of (sym n.2) ∙ is_text day text h))

pub is_read : (day : ℤ) (text : List ℕ) → IsDateText day text → date_read text ≡ Some day
is_read day text h = answers (λ x. IsDateText x text) (date_read text) day (λ x e. read_is x text e) (unread day text h) (λ x k. one_day x day text k h)

pub dates_agree : DatesAgree
dates_agree = (λ day text. (text_is day text, is_text day text), λ day text. (read_is day text, is_read day text))
