-- Days and their texts.
use Rattle.std.proofs.Common.{◌≡◌, ℕ, ℤ, pos, negsuc, ◌≤ℤ◌, List, Ok, Err, refl, sym, ◌∙◌, ap, length, arith, length-append}
use Rattle.jiff_core.specs.declared.civil.date.Date.{Date}
use Rattle.jiff_core.specs.declared.error.Error.{Error}
use Rattle.jiff_core.specs.Date.{epoch_day}
use Rattle.jiff_core.proofs.DateLemmas.{epoch_day_injective, epoch_day_same}
use Rattle.jiff_core.proofs.SignedLemmas.{signed_arith}
use Rattle.jiff_fmt.specs.Text.{date_text, year_text}
use Rattle.jiff_fmt.specs.Temporal.{parse_date, date_parts, DateParts}
use Rattle.jiff_fmt.proofs.RoundTrip.{parse_date-date_text}
use Rattle.valuetext.specs.Dates.{IsDateText}
use Rattle.valuetext.specs.Laws.{DatesReadBack}

-- the text tells the date's parts
pub same_parts : (d e : Date) → date_text d ≡ date_text e → date_parts d ≡ date_parts e
same_parts d e h =
    let a = parse_date-date_text d in
    let b = parse_date-date_text e in
    let c = ap parse_date h in
    cc

-- and with them the day
pub same_day : (d e : Date) → date_parts d ≡ date_parts e → epoch_day d ≡ epoch_day e
same_day d e h = epoch_day_same d e (ap (λ p. p.year) h) (ap (λ p. p.month) h) (ap (λ p. p.day) h)

-- the day tells the text
pub same_text : (d e : Date) → epoch_day d ≡ epoch_day e → date_text d ≡ date_text e
same_text d e h =
    let parts = epoch_day_injective d e h in
    rw (parts.0, parts.1, parts.2)

pub one_day : (a b : ℤ) (text : List ℕ) → IsDateText a text → IsDateText b text → a ≡ b
one_day a b text h k =
    sym h.2 ∙ same_day h.0 k.0 (same_parts h.0 k.0 (sym h.3 ∙ k.3)) ∙ k.2

pub one_text : (day : ℤ) (a b : List ℕ) → IsDateText day a → IsDateText day b → a ≡ b
one_text day a b h k = h.3 ∙ same_text h.0 k.0 (h.2 ∙ sym k.2) ∙ sym k.3

pub dates_read_back : DatesReadBack
dates_read_back = (one_text, λ text a b h k. one_day a b text h k)

year_text-length : (y : ℤ) → pos 1 ≤ℤ y → length (year_text y) ≡ 4
year_text-length (pos n) h = refl
year_text-length (negsuc n) h = absurd (omega (arith, signed_arith, h))

-- a date's text has ten bytes from the year 1 on
pub text-length : (day : ℤ) (text : List ℕ) → IsDateText day text → length text ≡ 10
text-length day text h =
    let four = year_text-length h.0.year h.1 in
    rw h.3 (omega (arith, length-append {A = ℕ}, four))

-- dates of equal parts have one text
pub text_of_parts : (d e : Date) → date_parts d ≡ date_parts e → date_text d ≡ date_text e
text_of_parts d e h = rw (ap (λ p. p.year) h, ap (λ p. p.month) h, ap (λ p. p.day) h)

-- a text that is a day's is read as its date
pub read_as : (day : ℤ) (text : List ℕ) → (h : IsDateText day text) → parse_date text ≡ Ok (date_parts h.0)
read_as day text h = ap parse_date h.3 ∙ parse_date-date_text h.0

-- a text that is not read as a date is no day's
pub unread : (e : Error) (day : ℤ) (text : List ℕ) → Err e ≡ parse_date text → IsDateText day text → ⊥
unread e day text r h =
    let read = read_as day text h in
    cc

-- a text that is a day's is read as the date that has its parts
pub read_parts : (p : DateParts) (day : ℤ) (text : List ℕ) → Ok p ≡ parse_date text → (h : IsDateText day text) → p ≡ date_parts h.0
read_parts p day text r h =
    let read = read_as day text h in
    cc
