-- The text of a number, as a function: the relations of `valuetext` say the same (`Laws`).
use Rattle.std.specs.Prelude.{ℕ, suc, ◌*◌, ◌/◌, ◌%◌, ◌^◌, nat_lt, nat_le, ◌&&◌, ℤ, pos, negsuc, Bool, List, [], ◌∷◌, ◌++◌, Option, Some, None, if◌then◌else◌}
use Rattle.std.specs.Ordering.{int_eq}
use Rattle.std.specs.Int.{int_div_euclid, int_rem_euclid}
use Rattle.jiff_core.specs.Calendar.{days_in_month, days_from_civil}
use Rattle.jiff_fmt.specs.Text.{pad2, pad4, fraction_part}
use Rattle.valuetext.specs.declared.unit.TimeUnit.{TimeUnit}
use Rattle.valuetext.specs.Units.{nanos_of, per_day}
use Rattle.valuetext.specs.Decimals.{decimal_text}
use Rattle.leaftext.specs.Finding.{first_below}

-- ---- dates

-- a year of four digits, a month and a day, as 2024-05-01
abbrev pub ymd_text : ℕ → ℕ → ℕ → List ℕ
ymd_text y m d = pad4 y ++ 45 ∷ [] ++ pad2 m ++ 45 ∷ [] ++ pad2 d

-- the text of a date, if it is this day
abbrev pub text_if_day : ℤ → ℕ → ℕ → ℕ → Option (List ℕ)
text_if_day day y m d = if int_eq (days_from_civil (pos y) m d) day then Some (ymd_text y m d) else None

-- the text of a day, which is counted from 1970-01-01: that of the date of the years 1 to 9999 that is this day; None if no date is
unfoldable pub date_text_of : ℤ → Option (List ℕ)
date_text_of day =
    first_below 9999 (λ y. first_below 12 (λ m. first_below (days_in_month (pos (suc y)) (suc m)) (λ d. text_if_day day (suc y) (suc m) (suc d))))

-- ---- times

-- what a clock shows so many nanoseconds after midnight, with so many places of a fraction, or up to the last that is not 0
abbrev pub clock_text : Option ℕ → ℕ → List ℕ
clock_text precision n =
    pad2 (n / 3_600_000_000_000) ++ 58 ∷ pad2 (n / 60_000_000_000 % 60) ++ 58 ∷ pad2 (n / 1_000_000_000 % 60)
    ++ fraction_part precision (n % 1_000_000_000)

-- the text of a number of units since midnight; None outside a day
abbrev pub time_text_of : TimeUnit → ℤ → Option (List ℕ)
time_text_of unit (pos n) = if nat_lt n (per_day unit) then Some (clock_text None (n * nanos_of unit)) else None
time_text_of unit (negsuc n) = None

-- ---- timestamps

-- a date, T, a time and Z; None if one of the two has no text
abbrev pub date_and_time : Option (List ℕ) → Option (List ℕ) → Option (List ℕ)
date_and_time (Some date) (Some clock) = Some (date ++ 84 ∷ (clock ++ 90 ∷ []))
date_and_time _ _ = None

-- the text of a number of units since 1970-01-01T00:00:00Z: that of its day and of what is left of it; None if the day has none
abbrev pub timestamp_text_of : TimeUnit → ℤ → Option (List ℕ)
timestamp_text_of unit number =
    date_and_time (date_text_of (int_div_euclid number (pos (per_day unit)))) (time_text_of unit (int_rem_euclid number (pos (per_day unit))))

-- ---- decimals

-- whether a number has at most 16 bytes
abbrev pub is_decimal_number : ℤ → Bool
is_decimal_number (pos n) = nat_lt n (2 ^ 127)
is_decimal_number (negsuc n) = nat_lt n (2 ^ 127)

-- the text of a number with a scale; None for a scale above 38 or a number of more than 16 bytes
abbrev pub decimal_text_of : ℕ → ℤ → Option (List ℕ)
decimal_text_of scale number = if nat_le scale 38 && is_decimal_number number then Some (decimal_text scale number) else None
