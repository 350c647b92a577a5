-- The number that a text is read as, as a function: the relations of `valuetext` say the same (`Laws`).
use Rattle.std.specs.Prelude.{ℕ, zero, suc, ◌*◌, ◌-◌, ◌%◌, ◌^◌, ◌==◌, nat_le, ◌&&◌, ◌||◌, ℤ, pos, ◌+ℤ◌, ◌-ℤ◌, ◌*ℤ◌, Bool, false, List, take, slice_index, bytes_eq, Option, Some, None, if◌then◌else◌}
use Rattle.std.specs.Result.{result_ok}
use Rattle.jiff_fmt.specs.Reader.{◌>>=◌}
use Rattle.jiff_fmt.specs.Temporal.{full}
use Rattle.jiff_fmt.specs.Offset.{parse_optional, datetime_parser}
use Rattle.valuetext.specs.declared.unit.TimeUnit.{TimeUnit}
use Rattle.valuetext.specs.Units.{nanos_of, unit_places, per_second, per_day}
use Rattle.valuetext.specs.Timestamps.{zone_of, clock_of, seconds_ahead}
use Rattle.valuetext.specs.Decimals.{decimal_text}
use Rattle.valuetext.specs.inner.Scan.{places_in, number_written}
use Rattle.leaftext.specs.Finding.{first_below}
use Rattle.leaftext.specs.Texts.{clock_text, date_text_of, is_decimal_number}

-- the text is this one
abbrev pub is_this : List ℕ → Option (List ℕ) → Bool
is_this text (Some other) = bytes_eq text other
is_this text None = false

-- how many days the years -9999 to 9999 have
abbrev pub all_days : ℕ
all_days = 7_304_484

-- how many of them come before 1970-01-01
abbrev pub days_before : ℕ
days_before = 4_371_587

-- the day whose text this is; None if it is the text of no day
unfoldable pub date_read : List ℕ → Option ℤ
date_read text =
    first_below all_days (λ n. if is_this text (date_text_of (pos n -ℤ pos days_before)) then Some (pos n -ℤ pos days_before) else None)

-- the text writes the time with so many places of a fraction, which leave nothing of it out
abbrev pub is_in_places : ℕ → ℕ → List ℕ → Bool
is_in_places places nanos text = (nanos % 1_000_000_000 % 10 ^ (9 - places) == 0) && bytes_eq text (clock_text (Some places) nanos)

-- the same, with 1 up to so many places
abbrev pub is_in_some_places : ℕ → ℕ → List ℕ → Bool
is_in_some_places zero nanos text = false
is_in_some_places (suc places) nanos text = is_in_places (suc places) nanos text || is_in_some_places places nanos text

-- the text writes the time: it is its text, or has zeros at the end of a fraction of at most so many places
abbrev pub is_written : ℕ → ℕ → List ℕ → Bool
is_written places nanos text = bytes_eq text (clock_text None nanos) || is_in_some_places places nanos text

-- the number of units since midnight that a text is read as; None if it is read as none
unfoldable pub time_read : TimeUnit → List ℕ → Option ℤ
time_read unit text = first_below (per_day unit) (λ n. if is_written (unit_places unit) (n * nanos_of unit) text then Some (pos n) else None)

-- a day, a time of it, and how far its zone is ahead of UTC, as one number of units; None if one of them is not there
abbrev pub moment_read : TimeUnit → Option ℤ → Option ℤ → Option ℤ → Option ℤ
moment_read unit (Some day) (Some time) (Some seconds) = Some (day *ℤ pos (per_day unit) +ℤ time -ℤ seconds *ℤ pos (per_second unit))
moment_read unit _ _ _ = None

-- how many seconds a zone is ahead of UTC; None if the text is no zone
abbrev pub zone_read : List ℕ → Option ℤ
zone_read text = result_ok (full (parse_optional datetime_parser text) >>= seconds_ahead)

-- the number of units since 1970-01-01T00:00:00Z that a text is read as: a date, T or a blank, a time, and a zone; None if it is read as none
abbrev pub timestamp_read : TimeUnit → List ℕ → Option ℤ
timestamp_read unit text =
    if (slice_index text 10 == 84) || (slice_index text 10 == 32)
    then moment_read unit (date_read (take 10 text)) (time_read unit (clock_of text)) (zone_read (zone_of text))
    else None

-- the number with places added; None if it has more than 16 bytes
abbrev pub scaled : ℤ → Option ℤ
scaled number = if is_decimal_number number then Some number else None

-- the number with a scale that a text is read as; None if it is read as none of at most 16 bytes
abbrev pub decimal_read : ℕ → List ℕ → Option ℤ
decimal_read scale text =
    if nat_le scale 38 && (nat_le (places_in text) scale && (is_decimal_number (number_written text) && bytes_eq text (decimal_text (places_in text) (number_written text))))
    then scaled (number_written text *ℤ pos (10 ^ (scale - places_in text)))
    else None
