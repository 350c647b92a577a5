-- Timestamps as text: LogicalTypes.md, TIMESTAMP; RFC 3339.
use Rattle.std.specs.Prelude.{◌≡◌, ℕ, ◌-◌, ◌==◌, ◌||◌, ℤ, pos, ◌+ℤ◌, ◌*ℤ◌, ◌⊎◌, List, [], ◌∷◌, ◌++◌, length, take, drop, slice_index, Option, Some, None, Result, Ok, Bool, if◌then◌else◌}
use Rattle.jiff_core.specs.declared.error.Error.{Error}
use Rattle.jiff_fmt.specs.declared.offset.ParsedOffset.{ParsedOffset}
use Rattle.jiff_fmt.specs.Reader.{◌>>=◌}
use Rattle.jiff_fmt.specs.Temporal.{full}
use Rattle.jiff_fmt.specs.Offset.{parse_optional, datetime_parser, to_offset}
use Rattle.valuetext.specs.declared.unit.TimeUnit.{TimeUnit}
use Rattle.valuetext.specs.Units.{per_second, per_day}
use Rattle.valuetext.specs.Dates.{IsDateText}
use Rattle.valuetext.specs.Times.{IsTimeText, ReadsTime}

-- so many units after 1970-01-01T00:00:00 it is this day and this time of it
abbrev pub IsMoment : TimeUnit → ℤ → ℤ → ℤ → Type 0
IsMoment unit number day time = number ≡ day *ℤ pos (per_day unit) +ℤ time

-- the text of a number of units since 1970-01-01T00:00:00Z: as 2024-05-01T13:05:09.12Z
abbrev pub IsTimestampText : TimeUnit → ℤ → List ℕ → Type 0
IsTimestampText unit number text =
    (day time : ℤ) × (date clock : List ℕ) × IsMoment unit number day time × IsDateText day date × IsTimeText unit time clock
    × (text ≡ date ++ 84 ∷ (clock ++ 90 ∷ []))

-- the byte so many before the end of a text, or the first one
abbrev pub byte_from_end : List ℕ → ℕ → ℕ
byte_from_end text n = slice_index text (length text - n)

-- a plus or a minus sign
abbrev pub is_sign : ℕ → Bool
is_sign byte = (byte == 43) || (byte == 45)

-- how many bytes at the end of a timestamp's text are its zone: Z, an offset as +05:30 or as +05, or nothing
abbrev pub zone_length : List ℕ → ℕ
zone_length text =
    if byte_from_end text 1 == 90 then 1
    else (if is_sign (byte_from_end text 6) then 6 else (if is_sign (byte_from_end text 3) then 3 else 0))

-- the zone at the end of a timestamp's text
abbrev pub zone_of : List ℕ → List ℕ
zone_of text = drop (length text - zone_length text) text

-- the time of day in a timestamp's text: between the date with its separator and the zone
abbrev pub clock_of : List ℕ → List ℕ
clock_of text = drop 11 (take (length text - zone_length text) text)

-- how far an offset is ahead of UTC; no offset is UTC
abbrev pub seconds_ahead : Option ParsedOffset → Result ℤ Error
seconds_ahead None = Ok (pos 0)
seconds_ahead (Some offset) = to_offset offset

-- the text is an offset, or nothing, that is so many seconds ahead of UTC
abbrev pub IsZone : ℤ → List ℕ → Type 0
IsZone seconds text = (full (parse_optional datetime_parser text) >>= seconds_ahead) ≡ Ok seconds

-- T, or a blank
abbrev pub IsSeparator : ℕ → Type 0
IsSeparator byte = (byte ≡ 84) ⊎ (byte ≡ 32)

-- the text is read as a number of units since 1970-01-01T00:00:00Z: a date, T or a blank, a time, and a zone; without a zone it is UTC
abbrev pub ReadsTimestamp : TimeUnit → ℤ → List ℕ → Type 0
ReadsTimestamp unit number text =
    (day time seconds : ℤ) × IsMoment unit (number +ℤ seconds *ℤ pos (per_second unit)) day time × IsDateText day (take 10 text)
    × IsSeparator (slice_index text 10) × ReadsTime unit time (clock_of text) × IsZone seconds (zone_of text)
