-- Times of day as text: LogicalTypes.md, TIME.
use Rattle.std.specs.Prelude.{◌≡◌, ℕ, ◌%◌, ◌^◌, ◌-◌, ◌≤◌, ℤ, pos, ◌*ℤ◌, ◌⊎◌, List, Some, None}
use Rattle.jiff_core.specs.declared.civil.time.Time.{Time}
use Rattle.jiff_core.specs.Time.{time_nanos}
use Rattle.jiff_fmt.specs.Text.{time_text}
use Rattle.valuetext.specs.declared.unit.TimeUnit.{TimeUnit}
use Rattle.valuetext.specs.Units.{nanos_of, unit_places}

-- the clock shows this time so many units after midnight
abbrev pub IsTimeOf : TimeUnit → ℤ → Time → Type 0
IsTimeOf unit number t = pos (time_nanos t) ≡ number *ℤ pos (nanos_of unit)

-- the text of a number of units since midnight: as 13:05:09.12, a fraction without zeros at its end
abbrev pub IsTimeText : TimeUnit → ℤ → List ℕ → Type 0
IsTimeText unit number text = (t : Time) × IsTimeOf unit number t × (text ≡ time_text None t)

-- the text writes the time with this many places of a fraction, which leave nothing of it out
abbrev pub IsInPlaces : Time → ℕ → List ℕ → Type 0
IsInPlaces t places text =
    (1 ≤ places) × (t.subsec_nanosecond % 10 ^ (9 - places) ≡ 0) × (text ≡ time_text (Some places) t)

-- the text is read as a number of units since midnight: it is the number's text, or has zeros at the end of a fraction of at most as many places as the unit has
abbrev pub ReadsTime : TimeUnit → ℤ → List ℕ → Type 0
ReadsTime unit number text =
    (t : Time) × IsTimeOf unit number t × ((text ≡ time_text None t) ⊎ ((places : ℕ) × (places ≤ unit_places unit) × IsInPlaces t places text))
