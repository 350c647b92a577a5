-- Dates as text: LogicalTypes.md, DATE.
use Rattle.std.specs.Prelude.{◌≡◌, ℤ, pos, ◌≤ℤ◌, List, ℕ}
use Rattle.jiff_core.specs.declared.civil.date.Date.{Date}
use Rattle.jiff_core.specs.Date.{epoch_day}
use Rattle.jiff_fmt.specs.Text.{date_text}

-- the text of a day, which is counted from 1970-01-01: its year, from 0001 to 9999, month and day, as 2024-05-01
abbrev pub IsDateText : ℤ → List ℕ → Type 0
IsDateText day text = (d : Date) × (pos 1 ≤ℤ d.year) × (epoch_day d ≡ day) × (text ≡ date_text d)
