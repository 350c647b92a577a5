-- The units of times and timestamps: LogicalTypes.md, TIME and TIMESTAMP.
use Rattle.std.specs.Prelude.{ℕ}
use Rattle.valuetext.specs.declared.unit.TimeUnit.{TimeUnit}
use Rattle.valuetext.specs.declared.unit.TimeUnit.TheVariants.{Millis, Micros}

-- how many nanoseconds a unit is
abbrev pub nanos_of : TimeUnit → ℕ
nanos_of Millis = 1_000_000
nanos_of Micros = 1_000

-- how many places of a fraction of a second a unit has
abbrev pub unit_places : TimeUnit → ℕ
unit_places Millis = 3
unit_places Micros = 6

-- how many units a second has
abbrev pub per_second : TimeUnit → ℕ
per_second Millis = 1_000
per_second Micros = 1_000_000

-- how many units a day has
abbrev pub per_day : TimeUnit → ℕ
per_day Millis = 86_400_000
per_day Micros = 86_400_000_000
