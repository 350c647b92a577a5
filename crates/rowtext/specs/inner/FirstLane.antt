-- Which lane of a vector is the first that a test finds.
use Rattle.std.specs.Prelude.{ℕ, ◌==◌, if◌then◌else◌}
use Rattle.std.specs.Int.Count.{count_trailing_zeros}

-- the first lane that is set in a mask of this many lanes; their number if none is set
abbrev pub first_lane : ℕ → ℕ → ℕ
first_lane mask lanes = if mask == 0 then lanes else count_trailing_zeros 64 mask
