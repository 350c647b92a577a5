-- What is known of leaves that a file lacks, since they were added to its table later.
use Rattle.std.specs.Prelude.{ℕ, ◌-◌, ◌++◌, length, replicate, None}
use Rattle.statistics.specs.Bounds.{Statistics, Known}

-- the statistics of a leaf that a file lacks: every entry is a null, one for each row, and there are no bounds
abbrev pub absent_statistics : ℕ → Statistics
absent_statistics rows = record { min = None; max = None; nulls = rows }

-- what is known of a group, completed to so many leaves
abbrev pub known_over : ℕ → Known → Known
known_over leaves known = record { rows = known.rows; leaves = known.leaves ++ replicate (leaves - length known.leaves) (absent_statistics known.rows) }
