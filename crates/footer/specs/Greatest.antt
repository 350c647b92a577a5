-- The greatest numbers of a file. The format's own are of 64 bits, and of 32 for a footer's length (parquet-format, README.md,
-- "File format"); these are the store's.
use Rattle.std.specs.Prelude.{ℕ}

-- the most bytes of a file: 2^31 - 1
abbrev pub most_of_file : ℕ
most_of_file = 2147483647

-- the most bytes of a footer: 16 MiB
abbrev pub most_of_footer : ℕ
most_of_footer = 16777216
