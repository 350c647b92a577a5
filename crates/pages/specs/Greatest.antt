-- Numbers that pages are held to: parquet.thrift, PageHeader, whose sizes and counts are of 32 bits with a sign.
use Rattle.std.specs.Prelude.{ℕ}

-- the most bytes that the body of a page may have, and the most values: 2^31 - 1
abbrev pub most_of_page : ℕ
most_of_page = 2147483647
