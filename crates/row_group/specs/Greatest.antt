-- The greatest numbers of a chunk and a group. The format's own are of 64 bits (parquet.thrift, ColumnMetaData and RowGroup);
-- these are the store's.
use Rattle.std.specs.Prelude.{ℕ, ℤ, pos}

-- the most entries of a chunk
abbrev pub most_entries : ℤ
most_entries = pos 16777216

-- the most rows of a group that is read
abbrev pub most_rows : ℤ
most_rows = pos 16777216

-- the most bytes before a chunk that is written, as no file has more
abbrev pub most_bytes_before : ℕ
most_bytes_before = 2147483647
