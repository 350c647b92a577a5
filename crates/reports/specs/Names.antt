-- What the numbers of the format are called: parquet.thrift.
use Rattle.std.specs.Prelude.{ℕ, ℤ, pos, List, Option, Some, None, codes, if◌then◌else◌}
use Rattle.std.specs.Ordering.{int_eq}

-- the name of a physical type (parquet.thrift, Type)
abbrev pub type_name : ℤ → Option (List ℕ)
type_name z =
    if int_eq z (pos 0) then Some (codes "BOOLEAN")
    else if int_eq z (pos 1) then Some (codes "INT32")
    else if int_eq z (pos 2) then Some (codes "INT64")
    else if int_eq z (pos 3) then Some (codes "INT96")
    else if int_eq z (pos 4) then Some (codes "FLOAT")
    else if int_eq z (pos 5) then Some (codes "DOUBLE")
    else if int_eq z (pos 6) then Some (codes "BYTE_ARRAY")
    else if int_eq z (pos 7) then Some (codes "FIXED_LEN_BYTE_ARRAY")
    else None

-- the name of a repetition (parquet.thrift, FieldRepetitionType), in lower case
abbrev pub repetition_name : ℤ → Option (List ℕ)
repetition_name z =
    if int_eq z (pos 0) then Some (codes "required")
    else if int_eq z (pos 1) then Some (codes "optional")
    else if int_eq z (pos 2) then Some (codes "repeated")
    else None

-- the name of a codec (parquet.thrift, CompressionCodec)
abbrev pub codec_name : ℤ → Option (List ℕ)
codec_name z =
    if int_eq z (pos 0) then Some (codes "UNCOMPRESSED")
    else if int_eq z (pos 1) then Some (codes "SNAPPY")
    else if int_eq z (pos 2) then Some (codes "GZIP")
    else if int_eq z (pos 3) then Some (codes "LZO")
    else if int_eq z (pos 4) then Some (codes "BROTLI")
    else if int_eq z (pos 5) then Some (codes "LZ4")
    else if int_eq z (pos 6) then Some (codes "ZSTD")
    else if int_eq z (pos 7) then Some (codes "LZ4_RAW")
    else None

-- the name of an encoding (parquet.thrift, Encoding)
abbrev pub encoding_name : ℤ → Option (List ℕ)
encoding_name z =
    if int_eq z (pos 0) then Some (codes "PLAIN")
    else if int_eq z (pos 2) then Some (codes "PLAIN_DICTIONARY")
    else if int_eq z (pos 3) then Some (codes "RLE")
    else if int_eq z (pos 4) then Some (codes "BIT_PACKED")
    else if int_eq z (pos 5) then Some (codes "DELTA_BINARY_PACKED")
    else if int_eq z (pos 6) then Some (codes "DELTA_LENGTH_BYTE_ARRAY")
    else if int_eq z (pos 7) then Some (codes "DELTA_BYTE_ARRAY")
    else if int_eq z (pos 8) then Some (codes "RLE_DICTIONARY")
    else if int_eq z (pos 9) then Some (codes "BYTE_STREAM_SPLIT")
    else None

-- the name of a kind of page (parquet.thrift, PageType)
abbrev pub page_name : ℤ → Option (List ℕ)
page_name z =
    if int_eq z (pos 0) then Some (codes "DATA_PAGE")
    else if int_eq z (pos 1) then Some (codes "INDEX_PAGE")
    else if int_eq z (pos 2) then Some (codes "DICTIONARY_PAGE")
    else if int_eq z (pos 3) then Some (codes "DATA_PAGE_V2")
    else None

-- the name of a converted type (parquet.thrift, ConvertedType)
abbrev pub converted_name : ℤ → Option (List ℕ)
converted_name z =
    if int_eq z (pos 0) then Some (codes "UTF8")
    else if int_eq z (pos 1) then Some (codes "MAP")
    else if int_eq z (pos 2) then Some (codes "MAP_KEY_VALUE")
    else if int_eq z (pos 3) then Some (codes "LIST")
    else if int_eq z (pos 4) then Some (codes "ENUM")
    else if int_eq z (pos 5) then Some (codes "DECIMAL")
    else if int_eq z (pos 6) then Some (codes "DATE")
    else if int_eq z (pos 7) then Some (codes "TIME_MILLIS")
    else if int_eq z (pos 8) then Some (codes "TIME_MICROS")
    else if int_eq z (pos 9) then Some (codes "TIMESTAMP_MILLIS")
    else if int_eq z (pos 10) then Some (codes "TIMESTAMP_MICROS")
    else if int_eq z (pos 11) then Some (codes "UINT_8")
    else if int_eq z (pos 12) then Some (codes "UINT_16")
    else if int_eq z (pos 13) then Some (codes "UINT_32")
    else if int_eq z (pos 14) then Some (codes "UINT_64")
    else if int_eq z (pos 15) then Some (codes "INT_8")
    else if int_eq z (pos 16) then Some (codes "INT_16")
    else if int_eq z (pos 17) then Some (codes "INT_32")
    else if int_eq z (pos 18) then Some (codes "INT_64")
    else if int_eq z (pos 19) then Some (codes "JSON")
    else if int_eq z (pos 20) then Some (codes "BSON")
    else if int_eq z (pos 21) then Some (codes "INTERVAL")
    else None

-- the name of the member of a logical type (parquet.thrift, LogicalType) that has this id
abbrev pub logical_name : ℤ → Option (List ℕ)
logical_name z =
    if int_eq z (pos 1) then Some (codes "STRING")
    else if int_eq z (pos 2) then Some (codes "MAP")
    else if int_eq z (pos 3) then Some (codes "LIST")
    else if int_eq z (pos 4) then Some (codes "ENUM")
    else if int_eq z (pos 5) then Some (codes "DECIMAL")
    else if int_eq z (pos 6) then Some (codes "DATE")
    else if int_eq z (pos 7) then Some (codes "TIME")
    else if int_eq z (pos 8) then Some (codes "TIMESTAMP")
    else if int_eq z (pos 10) then Some (codes "INTEGER")
    else if int_eq z (pos 11) then Some (codes "UNKNOWN")
    else if int_eq z (pos 12) then Some (codes "JSON")
    else if int_eq z (pos 13) then Some (codes "BSON")
    else if int_eq z (pos 14) then Some (codes "UUID")
    else if int_eq z (pos 15) then Some (codes "FLOAT16")
    else if int_eq z (pos 16) then Some (codes "VARIANT")
    else if int_eq z (pos 17) then Some (codes "GEOMETRY")
    else if int_eq z (pos 18) then Some (codes "GEOGRAPHY")
    else None
