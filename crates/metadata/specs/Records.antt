-- The records of the footer and of page headers, as parquet.thrift has them, apart from where they lie in memory.
use Rattle.std.specs.Prelude.{ℕ, ℤ, Bool, List, Option}
use Rattle.schema.specs.Elements.{Element}

-- KeyValue: a pair that an application keeps with the file, as bytes
pub record KeyValue : Type 0 where
  pub key : List ℕ
  pub value : Option (List ℕ)

-- Statistics of a column chunk or a page: bounds as bytes, and numbers of nulls and of distinct values; what the writer did not give is absent
pub record Statistics : Type 0 where
  pub max : Option (List ℕ)
  pub min : Option (List ℕ)
  pub null_count : Option ℤ
  pub distinct_count : Option ℤ
  pub max_value : Option (List ℕ)
  pub min_value : Option (List ℕ)
  pub is_max_value_exact : Option Bool
  pub is_min_value_exact : Option Bool

-- ColumnMetaData of a column chunk: `kind` is its `type`, `num_values` counts nulls too, sizes and offsets are in bytes
pub record ColumnMeta : Type 0 where
  pub kind : ℤ
  pub encodings : Option (List ℤ)
  pub path_in_schema : List (List ℕ)
  pub codec : ℤ
  pub num_values : ℤ
  pub total_uncompressed_size : Option ℤ
  pub total_compressed_size : Option ℤ
  pub data_page_offset : ℤ
  pub dictionary_page_offset : Option ℤ
  pub statistics : Option Statistics

-- ColumnChunk: the column of one leaf in a row group; without `file_path` it is in the footer's own file
pub record ChunkMeta : Type 0 where
  pub file_path : Option (List ℕ)
  pub file_offset : Option ℤ
  pub meta_data : ColumnMeta

-- RowGroup: a column chunk for each leaf, their uncompressed size in bytes, and the number of rows
pub record GroupMeta : Type 0 where
  pub columns : List ChunkMeta
  pub total_byte_size : Option ℤ
  pub num_rows : ℤ

-- ColumnOrder: the order of the column's type, or one that is not known here
pub data ColumnOrder : Type 0 where
  type_order : ColumnOrder
  other_order : ColumnOrder

-- FileMetaData, the footer of a file: the elements of its schema, depth first, and its row groups
pub record FileMeta : Type 0 where
  pub version : Option ℤ
  pub schema : List Element
  pub num_rows : Option ℤ
  pub row_groups : List GroupMeta
  pub key_value_metadata : Option (List KeyValue)
  pub created_by : Option (List ℕ)
  pub column_orders : Option (List ColumnOrder)

-- DataPageHeader, of a page of version 1: `num_values` counts nulls too, encodings are numbers of enum Encoding
pub record DataPageHeader : Type 0 where
  pub num_values : ℤ
  pub encoding : ℤ
  pub definition_level_encoding : Option ℤ
  pub repetition_level_encoding : Option ℤ
  pub statistics : Option Statistics

-- DictionaryPageHeader: the number of values in the dictionary, and their encoding as a number of enum Encoding
pub record DictionaryPageHeader : Type 0 where
  pub num_values : ℤ
  pub encoding : ℤ
  pub is_sorted : Option Bool

-- DataPageHeaderV2, of a page of version 2: `num_values` counts nulls too, the lengths of the levels are in bytes
pub record DataPageHeaderV2 : Type 0 where
  pub num_values : ℤ
  pub num_nulls : Option ℤ
  pub num_rows : Option ℤ
  pub encoding : ℤ
  pub definition_levels_byte_length : ℤ
  pub repetition_levels_byte_length : ℤ
  pub is_compressed : Option Bool
  pub statistics : Option Statistics

-- PageHeader: `kind` is its `type`, the sizes are in bytes and without this header, and of the three headers one may belong to the type
pub record PageHeader : Type 0 where
  pub kind : ℤ
  pub uncompressed_page_size : Option ℤ
  pub compressed_page_size : ℤ
  pub crc : Option ℤ
  pub data_page_header : Option DataPageHeader
  pub dictionary_page_header : Option DictionaryPageHeader
  pub data_page_header_v2 : Option DataPageHeaderV2
