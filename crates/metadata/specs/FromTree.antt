-- Which record the fields of a struct are: the tables of ids of parquet.thrift. Fields with other ids are skipped.
-- None: a field that the record needs is absent, or one with a known id cannot be read as its type.
use Rattle.std.specs.Prelude.{Bool, true, is_some, Option, Some, None, if◌then◌else◌}
use Rattle.std.specs.Ordering.{int_eq}
use Rattle.thrift_compact.specs.Tree.{Fields}
use Rattle.schema.specs.Elements.{Element}
use Rattle.metadata.specs.Ids as ids
use Rattle.metadata.specs.FieldValues.{◌>>=◌, known, needed, int32, int64, boolean, text, tree, any_struct, record_by, list_by}
use Rattle.metadata.specs.Records.{KeyValue, Statistics, ColumnMeta, ChunkMeta, GroupMeta, ColumnOrder, type_order, other_order, FileMeta, DataPageHeader, DictionaryPageHeader, DataPageHeaderV2, PageHeader}

-- a KeyValue, which needs its key
abbrev pub key_value : Fields → Option KeyValue
key_value fs = do
  key ← needed text ids.pair_key fs
  value ← known text ids.pair_value fs
  Some (record { key = key; value = value })

-- the Statistics of a column chunk or a page, which need no field
abbrev pub statistics : Fields → Option Statistics
statistics fs = do
  max ← known text ids.statistics_max fs
  min ← known text ids.statistics_min fs
  null_count ← known int64 ids.statistics_null_count fs
  distinct_count ← known int64 ids.statistics_distinct_count fs
  max_value ← known text ids.statistics_max_value fs
  min_value ← known text ids.statistics_min_value fs
  is_max_value_exact ← known boolean ids.statistics_is_max_value_exact fs
  is_min_value_exact ← known boolean ids.statistics_is_min_value_exact fs
  Some (record { max = max; min = min; null_count = null_count; distinct_count = distinct_count; max_value = max_value; min_value = min_value; is_max_value_exact = is_max_value_exact; is_min_value_exact = is_min_value_exact })

-- a ColumnMetaData, which needs the chunk's type, its path, its codec, its number of values and the offset of its data pages
abbrev pub column_meta : Fields → Option ColumnMeta
column_meta fs = do
  kind ← needed int32 ids.column_kind fs
  encodings ← known (list_by int32) ids.column_encodings fs
  path_in_schema ← needed (list_by text) ids.column_path_in_schema fs
  codec ← needed int32 ids.column_codec fs
  num_values ← needed int64 ids.column_num_values fs
  total_uncompressed_size ← known int64 ids.column_total_uncompressed_size fs
  total_compressed_size ← known int64 ids.column_total_compressed_size fs
  data_page_offset ← needed int64 ids.column_data_page_offset fs
  dictionary_page_offset ← known int64 ids.column_dictionary_page_offset fs
  statistics ← known (record_by statistics) ids.column_statistics fs
  Some (record { kind = kind; encodings = encodings; path_in_schema = path_in_schema; codec = codec; num_values = num_values; total_uncompressed_size = total_uncompressed_size; total_compressed_size = total_compressed_size; data_page_offset = data_page_offset; dictionary_page_offset = dictionary_page_offset; statistics = statistics })

-- a ColumnChunk, which needs its meta_data
abbrev pub chunk_meta : Fields → Option ChunkMeta
chunk_meta fs = do
  file_path ← known text ids.chunk_file_path fs
  file_offset ← known int64 ids.chunk_file_offset fs
  meta_data ← needed (record_by column_meta) ids.chunk_meta_data fs
  Some (record { file_path = file_path; file_offset = file_offset; meta_data = meta_data })

-- a RowGroup, which needs its column chunks and its number of rows
abbrev pub group_meta : Fields → Option GroupMeta
group_meta fs = do
  columns ← needed (list_by (record_by chunk_meta)) ids.group_columns fs
  total_byte_size ← known int64 ids.group_total_byte_size fs
  num_rows ← needed int64 ids.group_num_rows fs
  Some (record { columns = columns; total_byte_size = total_byte_size; num_rows = num_rows })

-- a ColumnOrder, a union: TYPE_ORDER if that member is there, and another order if it is not
abbrev pub column_order : Fields → Option ColumnOrder
column_order fs = do
  found ← known any_struct ids.order_type_order fs
  Some (if is_some found then type_order else other_order)

-- a SchemaElement, which needs its name; its logicalType is kept as the struct that it is
abbrev pub element : Fields → Option Element
element fs = do
  kind ← known int32 ids.element_kind fs
  type_length ← known int32 ids.element_type_length fs
  repetition_type ← known int32 ids.element_repetition_type fs
  name ← needed text ids.element_name fs
  num_children ← known int32 ids.element_num_children fs
  converted_type ← known int32 ids.element_converted_type fs
  scale ← known int32 ids.element_scale fs
  precision ← known int32 ids.element_precision fs
  field_id ← known int32 ids.element_field_id fs
  logical_type ← known tree ids.element_logical_type fs
  Some (record { kind = kind; type_length = type_length; repetition_type = repetition_type; name = name; num_children = num_children; converted_type = converted_type; scale = scale; precision = precision; field_id = field_id; logical_type = logical_type })

-- a FileMetaData, the footer of a file, which needs its schema and its row groups
abbrev pub file_meta : Fields → Option FileMeta
file_meta fs = do
  version ← known int32 ids.file_version fs
  schema ← needed (list_by (record_by element)) ids.file_schema fs
  num_rows ← known int64 ids.file_num_rows fs
  row_groups ← needed (list_by (record_by group_meta)) ids.file_row_groups fs
  key_value_metadata ← known (list_by (record_by key_value)) ids.file_key_value_metadata fs
  created_by ← known text ids.file_created_by fs
  column_orders ← known (list_by (record_by column_order)) ids.file_column_orders fs
  Some (record { version = version; schema = schema; num_rows = num_rows; row_groups = row_groups; key_value_metadata = key_value_metadata; created_by = created_by; column_orders = column_orders })

-- a DataPageHeader, of a page of version 1, which needs its number of values and their encoding
abbrev pub data_page_header : Fields → Option DataPageHeader
data_page_header fs = do
  num_values ← needed int32 ids.data_num_values fs
  encoding ← needed int32 ids.data_encoding fs
  definition_level_encoding ← known int32 ids.data_definition_level_encoding fs
  repetition_level_encoding ← known int32 ids.data_repetition_level_encoding fs
  statistics ← known (record_by statistics) ids.data_statistics fs
  Some (record { num_values = num_values; encoding = encoding; definition_level_encoding = definition_level_encoding; repetition_level_encoding = repetition_level_encoding; statistics = statistics })

-- a DictionaryPageHeader, which needs its number of values and their encoding
abbrev pub dictionary_page_header : Fields → Option DictionaryPageHeader
dictionary_page_header fs = do
  num_values ← needed int32 ids.dictionary_num_values fs
  encoding ← needed int32 ids.dictionary_encoding fs
  is_sorted ← known boolean ids.dictionary_is_sorted fs
  Some (record { num_values = num_values; encoding = encoding; is_sorted = is_sorted })

-- a DataPageHeaderV2, of a page of version 2, which needs its number of values, their encoding and the lengths of both kinds of levels
abbrev pub data_page_header_v2 : Fields → Option DataPageHeaderV2
data_page_header_v2 fs = do
  num_values ← needed int32 ids.data_v2_num_values fs
  num_nulls ← known int32 ids.data_v2_num_nulls fs
  num_rows ← known int32 ids.data_v2_num_rows fs
  encoding ← needed int32 ids.data_v2_encoding fs
  definition_levels_byte_length ← needed int32 ids.data_v2_definition_levels_byte_length fs
  repetition_levels_byte_length ← needed int32 ids.data_v2_repetition_levels_byte_length fs
  is_compressed ← known boolean ids.data_v2_is_compressed fs
  statistics ← known (record_by statistics) ids.data_v2_statistics fs
  Some (record { num_values = num_values; num_nulls = num_nulls; num_rows = num_rows; encoding = encoding; definition_levels_byte_length = definition_levels_byte_length; repetition_levels_byte_length = repetition_levels_byte_length; is_compressed = is_compressed; statistics = statistics })

-- a PageHeader, which needs its type and its compressed size, whether or not the header that its type names is there
abbrev pub any_page_header : Fields → Option PageHeader
any_page_header fs = do
  kind ← needed int32 ids.page_kind fs
  uncompressed_page_size ← known int32 ids.page_uncompressed_page_size fs
  compressed_page_size ← needed int32 ids.page_compressed_page_size fs
  crc ← known int32 ids.page_crc fs
  data_page_header ← known (record_by data_page_header) ids.page_data_page_header fs
  dictionary_page_header ← known (record_by dictionary_page_header) ids.page_dictionary_page_header fs
  data_page_header_v2 ← known (record_by data_page_header_v2) ids.page_data_page_header_v2 fs
  Some (record { kind = kind; uncompressed_page_size = uncompressed_page_size; compressed_page_size = compressed_page_size; crc = crc; data_page_header = data_page_header; dictionary_page_header = dictionary_page_header; data_page_header_v2 = data_page_header_v2 })

-- whether the header that the type of the page names is there; other types of pages need none
abbrev pub has_own_header : PageHeader → Bool
has_own_header h =
    if int_eq h.kind ids.type_data_page then is_some h.data_page_header else if int_eq h.kind ids.type_dictionary_page then is_some h.dictionary_page_header else if int_eq h.kind ids.type_data_page_v2 then is_some h.data_page_header_v2 else true

-- a PageHeader, which needs its type, its compressed size and the header that its type names
abbrev pub page_header : Fields → Option PageHeader
page_header fs = any_page_header fs >>= λ h. if has_own_header h then Some h else None
