-- The ids of the fields of each struct, and the numbers of the page types: parquet.thrift.
-- The constants of the program are compared with the numbers of this file.
use Rattle.std.specs.Prelude.{ℤ, pos}

-- struct FileMetaData

-- FileMetaData.version: the version of the file format
abbrev pub file_version : ℤ
file_version = pos 1

-- FileMetaData.schema: the elements of the schema, depth first, root first
abbrev pub file_schema : ℤ
file_schema = pos 2

-- FileMetaData.num_rows: the number of rows in the file
abbrev pub file_num_rows : ℤ
file_num_rows = pos 3

-- FileMetaData.row_groups: the row groups of the file
abbrev pub file_row_groups : ℤ
file_row_groups = pos 4

-- FileMetaData.key_value_metadata: pairs that an application keeps with the file
abbrev pub file_key_value_metadata : ℤ
file_key_value_metadata = pos 5

-- FileMetaData.created_by: the application that wrote the file
abbrev pub file_created_by : ℤ
file_created_by = pos 6

-- FileMetaData.column_orders: for each leaf, how the bounds in its statistics are ordered
abbrev pub file_column_orders : ℤ
file_column_orders = pos 7

-- struct KeyValue

-- KeyValue.key
abbrev pub pair_key : ℤ
pair_key = pos 1

-- KeyValue.value, which may be absent
abbrev pub pair_value : ℤ
pair_value = pos 2

-- struct RowGroup

-- RowGroup.columns: a column chunk for each leaf, in the order of the leaves
abbrev pub group_columns : ℤ
group_columns = pos 1

-- RowGroup.total_byte_size: the uncompressed size of its column chunks in bytes
abbrev pub group_total_byte_size : ℤ
group_total_byte_size = pos 2

-- RowGroup.num_rows: the number of rows in the row group
abbrev pub group_num_rows : ℤ
group_num_rows = pos 3

-- struct ColumnChunk

-- ColumnChunk.file_path: the file that holds the column chunk; absent if it is the footer's own file
abbrev pub chunk_file_path : ℤ
chunk_file_path = pos 1

-- ColumnChunk.file_offset: an offset in bytes, deprecated
abbrev pub chunk_file_offset : ℤ
chunk_file_offset = pos 2

-- ColumnChunk.meta_data: the ColumnMetaData of the chunk
abbrev pub chunk_meta_data : ℤ
chunk_meta_data = pos 3

-- struct ColumnMetaData

-- ColumnMetaData.type: the physical type, by its number in enum Type
abbrev pub column_kind : ℤ
column_kind = pos 1

-- ColumnMetaData.encodings: the encodings in the chunk, by their numbers in enum Encoding
abbrev pub column_encodings : ℤ
column_encodings = pos 2

-- ColumnMetaData.path_in_schema: the names of the fields on the path to the leaf, without the root's
abbrev pub column_path_in_schema : ℤ
column_path_in_schema = pos 3

-- ColumnMetaData.codec: the compression, by its number in enum CompressionCodec
abbrev pub column_codec : ℤ
column_codec = pos 4

-- ColumnMetaData.num_values: the number of entries in the chunk, nulls included
abbrev pub column_num_values : ℤ
column_num_values = pos 5

-- ColumnMetaData.total_uncompressed_size: the bytes of all pages before compression, page headers included
abbrev pub column_total_uncompressed_size : ℤ
column_total_uncompressed_size = pos 6

-- ColumnMetaData.total_compressed_size: the bytes of all pages as stored, page headers included
abbrev pub column_total_compressed_size : ℤ
column_total_compressed_size = pos 7

-- ColumnMetaData.data_page_offset: where the first data page begins, in bytes from the start of the file
abbrev pub column_data_page_offset : ℤ
column_data_page_offset = pos 9

-- ColumnMetaData.dictionary_page_offset: where the dictionary page begins, in bytes from the start of the file
abbrev pub column_dictionary_page_offset : ℤ
column_dictionary_page_offset = pos 11

-- ColumnMetaData.statistics: the Statistics of the chunk
abbrev pub column_statistics : ℤ
column_statistics = pos 12

-- struct SchemaElement

-- SchemaElement.type: the physical type of a leaf, by its number in enum Type; absent for a group
abbrev pub element_kind : ℤ
element_kind = pos 1

-- SchemaElement.type_length: the length of FIXED_LEN_BYTE_ARRAY values in bytes
abbrev pub element_type_length : ℤ
element_type_length = pos 2

-- SchemaElement.repetition_type: by its number in enum FieldRepetitionType; absent for the root
abbrev pub element_repetition_type : ℤ
element_repetition_type = pos 3

-- SchemaElement.name: the name of the field
abbrev pub element_name : ℤ
element_name = pos 4

-- SchemaElement.num_children: the number of fields of a group; absent for a leaf
abbrev pub element_num_children : ℤ
element_num_children = pos 5

-- SchemaElement.converted_type: the annotation, by its number in enum ConvertedType
abbrev pub element_converted_type : ℤ
element_converted_type = pos 6

-- SchemaElement.scale: the number of a DECIMAL's digits after the point
abbrev pub element_scale : ℤ
element_scale = pos 7

-- SchemaElement.precision: the number of a DECIMAL's digits
abbrev pub element_precision : ℤ
element_precision = pos 8

-- SchemaElement.field_id: the number that an application gives the field
abbrev pub element_field_id : ℤ
element_field_id = pos 9

-- SchemaElement.logicalType: the annotation, as a member of union LogicalType
abbrev pub element_logical_type : ℤ
element_logical_type = pos 10

-- struct Statistics

-- Statistics.max: an upper bound of the values, deprecated
abbrev pub statistics_max : ℤ
statistics_max = pos 1

-- Statistics.min: a lower bound of the values, deprecated
abbrev pub statistics_min : ℤ
statistics_min = pos 2

-- Statistics.null_count: the number of nulls
abbrev pub statistics_null_count : ℤ
statistics_null_count = pos 3

-- Statistics.distinct_count: the number of distinct values
abbrev pub statistics_distinct_count : ℤ
statistics_distinct_count = pos 4

-- Statistics.max_value: an upper bound of the values, in the order of the column
abbrev pub statistics_max_value : ℤ
statistics_max_value = pos 5

-- Statistics.min_value: a lower bound of the values, in the order of the column
abbrev pub statistics_min_value : ℤ
statistics_min_value = pos 6

-- Statistics.is_max_value_exact: whether max_value is the greatest of the values
abbrev pub statistics_is_max_value_exact : ℤ
statistics_is_max_value_exact = pos 7

-- Statistics.is_min_value_exact: whether min_value is the least of the values
abbrev pub statistics_is_min_value_exact : ℤ
statistics_is_min_value_exact = pos 8

-- union ColumnOrder

-- ColumnOrder.TYPE_ORDER: the order of the column's type
abbrev pub order_type_order : ℤ
order_type_order = pos 1

-- struct PageHeader

-- PageHeader.type: the type of the page, by its number in enum PageType
abbrev pub page_kind : ℤ
page_kind = pos 1

-- PageHeader.uncompressed_page_size: the bytes of the page before compression, without this header
abbrev pub page_uncompressed_page_size : ℤ
page_uncompressed_page_size = pos 2

-- PageHeader.compressed_page_size: the bytes of the page as stored, without this header
abbrev pub page_compressed_page_size : ℤ
page_compressed_page_size = pos 3

-- PageHeader.crc: the CRC-32 of the page as stored, without this header
abbrev pub page_crc : ℤ
page_crc = pos 4

-- PageHeader.data_page_header: the header of a page of version 1
abbrev pub page_data_page_header : ℤ
page_data_page_header = pos 5

-- PageHeader.dictionary_page_header: the header of a dictionary page
abbrev pub page_dictionary_page_header : ℤ
page_dictionary_page_header = pos 7

-- PageHeader.data_page_header_v2: the header of a page of version 2
abbrev pub page_data_page_header_v2 : ℤ
page_data_page_header_v2 = pos 8

-- struct DataPageHeader

-- DataPageHeader.num_values: the number of entries in the page, nulls included
abbrev pub data_num_values : ℤ
data_num_values = pos 1

-- DataPageHeader.encoding: the encoding of the values, by its number in enum Encoding
abbrev pub data_encoding : ℤ
data_encoding = pos 2

-- DataPageHeader.definition_level_encoding: the encoding of the definition levels, by its number in enum Encoding
abbrev pub data_definition_level_encoding : ℤ
data_definition_level_encoding = pos 3

-- DataPageHeader.repetition_level_encoding: the encoding of the repetition levels, by its number in enum Encoding
abbrev pub data_repetition_level_encoding : ℤ
data_repetition_level_encoding = pos 4

-- DataPageHeader.statistics: the Statistics of the page
abbrev pub data_statistics : ℤ
data_statistics = pos 5

-- struct DictionaryPageHeader

-- DictionaryPageHeader.num_values: the number of values in the dictionary
abbrev pub dictionary_num_values : ℤ
dictionary_num_values = pos 1

-- DictionaryPageHeader.encoding: the encoding of the dictionary's values, by its number in enum Encoding
abbrev pub dictionary_encoding : ℤ
dictionary_encoding = pos 2

-- DictionaryPageHeader.is_sorted: whether the dictionary's values rise
abbrev pub dictionary_is_sorted : ℤ
dictionary_is_sorted = pos 3

-- struct DataPageHeaderV2

-- DataPageHeaderV2.num_values: the number of entries in the page, nulls included
abbrev pub data_v2_num_values : ℤ
data_v2_num_values = pos 1

-- DataPageHeaderV2.num_nulls: the number of nulls in the page
abbrev pub data_v2_num_nulls : ℤ
data_v2_num_nulls = pos 2

-- DataPageHeaderV2.num_rows: the number of rows in the page
abbrev pub data_v2_num_rows : ℤ
data_v2_num_rows = pos 3

-- DataPageHeaderV2.encoding: the encoding of the values, by its number in enum Encoding
abbrev pub data_v2_encoding : ℤ
data_v2_encoding = pos 4

-- DataPageHeaderV2.definition_levels_byte_length: the bytes of the definition levels
abbrev pub data_v2_definition_levels_byte_length : ℤ
data_v2_definition_levels_byte_length = pos 5

-- DataPageHeaderV2.repetition_levels_byte_length: the bytes of the repetition levels
abbrev pub data_v2_repetition_levels_byte_length : ℤ
data_v2_repetition_levels_byte_length = pos 6

-- DataPageHeaderV2.is_compressed: whether the values are compressed; absent means that they are
abbrev pub data_v2_is_compressed : ℤ
data_v2_is_compressed = pos 7

-- DataPageHeaderV2.statistics: the Statistics of the page
abbrev pub data_v2_statistics : ℤ
data_v2_statistics = pos 8

-- enum PageType

-- DATA_PAGE: a data page of version 1
abbrev pub type_data_page : ℤ
type_data_page = pos 0

-- DICTIONARY_PAGE: a dictionary page
abbrev pub type_dictionary_page : ℤ
type_dictionary_page = pos 2

-- DATA_PAGE_V2: a data page of version 2
abbrev pub type_data_page_v2 : ℤ
type_data_page_v2 = pos 3
