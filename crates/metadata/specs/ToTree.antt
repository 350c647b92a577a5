-- The struct that is written for a record: the fields that are there, in the order of their ids.
use Rattle.std.specs.Prelude.{ℕ, ℤ, Bool, List, [], ◌∷◌, ◌++◌, map, Option, Some, None, option_map, if◌then◌else◌}
use Rattle.thrift_compact.specs.Tree.{Node, yes, no, i32, i64, binary, list, struct, Fields, no_fields}
use Rattle.thrift_compact.specs.View.{nodes_of, fields_of}
use Rattle.schema.specs.Elements.{Element}
use Rattle.metadata.specs.Ids as ids
use Rattle.metadata.specs.Records.{KeyValue, Statistics, ColumnMeta, ChunkMeta, GroupMeta, ColumnOrder, type_order, other_order, FileMeta, DataPageHeader, DictionaryPageHeader, DataPageHeaderV2, PageHeader}

-- a row of a record's table: the id of a field, and its value; None if the field is absent
abbrev pub Entry : Type 0
Entry = ℤ × Option Node

-- the row of a field that every such record has
abbrev pub there : {X : Type 0} → (X → Node) → ℤ → X → Entry
there write id x = (id, Some (write x))

-- the row of a field that may be absent
abbrev pub given : {X : Type 0} → (X → Node) → ℤ → Option X → Entry
given write id x = (id, option_map write x)

-- the field with this id: a list of one, or an empty one if the value is absent
abbrev pub present : ℤ → Option Node → List (ℤ × Node)
present id (Some x) = (id, x) ∷ []
present id None = []

-- the fields of a table that are not absent, in its order
abbrev pub present_of : List Entry → List (ℤ × Node)
present_of [] = []
present_of (e ∷ es) = present e.0 e.1 ++ present_of es

-- the struct of a table: its fields that are not absent, in its order
abbrev pub written : List Entry → Fields
written es = fields_of (present_of es)

-- the value of a boolean field
abbrev pub truth : Bool → Node
truth b = if b then yes else no

-- the compact protocol's number of the type i32 of elements
abbrev pub INT32 : ℕ
INT32 = 5

-- the compact protocol's number of the type binary of elements
abbrev pub BINARY : ℕ
BINARY = 8

-- the compact protocol's number of the type struct of elements
abbrev pub STRUCT : ℕ
STRUCT = 12

-- a list of values, whose type has this number in the compact protocol
abbrev pub many : {X : Type 0} → ℕ → (X → Node) → List X → Node
many code write xs = list code (nodes_of (map write xs))

-- the struct of a record that is a field of another one, or an element of a list
abbrev pub record_as : {X : Type 0} → (X → Fields) → X → Node
record_as fields x = struct (fields x)

-- the fields of a KeyValue, in the order of their ids
abbrev pub key_value_table : KeyValue → List Entry
key_value_table x =
    there binary ids.pair_key x.key
    ∷ given binary ids.pair_value x.value
    ∷ []

-- the struct that is written for a KeyValue
abbrev pub key_value_fields : KeyValue → Fields
key_value_fields x = written (key_value_table x)

-- the fields of Statistics, in the order of their ids
abbrev pub statistics_table : Statistics → List Entry
statistics_table x =
    given binary ids.statistics_max x.max
    ∷ given binary ids.statistics_min x.min
    ∷ given i64 ids.statistics_null_count x.null_count
    ∷ given i64 ids.statistics_distinct_count x.distinct_count
    ∷ given binary ids.statistics_max_value x.max_value
    ∷ given binary ids.statistics_min_value x.min_value
    ∷ given truth ids.statistics_is_max_value_exact x.is_max_value_exact
    ∷ given truth ids.statistics_is_min_value_exact x.is_min_value_exact
    ∷ []

-- the struct that is written for Statistics
abbrev pub statistics_fields : Statistics → Fields
statistics_fields x = written (statistics_table x)

-- the fields of a ColumnMetaData, in the order of their ids
abbrev pub column_meta_table : ColumnMeta → List Entry
column_meta_table x =
    there i32 ids.column_kind x.kind
    ∷ given (many INT32 i32) ids.column_encodings x.encodings
    ∷ there (many BINARY binary) ids.column_path_in_schema x.path_in_schema
    ∷ there i32 ids.column_codec x.codec
    ∷ there i64 ids.column_num_values x.num_values
    ∷ given i64 ids.column_total_uncompressed_size x.total_uncompressed_size
    ∷ given i64 ids.column_total_compressed_size x.total_compressed_size
    ∷ there i64 ids.column_data_page_offset x.data_page_offset
    ∷ given i64 ids.column_dictionary_page_offset x.dictionary_page_offset
    ∷ given (record_as statistics_fields) ids.column_statistics x.statistics
    ∷ []

-- the struct that is written for a ColumnMetaData
abbrev pub column_meta_fields : ColumnMeta → Fields
column_meta_fields x = written (column_meta_table x)

-- the fields of a ColumnChunk, in the order of their ids
abbrev pub chunk_meta_table : ChunkMeta → List Entry
chunk_meta_table x =
    given binary ids.chunk_file_path x.file_path
    ∷ given i64 ids.chunk_file_offset x.file_offset
    ∷ there (record_as column_meta_fields) ids.chunk_meta_data x.meta_data
    ∷ []

-- the struct that is written for a ColumnChunk
abbrev pub chunk_meta_fields : ChunkMeta → Fields
chunk_meta_fields x = written (chunk_meta_table x)

-- the fields of a RowGroup, in the order of their ids
abbrev pub group_meta_table : GroupMeta → List Entry
group_meta_table x =
    there (many STRUCT (record_as chunk_meta_fields)) ids.group_columns x.columns
    ∷ given i64 ids.group_total_byte_size x.total_byte_size
    ∷ there i64 ids.group_num_rows x.num_rows
    ∷ []

-- the struct that is written for a RowGroup
abbrev pub group_meta_fields : GroupMeta → Fields
group_meta_fields x = written (group_meta_table x)

-- the fields of a SchemaElement, in the order of their ids
abbrev pub element_table : Element → List Entry
element_table x =
    given i32 ids.element_kind x.kind
    ∷ given i32 ids.element_type_length x.type_length
    ∷ given i32 ids.element_repetition_type x.repetition_type
    ∷ there binary ids.element_name x.name
    ∷ given i32 ids.element_num_children x.num_children
    ∷ given i32 ids.element_converted_type x.converted_type
    ∷ given i32 ids.element_scale x.scale
    ∷ given i32 ids.element_precision x.precision
    ∷ given i32 ids.element_field_id x.field_id
    ∷ given struct ids.element_logical_type x.logical_type
    ∷ []

-- the struct that is written for a SchemaElement
abbrev pub element_fields : Element → Fields
element_fields x = written (element_table x)

-- the union that is written for a ColumnOrder: TYPE_ORDER as an empty struct, another order as no member
abbrev pub column_order_fields : ColumnOrder → Fields
column_order_fields type_order = written (there struct ids.order_type_order no_fields ∷ [])
column_order_fields other_order = no_fields

-- the fields of a FileMetaData, in the order of their ids
abbrev pub file_meta_table : FileMeta → List Entry
file_meta_table x =
    given i32 ids.file_version x.version
    ∷ there (many STRUCT (record_as element_fields)) ids.file_schema x.schema
    ∷ given i64 ids.file_num_rows x.num_rows
    ∷ there (many STRUCT (record_as group_meta_fields)) ids.file_row_groups x.row_groups
    ∷ given (many STRUCT (record_as key_value_fields)) ids.file_key_value_metadata x.key_value_metadata
    ∷ given binary ids.file_created_by x.created_by
    ∷ given (many STRUCT (record_as column_order_fields)) ids.file_column_orders x.column_orders
    ∷ []

-- the struct that is written for a footer
abbrev pub file_meta_fields : FileMeta → Fields
file_meta_fields x = written (file_meta_table x)

-- the fields of a DataPageHeader, in the order of their ids
abbrev pub data_page_header_table : DataPageHeader → List Entry
data_page_header_table x =
    there i32 ids.data_num_values x.num_values
    ∷ there i32 ids.data_encoding x.encoding
    ∷ given i32 ids.data_definition_level_encoding x.definition_level_encoding
    ∷ given i32 ids.data_repetition_level_encoding x.repetition_level_encoding
    ∷ given (record_as statistics_fields) ids.data_statistics x.statistics
    ∷ []

-- the struct that is written for a DataPageHeader
abbrev pub data_page_header_fields : DataPageHeader → Fields
data_page_header_fields x = written (data_page_header_table x)

-- the fields of a DictionaryPageHeader, in the order of their ids
abbrev pub dictionary_page_header_table : DictionaryPageHeader → List Entry
dictionary_page_header_table x =
    there i32 ids.dictionary_num_values x.num_values
    ∷ there i32 ids.dictionary_encoding x.encoding
    ∷ given truth ids.dictionary_is_sorted x.is_sorted
    ∷ []

-- the struct that is written for a DictionaryPageHeader
abbrev pub dictionary_page_header_fields : DictionaryPageHeader → Fields
dictionary_page_header_fields x = written (dictionary_page_header_table x)

-- the fields of a DataPageHeaderV2, in the order of their ids
abbrev pub data_page_header_v2_table : DataPageHeaderV2 → List Entry
data_page_header_v2_table x =
    there i32 ids.data_v2_num_values x.num_values
    ∷ given i32 ids.data_v2_num_nulls x.num_nulls
    ∷ given i32 ids.data_v2_num_rows x.num_rows
    ∷ there i32 ids.data_v2_encoding x.encoding
    ∷ there i32 ids.data_v2_definition_levels_byte_length x.definition_levels_byte_length
    ∷ there i32 ids.data_v2_repetition_levels_byte_length x.repetition_levels_byte_length
    ∷ given truth ids.data_v2_is_compressed x.is_compressed
    ∷ given (record_as statistics_fields) ids.data_v2_statistics x.statistics
    ∷ []

-- the struct that is written for a DataPageHeaderV2
abbrev pub data_page_header_v2_fields : DataPageHeaderV2 → Fields
data_page_header_v2_fields x = written (data_page_header_v2_table x)

-- the fields of a PageHeader, in the order of their ids
abbrev pub page_header_table : PageHeader → List Entry
page_header_table x =
    there i32 ids.page_kind x.kind
    ∷ given i32 ids.page_uncompressed_page_size x.uncompressed_page_size
    ∷ there i32 ids.page_compressed_page_size x.compressed_page_size
    ∷ given i32 ids.page_crc x.crc
    ∷ given (record_as data_page_header_fields) ids.page_data_page_header x.data_page_header
    ∷ given (record_as dictionary_page_header_fields) ids.page_dictionary_page_header x.dictionary_page_header
    ∷ given (record_as data_page_header_v2_fields) ids.page_data_page_header_v2 x.data_page_header_v2
    ∷ []

-- the struct that is written for a PageHeader, whether or not the header that its type names is there
abbrev pub page_header_fields : PageHeader → Fields
page_header_fields x = written (page_header_table x)
