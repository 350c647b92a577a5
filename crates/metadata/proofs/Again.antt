-- What is written for a record is read again as that record.
use Rattle.std.proofs.Common.{◌≡◌, refl, Some, true}
use Rattle.thrift_compact.specs.Tree.{i32, i64, binary, struct, Fields}
use Rattle.schema.specs.Elements.{Element}
use Rattle.metadata.specs.Ids as ids
use Rattle.metadata.specs.FieldValues.{known, needed, int32, int64, boolean, text, tree, record_by, list_by}
use Rattle.metadata.specs.Records.{KeyValue, Statistics, ColumnMeta, ChunkMeta, GroupMeta, ColumnOrder, type_order, other_order, FileMeta, DataPageHeader, DictionaryPageHeader, DataPageHeaderV2, PageHeader}
use Rattle.metadata.specs.FromTree.{key_value, statistics, column_meta, chunk_meta, group_meta, column_order, element, file_meta, data_page_header, dictionary_page_header, data_page_header_v2, any_page_header, has_own_header, page_header}
use Rattle.metadata.specs.ToTree.{truth, many, record_as, INT32, BINARY, STRUCT, key_value_table, key_value_fields, statistics_table, statistics_fields, column_meta_table, column_meta_fields, chunk_meta_table, chunk_meta_fields, group_meta_table, group_meta_fields, column_order_fields, element_table, element_fields, file_meta_table, file_meta_fields, data_page_header_table, data_page_header_fields, dictionary_page_header_table, dictionary_page_header_fields, data_page_header_v2_table, data_page_header_v2_fields, page_header_table, page_header_fields}
use Rattle.metadata.proofs.Written.{known-written, needed-written, list-many, boolean-truth}

key_value_made : (fs : Fields) (x : KeyValue) → needed text ids.pair_key fs ≡ Some x.key → known text ids.pair_value fs ≡ Some x.value → key_value fs ≡ Some x
key_value_made fs x e0 e1 = rw (e0, e1)

pub key_value_again : (x : KeyValue) → key_value (key_value_fields x) ≡ Some x
key_value_again x =
    key_value_made (key_value_fields x) x
    (needed-written text binary (λ _. refl) ids.pair_key (key_value_table x) x.key refl)
    (known-written text binary (λ _. refl) ids.pair_value (key_value_table x) x.value refl)

statistics_made : (fs : Fields) (x : Statistics) → known text ids.statistics_max fs ≡ Some x.max → known text ids.statistics_min fs ≡ Some x.min → known int64 ids.statistics_null_count fs ≡ Some x.null_count → known int64 ids.statistics_distinct_count fs ≡ Some x.distinct_count → known text ids.statistics_max_value fs ≡ Some x.max_value → known text ids.statistics_min_value fs ≡ Some x.min_value → known boolean ids.statistics_is_max_value_exact fs ≡ Some x.is_max_value_exact → known boolean ids.statistics_is_min_value_exact fs ≡ Some x.is_min_value_exact → statistics fs ≡ Some x
statistics_made fs x e0 e1 e2 e3 e4 e5 e6 e7 = rw (e0, e1, e2, e3, e4, e5, e6, e7)

pub statistics_again : (x : Statistics) → statistics (statistics_fields x) ≡ Some x
statistics_again x =
    statistics_made (statistics_fields x) x
    (known-written text binary (λ _. refl) ids.statistics_max (statistics_table x) x.max refl)
    (known-written text binary (λ _. refl) ids.statistics_min (statistics_table x) x.min refl)
    (known-written int64 i64 (λ _. refl) ids.statistics_null_count (statistics_table x) x.null_count refl)
    (known-written int64 i64 (λ _. refl) ids.statistics_distinct_count (statistics_table x) x.distinct_count refl)
    (known-written text binary (λ _. refl) ids.statistics_max_value (statistics_table x) x.max_value refl)
    (known-written text binary (λ _. refl) ids.statistics_min_value (statistics_table x) x.min_value refl)
    (known-written boolean truth boolean-truth ids.statistics_is_max_value_exact (statistics_table x) x.is_max_value_exact refl)
    (known-written boolean truth boolean-truth ids.statistics_is_min_value_exact (statistics_table x) x.is_min_value_exact refl)

column_meta_made : (fs : Fields) (x : ColumnMeta) → needed int32 ids.column_kind fs ≡ Some x.kind → known (list_by int32) ids.column_encodings fs ≡ Some x.encodings → needed (list_by text) ids.column_path_in_schema fs ≡ Some x.path_in_schema → needed int32 ids.column_codec fs ≡ Some x.codec → needed int64 ids.column_num_values fs ≡ Some x.num_values → known int64 ids.column_total_uncompressed_size fs ≡ Some x.total_uncompressed_size → known int64 ids.column_total_compressed_size fs ≡ Some x.total_compressed_size → needed int64 ids.column_data_page_offset fs ≡ Some x.data_page_offset → known int64 ids.column_dictionary_page_offset fs ≡ Some x.dictionary_page_offset → known (record_by statistics) ids.column_statistics fs ≡ Some x.statistics → column_meta fs ≡ Some x
column_meta_made fs x e0 e1 e2 e3 e4 e5 e6 e7 e8 e9 = rw (e0, e1, e2, e3, e4, e5, e6, e7, e8, e9)

pub column_meta_again : (x : ColumnMeta) → column_meta (column_meta_fields x) ≡ Some x
column_meta_again x =
    column_meta_made (column_meta_fields x) x
    (needed-written int32 i32 (λ _. refl) ids.column_kind (column_meta_table x) x.kind refl)
    (known-written (list_by int32) (many INT32 i32) (list-many int32 i32 INT32 (λ _. refl)) ids.column_encodings (column_meta_table x) x.encodings refl)
    (needed-written (list_by text) (many BINARY binary) (list-many text binary BINARY (λ _. refl)) ids.column_path_in_schema (column_meta_table x) x.path_in_schema refl)
    (needed-written int32 i32 (λ _. refl) ids.column_codec (column_meta_table x) x.codec refl)
    (needed-written int64 i64 (λ _. refl) ids.column_num_values (column_meta_table x) x.num_values refl)
    (known-written int64 i64 (λ _. refl) ids.column_total_uncompressed_size (column_meta_table x) x.total_uncompressed_size refl)
    (known-written int64 i64 (λ _. refl) ids.column_total_compressed_size (column_meta_table x) x.total_compressed_size refl)
    (needed-written int64 i64 (λ _. refl) ids.column_data_page_offset (column_meta_table x) x.data_page_offset refl)
    (known-written int64 i64 (λ _. refl) ids.column_dictionary_page_offset (column_meta_table x) x.dictionary_page_offset refl)
    (known-written (record_by statistics) (record_as statistics_fields) statistics_again ids.column_statistics (column_meta_table x) x.statistics refl)

chunk_meta_made : (fs : Fields) (x : ChunkMeta) → known text ids.chunk_file_path fs ≡ Some x.file_path → known int64 ids.chunk_file_offset fs ≡ Some x.file_offset → needed (record_by column_meta) ids.chunk_meta_data fs ≡ Some x.meta_data → chunk_meta fs ≡ Some x
chunk_meta_made fs x e0 e1 e2 = rw (e0, e1, e2)

pub chunk_meta_again : (x : ChunkMeta) → chunk_meta (chunk_meta_fields x) ≡ Some x
chunk_meta_again x =
    chunk_meta_made (chunk_meta_fields x) x
    (known-written text binary (λ _. refl) ids.chunk_file_path (chunk_meta_table x) x.file_path refl)
    (known-written int64 i64 (λ _. refl) ids.chunk_file_offset (chunk_meta_table x) x.file_offset refl)
    (needed-written (record_by column_meta) (record_as column_meta_fields) column_meta_again ids.chunk_meta_data (chunk_meta_table x) x.meta_data refl)

group_meta_made : (fs : Fields) (x : GroupMeta) → needed (list_by (record_by chunk_meta)) ids.group_columns fs ≡ Some x.columns → known int64 ids.group_total_byte_size fs ≡ Some x.total_byte_size → needed int64 ids.group_num_rows fs ≡ Some x.num_rows → group_meta fs ≡ Some x
group_meta_made fs x e0 e1 e2 = rw (e0, e1, e2)

pub group_meta_again : (x : GroupMeta) → group_meta (group_meta_fields x) ≡ Some x
group_meta_again x =
    group_meta_made (group_meta_fields x) x
    (needed-written (list_by (record_by chunk_meta)) (many STRUCT (record_as chunk_meta_fields)) (list-many (record_by chunk_meta) (record_as chunk_meta_fields) STRUCT chunk_meta_again) ids.group_columns (group_meta_table x) x.columns refl)
    (known-written int64 i64 (λ _. refl) ids.group_total_byte_size (group_meta_table x) x.total_byte_size refl)
    (needed-written int64 i64 (λ _. refl) ids.group_num_rows (group_meta_table x) x.num_rows refl)

element_made : (fs : Fields) (x : Element) → known int32 ids.element_kind fs ≡ Some x.kind → known int32 ids.element_type_length fs ≡ Some x.type_length → known int32 ids.element_repetition_type fs ≡ Some x.repetition_type → needed text ids.element_name fs ≡ Some x.name → known int32 ids.element_num_children fs ≡ Some x.num_children → known int32 ids.element_converted_type fs ≡ Some x.converted_type → known int32 ids.element_scale fs ≡ Some x.scale → known int32 ids.element_precision fs ≡ Some x.precision → known int32 ids.element_field_id fs ≡ Some x.field_id → known tree ids.element_logical_type fs ≡ Some x.logical_type → element fs ≡ Some x
element_made fs x e0 e1 e2 e3 e4 e5 e6 e7 e8 e9 = rw (e0, e1, e2, e3, e4, e5, e6, e7, e8, e9)

pub element_again : (x : Element) → element (element_fields x) ≡ Some x
element_again x =
    element_made (element_fields x) x
    (known-written int32 i32 (λ _. refl) ids.element_kind (element_table x) x.kind refl)
    (known-written int32 i32 (λ _. refl) ids.element_type_length (element_table x) x.type_length refl)
    (known-written int32 i32 (λ _. refl) ids.element_repetition_type (element_table x) x.repetition_type refl)
    (needed-written text binary (λ _. refl) ids.element_name (element_table x) x.name refl)
    (known-written int32 i32 (λ _. refl) ids.element_num_children (element_table x) x.num_children refl)
    (known-written int32 i32 (λ _. refl) ids.element_converted_type (element_table x) x.converted_type refl)
    (known-written int32 i32 (λ _. refl) ids.element_scale (element_table x) x.scale refl)
    (known-written int32 i32 (λ _. refl) ids.element_precision (element_table x) x.precision refl)
    (known-written int32 i32 (λ _. refl) ids.element_field_id (element_table x) x.field_id refl)
    (known-written tree struct (λ _. refl) ids.element_logical_type (element_table x) x.logical_type refl)

pub column_order_again : (o : ColumnOrder) → column_order (column_order_fields o) ≡ Some o
column_order_again type_order = refl
column_order_again other_order = refl

file_meta_made : (fs : Fields) (x : FileMeta) → known int32 ids.file_version fs ≡ Some x.version → needed (list_by (record_by element)) ids.file_schema fs ≡ Some x.schema → known int64 ids.file_num_rows fs ≡ Some x.num_rows → needed (list_by (record_by group_meta)) ids.file_row_groups fs ≡ Some x.row_groups → known (list_by (record_by key_value)) ids.file_key_value_metadata fs ≡ Some x.key_value_metadata → known text ids.file_created_by fs ≡ Some x.created_by → known (list_by (record_by column_order)) ids.file_column_orders fs ≡ Some x.column_orders → file_meta fs ≡ Some x
file_meta_made fs x e0 e1 e2 e3 e4 e5 e6 = rw (e0, e1, e2, e3, e4, e5, e6)

pub file_meta_again : (x : FileMeta) → file_meta (file_meta_fields x) ≡ Some x
file_meta_again x =
    file_meta_made (file_meta_fields x) x
    (known-written int32 i32 (λ _. refl) ids.file_version (file_meta_table x) x.version refl)
    (needed-written (list_by (record_by element)) (many STRUCT (record_as element_fields)) (list-many (record_by element) (record_as element_fields) STRUCT element_again) ids.file_schema (file_meta_table x) x.schema refl)
    (known-written int64 i64 (λ _. refl) ids.file_num_rows (file_meta_table x) x.num_rows refl)
    (needed-written (list_by (record_by group_meta)) (many STRUCT (record_as group_meta_fields)) (list-many (record_by group_meta) (record_as group_meta_fields) STRUCT group_meta_again) ids.file_row_groups (file_meta_table x) x.row_groups refl)
    (known-written (list_by (record_by key_value)) (many STRUCT (record_as key_value_fields)) (list-many (record_by key_value) (record_as key_value_fields) STRUCT key_value_again) ids.file_key_value_metadata (file_meta_table x) x.key_value_metadata refl)
    (known-written text binary (λ _. refl) ids.file_created_by (file_meta_table x) x.created_by refl)
    (known-written (list_by (record_by column_order)) (many STRUCT (record_as column_order_fields)) (list-many (record_by column_order) (record_as column_order_fields) STRUCT column_order_again) ids.file_column_orders (file_meta_table x) x.column_orders refl)

data_page_header_made : (fs : Fields) (x : DataPageHeader) → needed int32 ids.data_num_values fs ≡ Some x.num_values → needed int32 ids.data_encoding fs ≡ Some x.encoding → known int32 ids.data_definition_level_encoding fs ≡ Some x.definition_level_encoding → known int32 ids.data_repetition_level_encoding fs ≡ Some x.repetition_level_encoding → known (record_by statistics) ids.data_statistics fs ≡ Some x.statistics → data_page_header fs ≡ Some x
data_page_header_made fs x e0 e1 e2 e3 e4 = rw (e0, e1, e2, e3, e4)

pub data_page_header_again : (x : DataPageHeader) → data_page_header (data_page_header_fields x) ≡ Some x
data_page_header_again x =
    data_page_header_made (data_page_header_fields x) x
    (needed-written int32 i32 (λ _. refl) ids.data_num_values (data_page_header_table x) x.num_values refl)
    (needed-written int32 i32 (λ _. refl) ids.data_encoding (data_page_header_table x) x.encoding refl)
    (known-written int32 i32 (λ _. refl) ids.data_definition_level_encoding (data_page_header_table x) x.definition_level_encoding refl)
    (known-written int32 i32 (λ _. refl) ids.data_repetition_level_encoding (data_page_header_table x) x.repetition_level_encoding refl)
    (known-written (record_by statistics) (record_as statistics_fields) statistics_again ids.data_statistics (data_page_header_table x) x.statistics refl)

dictionary_page_header_made : (fs : Fields) (x : DictionaryPageHeader) → needed int32 ids.dictionary_num_values fs ≡ Some x.num_values → needed int32 ids.dictionary_encoding fs ≡ Some x.encoding → known boolean ids.dictionary_is_sorted fs ≡ Some x.is_sorted → dictionary_page_header fs ≡ Some x
dictionary_page_header_made fs x e0 e1 e2 = rw (e0, e1, e2)

pub dictionary_page_header_again : (x : DictionaryPageHeader) → dictionary_page_header (dictionary_page_header_fields x) ≡ Some x
dictionary_page_header_again x =
    dictionary_page_header_made (dictionary_page_header_fields x) x
    (needed-written int32 i32 (λ _. refl) ids.dictionary_num_values (dictionary_page_header_table x) x.num_values refl)
    (needed-written int32 i32 (λ _. refl) ids.dictionary_encoding (dictionary_page_header_table x) x.encoding refl)
    (known-written boolean truth boolean-truth ids.dictionary_is_sorted (dictionary_page_header_table x) x.is_sorted refl)

data_page_header_v2_made : (fs : Fields) (x : DataPageHeaderV2) → needed int32 ids.data_v2_num_values fs ≡ Some x.num_values → known int32 ids.data_v2_num_nulls fs ≡ Some x.num_nulls → known int32 ids.data_v2_num_rows fs ≡ Some x.num_rows → needed int32 ids.data_v2_encoding fs ≡ Some x.encoding → needed int32 ids.data_v2_definition_levels_byte_length fs ≡ Some x.definition_levels_byte_length → needed int32 ids.data_v2_repetition_levels_byte_length fs ≡ Some x.repetition_levels_byte_length → known boolean ids.data_v2_is_compressed fs ≡ Some x.is_compressed → known (record_by statistics) ids.data_v2_statistics fs ≡ Some x.statistics → data_page_header_v2 fs ≡ Some x
data_page_header_v2_made fs x e0 e1 e2 e3 e4 e5 e6 e7 = rw (e0, e1, e2, e3, e4, e5, e6, e7)

pub data_page_header_v2_again : (x : DataPageHeaderV2) → data_page_header_v2 (data_page_header_v2_fields x) ≡ Some x
data_page_header_v2_again x =
    data_page_header_v2_made (data_page_header_v2_fields x) x
    (needed-written int32 i32 (λ _. refl) ids.data_v2_num_values (data_page_header_v2_table x) x.num_values refl)
    (known-written int32 i32 (λ _. refl) ids.data_v2_num_nulls (data_page_header_v2_table x) x.num_nulls refl)
    (known-written int32 i32 (λ _. refl) ids.data_v2_num_rows (data_page_header_v2_table x) x.num_rows refl)
    (needed-written int32 i32 (λ _. refl) ids.data_v2_encoding (data_page_header_v2_table x) x.encoding refl)
    (needed-written int32 i32 (λ _. refl) ids.data_v2_definition_levels_byte_length (data_page_header_v2_table x) x.definition_levels_byte_length refl)
    (needed-written int32 i32 (λ _. refl) ids.data_v2_repetition_levels_byte_length (data_page_header_v2_table x) x.repetition_levels_byte_length refl)
    (known-written boolean truth boolean-truth ids.data_v2_is_compressed (data_page_header_v2_table x) x.is_compressed refl)
    (known-written (record_by statistics) (record_as statistics_fields) statistics_again ids.data_v2_statistics (data_page_header_v2_table x) x.statistics refl)

page_header_made : (fs : Fields) (x : PageHeader) → needed int32 ids.page_kind fs ≡ Some x.kind → known int32 ids.page_uncompressed_page_size fs ≡ Some x.uncompressed_page_size → needed int32 ids.page_compressed_page_size fs ≡ Some x.compressed_page_size → known int32 ids.page_crc fs ≡ Some x.crc → known (record_by data_page_header) ids.page_data_page_header fs ≡ Some x.data_page_header → known (record_by dictionary_page_header) ids.page_dictionary_page_header fs ≡ Some x.dictionary_page_header → known (record_by data_page_header_v2) ids.page_data_page_header_v2 fs ≡ Some x.data_page_header_v2 → any_page_header fs ≡ Some x
page_header_made fs x e0 e1 e2 e3 e4 e5 e6 = rw (e0, e1, e2, e3, e4, e5, e6)

pub any_page_header_again : (x : PageHeader) → any_page_header (page_header_fields x) ≡ Some x
any_page_header_again x =
    page_header_made (page_header_fields x) x
    (needed-written int32 i32 (λ _. refl) ids.page_kind (page_header_table x) x.kind refl)
    (known-written int32 i32 (λ _. refl) ids.page_uncompressed_page_size (page_header_table x) x.uncompressed_page_size refl)
    (needed-written int32 i32 (λ _. refl) ids.page_compressed_page_size (page_header_table x) x.compressed_page_size refl)
    (known-written int32 i32 (λ _. refl) ids.page_crc (page_header_table x) x.crc refl)
    (known-written (record_by data_page_header) (record_as data_page_header_fields) data_page_header_again ids.page_data_page_header (page_header_table x) x.data_page_header refl)
    (known-written (record_by dictionary_page_header) (record_as dictionary_page_header_fields) dictionary_page_header_again ids.page_dictionary_page_header (page_header_table x) x.dictionary_page_header refl)
    (known-written (record_by data_page_header_v2) (record_as data_page_header_v2_fields) data_page_header_v2_again ids.page_data_page_header_v2 (page_header_table x) x.data_page_header_v2 refl)

pub page_header_again : (x : PageHeader) → has_own_header x ≡ true → page_header (page_header_fields x) ≡ Some x
page_header_again x own = let e = any_page_header_again x in rw (e, own)
