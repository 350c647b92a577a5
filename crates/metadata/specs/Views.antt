-- What the records of the program stand for, apart from where they lie in memory.
use Rattle.std.specs.Prelude.{map, option_map}
use Rattle.schema.specs.Elements.{elements_view}
use Rattle.metadata.specs.declared.key_value.KeyValue.{KeyValue as CodeKeyValue}
use Rattle.metadata.specs.declared.statistics.Statistics.{Statistics as CodeStatistics}
use Rattle.metadata.specs.declared.column_meta.ColumnMeta.{ColumnMeta as CodeColumnMeta}
use Rattle.metadata.specs.declared.chunk_meta.ChunkMeta.{ChunkMeta as CodeChunkMeta}
use Rattle.metadata.specs.declared.group_meta.GroupMeta.{GroupMeta as CodeGroupMeta}
use Rattle.metadata.specs.declared.column_order.ColumnOrder.{ColumnOrder as CodeColumnOrder}
use Rattle.metadata.specs.declared.column_order.ColumnOrder.TheVariants as code
use Rattle.metadata.specs.declared.file_meta.FileMeta.{FileMeta as CodeFileMeta}
use Rattle.metadata.specs.declared.data_page_header.DataPageHeader.{DataPageHeader as CodeDataPageHeader}
use Rattle.metadata.specs.declared.dictionary_page_header.DictionaryPageHeader.{DictionaryPageHeader as CodeDictionaryPageHeader}
use Rattle.metadata.specs.declared.data_page_header_v2.DataPageHeaderV2.{DataPageHeaderV2 as CodeDataPageHeaderV2}
use Rattle.metadata.specs.declared.page_header.PageHeader.{PageHeader as CodePageHeader}
use Rattle.metadata.specs.Records.{KeyValue, Statistics, ColumnMeta, ChunkMeta, GroupMeta, ColumnOrder, type_order, other_order, FileMeta, DataPageHeader, DictionaryPageHeader, DataPageHeaderV2, PageHeader}

-- a `KeyValue` of the program, with the bytes of its key and of its value
abbrev pub key_value_view : CodeKeyValue → KeyValue
key_value_view x = record { key = x.key.items; value = option_map (λ y. y.items) x.value }

-- a `Statistics` of the program, with the bytes of its bounds
abbrev pub statistics_view : CodeStatistics → Statistics
statistics_view x = record { max = option_map (λ y. y.items) x.max; min = option_map (λ y. y.items) x.min; null_count = x.null_count; distinct_count = x.distinct_count; max_value = option_map (λ y. y.items) x.max_value; min_value = option_map (λ y. y.items) x.min_value; is_max_value_exact = x.is_max_value_exact; is_min_value_exact = x.is_min_value_exact }

-- a `ColumnMeta` of the program, with its encodings and its path as lists, and what its statistics stand for
abbrev pub column_meta_view : CodeColumnMeta → ColumnMeta
column_meta_view x = record { kind = x.kind; encodings = option_map (λ y. y.items) x.encodings; path_in_schema = map (λ s. s.items) x.path_in_schema.items; codec = x.codec; num_values = x.num_values; total_uncompressed_size = x.total_uncompressed_size; total_compressed_size = x.total_compressed_size; data_page_offset = x.data_page_offset; dictionary_page_offset = x.dictionary_page_offset; statistics = option_map statistics_view x.statistics }

-- a `ChunkMeta` of the program, with the bytes of its path, and what its `meta_data` stands for
abbrev pub chunk_meta_view : CodeChunkMeta → ChunkMeta
chunk_meta_view x = record { file_path = option_map (λ y. y.items) x.file_path; file_offset = x.file_offset; meta_data = column_meta_view x.meta_data }

-- a `GroupMeta` of the program, with what each of its column chunks stands for
abbrev pub group_meta_view : CodeGroupMeta → GroupMeta
group_meta_view x = record { columns = map chunk_meta_view x.columns.items; total_byte_size = x.total_byte_size; num_rows = x.num_rows }

-- a `ColumnOrder` of the program: the order of the column's type, or another one
abbrev pub column_order_view : CodeColumnOrder → ColumnOrder
column_order_view code.TypeOrder = type_order
column_order_view code.Other = other_order

-- a `FileMeta` of the program, with what its elements, row groups, pairs and column orders stand for
abbrev pub file_meta_view : CodeFileMeta → FileMeta
file_meta_view x = record { version = x.version; schema = elements_view x.schema.items; num_rows = x.num_rows; row_groups = map group_meta_view x.row_groups.items; key_value_metadata = option_map (λ y. map key_value_view y.items) x.key_value_metadata; created_by = option_map (λ y. y.items) x.created_by; column_orders = option_map (λ y. map column_order_view y.items) x.column_orders }

-- a `DataPageHeader` of the program, with what its statistics stand for
abbrev pub data_page_header_view : CodeDataPageHeader → DataPageHeader
data_page_header_view x = record { num_values = x.num_values; encoding = x.encoding; definition_level_encoding = x.definition_level_encoding; repetition_level_encoding = x.repetition_level_encoding; statistics = option_map statistics_view x.statistics }

-- a `DictionaryPageHeader` of the program
abbrev pub dictionary_page_header_view : CodeDictionaryPageHeader → DictionaryPageHeader
dictionary_page_header_view x = record { num_values = x.num_values; encoding = x.encoding; is_sorted = x.is_sorted }

-- a `DataPageHeaderV2` of the program, with what its statistics stand for
abbrev pub data_page_header_v2_view : CodeDataPageHeaderV2 → DataPageHeaderV2
data_page_header_v2_view x = record { num_values = x.num_values; num_nulls = x.num_nulls; num_rows = x.num_rows; encoding = x.encoding; definition_levels_byte_length = x.definition_levels_byte_length; repetition_levels_byte_length = x.repetition_levels_byte_length; is_compressed = x.is_compressed; statistics = option_map statistics_view x.statistics }

-- a `PageHeader` of the program, with what each of its three headers stands for, if it is there
abbrev pub page_header_view : CodePageHeader → PageHeader
page_header_view x = record { kind = x.kind; uncompressed_page_size = x.uncompressed_page_size; compressed_page_size = x.compressed_page_size; crc = x.crc; data_page_header = option_map data_page_header_view x.data_page_header; dictionary_page_header = option_map dictionary_page_header_view x.dictionary_page_header; data_page_header_v2 = option_map data_page_header_v2_view x.data_page_header_v2 }
