-- The places of each record: one for each id of its table, in which nothing is before the first field.
use Rattle.std.specs.Prelude.{ℕ, ℤ, Bool, List, Option, None}
use Rattle.thrift_compact.specs.Tree.{Fields}
use Rattle.schema.specs.Elements.{Element}
use Rattle.metadata.specs.Ids as ids
use Rattle.metadata.specs.Records.{KeyValue, Statistics, ColumnMeta, ChunkMeta, GroupMeta, ColumnOrder, DataPageHeader, DictionaryPageHeader, DataPageHeaderV2}

-- a place: its id, and what was found with it
abbrev pub Place : Type 0 → Type 0
Place X = ℤ × Option X

-- places for the fields of a KeyValue
abbrev pub KeyValuePlaces : Type 0
KeyValuePlaces = Place (List ℕ) × (Place (List ℕ) × Unit {0})

-- the places of a KeyValue before the first field
abbrev pub key_value_start : KeyValuePlaces
key_value_start = ((ids.pair_key, None), ((ids.pair_value, None), tt))

-- places for the fields of Statistics
abbrev pub StatisticsPlaces : Type 0
StatisticsPlaces = Place (List ℕ) × (Place (List ℕ) × (Place ℤ × (Place ℤ × (Place (List ℕ) × (Place (List ℕ) × (Place Bool × (Place Bool × Unit {0})))))))

-- the places of Statistics before the first field
abbrev pub statistics_start : StatisticsPlaces
statistics_start = (
  (ids.statistics_max, None),
  (
    (ids.statistics_min, None),
    (
      (ids.statistics_null_count, None),
      (
        (ids.statistics_distinct_count, None),
        (
          (ids.statistics_max_value, None),
          (
            (ids.statistics_min_value, None),
            ((ids.statistics_is_max_value_exact, None), ((ids.statistics_is_min_value_exact, None), tt)),
          ),
        ),
      ),
    ),
  ),
)

-- places for the fields of a ColumnMetaData
abbrev pub ColumnMetaPlaces : Type 0
ColumnMetaPlaces = Place ℤ × (Place (List ℤ) × (Place (List (List ℕ)) × (Place ℤ × (Place ℤ × (Place ℤ × (Place ℤ × (Place ℤ × (Place ℤ ×
    (Place Statistics × Unit {0})))))))))

-- the places of a ColumnMetaData before the first field
abbrev pub column_meta_start : ColumnMetaPlaces
column_meta_start = (
  (ids.column_kind, None),
  (
    (ids.column_encodings, None),
    (
      (ids.column_path_in_schema, None),
      (
        (ids.column_codec, None),
        (
          (ids.column_num_values, None),
          (
            (ids.column_total_uncompressed_size, None),
            (
              (ids.column_total_compressed_size, None),
              ((ids.column_data_page_offset, None), ((ids.column_dictionary_page_offset, None), ((ids.column_statistics, None), tt))),
            ),
          ),
        ),
      ),
    ),
  ),
)

-- places for the fields of a ColumnChunk
abbrev pub ChunkMetaPlaces : Type 0
ChunkMetaPlaces = Place (List ℕ) × (Place ℤ × (Place ColumnMeta × Unit {0}))

-- the places of a ColumnChunk before the first field
abbrev pub chunk_meta_start : ChunkMetaPlaces
chunk_meta_start = ((ids.chunk_file_path, None), ((ids.chunk_file_offset, None), ((ids.chunk_meta_data, None), tt)))

-- places for the fields of a RowGroup
abbrev pub GroupMetaPlaces : Type 0
GroupMetaPlaces = Place (List ChunkMeta) × (Place ℤ × (Place ℤ × Unit {0}))

-- the places of a RowGroup before the first field
abbrev pub group_meta_start : GroupMetaPlaces
group_meta_start = ((ids.group_columns, None), ((ids.group_total_byte_size, None), ((ids.group_num_rows, None), tt)))

-- places for the fields of a ColumnOrder
abbrev pub ColumnOrderPlaces : Type 0
ColumnOrderPlaces = Place (Unit {0}) × Unit {0}

-- the places of a ColumnOrder before the first field
abbrev pub column_order_start : ColumnOrderPlaces
column_order_start = ((ids.order_type_order, None), tt)

-- places for the fields of a SchemaElement
abbrev pub ElementPlaces : Type 0
ElementPlaces = Place ℤ × (Place ℤ × (Place ℤ × (Place (List ℕ) × (Place ℤ × (Place ℤ × (Place ℤ × (Place ℤ × (Place ℤ × (Place Fields × Unit {0})))))))))

-- the places of a SchemaElement before the first field
abbrev pub element_start : ElementPlaces
element_start = (
  (ids.element_kind, None),
  (
    (ids.element_type_length, None),
    (
      (ids.element_repetition_type, None),
      (
        (ids.element_name, None),
        (
          (ids.element_num_children, None),
          (
            (ids.element_converted_type, None),
            (
              (ids.element_scale, None),
              (
                (ids.element_precision, None),
                ((ids.element_field_id, None), ((ids.element_logical_type, None), tt)),
              ),
            ),
          ),
        ),
      ),
    ),
  ),
)

-- places for the fields of a DataPageHeader
abbrev pub DataPageHeaderPlaces : Type 0
DataPageHeaderPlaces = Place ℤ × (Place ℤ × (Place ℤ × (Place ℤ × (Place Statistics × Unit {0}))))

-- the places of a DataPageHeader before the first field
abbrev pub data_page_header_start : DataPageHeaderPlaces
data_page_header_start = (
  (ids.data_num_values, None),
  (
    (ids.data_encoding, None),
    (
      (ids.data_definition_level_encoding, None),
      ((ids.data_repetition_level_encoding, None), ((ids.data_statistics, None), tt)),
    ),
  ),
)

-- places for the fields of a DictionaryPageHeader
abbrev pub DictionaryPageHeaderPlaces : Type 0
DictionaryPageHeaderPlaces = Place ℤ × (Place ℤ × (Place Bool × Unit {0}))

-- the places of a DictionaryPageHeader before the first field
abbrev pub dictionary_page_header_start : DictionaryPageHeaderPlaces
dictionary_page_header_start = ((ids.dictionary_num_values, None), ((ids.dictionary_encoding, None), ((ids.dictionary_is_sorted, None), tt)))

-- places for the fields of a DataPageHeaderV2
abbrev pub DataPageHeaderV2Places : Type 0
DataPageHeaderV2Places = Place ℤ × (Place ℤ × (Place ℤ × (Place ℤ × (Place ℤ × (Place ℤ × (Place Bool × (Place Statistics × Unit {0})))))))

-- the places of a DataPageHeaderV2 before the first field
abbrev pub data_page_header_v2_start : DataPageHeaderV2Places
data_page_header_v2_start = (
  (ids.data_v2_num_values, None),
  (
    (ids.data_v2_num_nulls, None),
    (
      (ids.data_v2_num_rows, None),
      (
        (ids.data_v2_encoding, None),
        (
          (ids.data_v2_definition_levels_byte_length, None),
          (
            (ids.data_v2_repetition_levels_byte_length, None),
            ((ids.data_v2_is_compressed, None), ((ids.data_v2_statistics, None), tt)),
          ),
        ),
      ),
    ),
  ),
)

-- places for the fields of a PageHeader
abbrev pub PageHeaderPlaces : Type 0
PageHeaderPlaces = Place ℤ × (Place ℤ × (Place ℤ × (Place ℤ × (Place DataPageHeader × (Place DictionaryPageHeader × (Place DataPageHeaderV2 × Unit {0}))))))

-- the places of a PageHeader before the first field
abbrev pub page_header_start : PageHeaderPlaces
page_header_start = (
  (ids.page_kind, None),
  (
    (ids.page_uncompressed_page_size, None),
    (
      (ids.page_compressed_page_size, None),
      (
        (ids.page_crc, None),
        ((ids.page_data_page_header, None), ((ids.page_dictionary_page_header, None), ((ids.page_data_page_header_v2, None), tt))),
      ),
    ),
  ),
)

-- places for the fields of a FileMetaData
abbrev pub FileMetaPlaces : Type 0
FileMetaPlaces = Place ℤ × (Place (List Element) × (Place ℤ × (Place (List GroupMeta) × (Place (List KeyValue) × (Place (List ℕ) ×
    (Place (List ColumnOrder) × Unit {0}))))))

-- the places of a FileMetaData before the first field
abbrev pub file_meta_start : FileMetaPlaces
file_meta_start = (
  (ids.file_version, None),
  (
    (ids.file_schema, None),
    (
      (ids.file_num_rows, None),
      (
        (ids.file_row_groups, None),
        ((ids.file_key_value_metadata, None), ((ids.file_created_by, None), ((ids.file_column_orders, None), tt))),
      ),
    ),
  ),
)
