-- Each record is what the places of its table hold after the fields.
use Rattle.std.proofs.Common.{◌≡◌, ℕ, List, ap, sym, refl, subst, ◌∙◌, Option, Some}
use Rattle.std.specs.Prelude.{ℤ, Bool, is_some, option_map, if◌then◌else◌}
use Rattle.thrift_compact.specs.Tree.{Node, Fields}
use Rattle.schema.specs.Elements.{Element}
use Rattle.metadata.specs.Ids as ids
use Rattle.metadata.specs.FieldValues.{known, int32, int64, boolean, text, tree, any_struct, record_by, list_by}
use Rattle.metadata.specs.Records.{KeyValue, Statistics, ColumnMeta, ChunkMeta, GroupMeta, ColumnOrder, type_order, other_order, FileMeta, DataPageHeader, DictionaryPageHeader, DataPageHeaderV2, PageHeader}
use Rattle.metadata.specs.FromTree.{key_value, statistics, column_meta, chunk_meta, group_meta, column_order, element, file_meta, data_page_header, dictionary_page_header, data_page_header_v2, any_page_header}
use Rattle.metadata.specs.inner.Slots.{slot_step, other_step, known_row, needed_row, other_row, row_of}
use Rattle.metadata.specs.inner.Starts.{KeyValuePlaces, key_value_start, StatisticsPlaces, statistics_start, ColumnMetaPlaces, column_meta_start, ChunkMetaPlaces, chunk_meta_start, GroupMetaPlaces, group_meta_start, ColumnOrderPlaces, column_order_start, ElementPlaces, element_start, DataPageHeaderPlaces, data_page_header_start, DictionaryPageHeaderPlaces, dictionary_page_header_start, DataPageHeaderV2Places, data_page_header_v2_start, PageHeaderPlaces, page_header_start, FileMetaPlaces, file_meta_start}
use Rattle.metadata.proofs.Places.{known_from, needed_from, other_from, whole, fits_known, fits_needed, fits_others, split_known, split_needed}

-- ---- key_value

abbrev pub KeyValueRow : Type 0
KeyValueRow = List ℕ × (Option (List ℕ) × Unit {0})

abbrev pub key_value_made : KeyValueRow → KeyValue
key_value_made r = record { key = r.0; value = r.1.0 }

abbrev pub key_value_step : KeyValuePlaces → ℤ → Node → Option KeyValuePlaces
key_value_step = slot_step text (slot_step text other_step)

abbrev pub key_value_row : KeyValuePlaces → Option KeyValueRow
key_value_row = needed_row (known_row other_row)

abbrev key_value_from : KeyValuePlaces → Fields → Option KeyValueRow
key_value_from = needed_from text (known_from text other_from)

pub key_value_same : (s : KeyValuePlaces) → s ≡ key_value_start → (fs : Fields) → key_value fs ≡ option_map key_value_made (row_of key_value_step key_value_row s fs)
key_value_same s at_start =
    subst (λ p. (fs : Fields) → key_value fs ≡ option_map key_value_made (row_of key_value_step key_value_row p fs)) (sym at_start) (λ fs.
    let split : key_value fs ≡ option_map key_value_made (key_value_from key_value_start fs) =
    split_needed (known text ids.pair_key fs) _ key_value_made _ (λ first.
    split_known (known text ids.pair_value fs) (Some tt) (λ r. key_value_made (first, r)) _ (λ second. refl)) in
    let fits = fits_needed text _ _ _ _ (fits_known text _ _ _ _ fits_others) in
    split ∙ sym (ap (option_map key_value_made) (whole _ _ _ _ fits key_value_start fs refl)))

-- ---- statistics

abbrev pub StatisticsRow : Type 0
StatisticsRow = Option (List ℕ) × (Option (List ℕ) × (Option ℤ × (Option ℤ × (Option (List ℕ) × (Option (List ℕ) × (Option Bool × (Option Bool × Unit {0})))))))

abbrev pub statistics_made : StatisticsRow → Statistics
statistics_made r = record {
  max = r.0;
  min = r.1.0;
  null_count = r.1.1.0;
  distinct_count = r.1.1.1.0;
  max_value = r.1.1.1.1.0;
  min_value = r.1.1.1.1.1.0;
  is_max_value_exact = r.1.1.1.1.1.1.0;
  is_min_value_exact = r.1.1.1.1.1.1.1.0;
}

abbrev pub statistics_step : StatisticsPlaces → ℤ → Node → Option StatisticsPlaces
statistics_step = slot_step text (slot_step text (slot_step int64 (slot_step int64 (slot_step text (slot_step text (slot_step boolean
    (slot_step boolean other_step)))))))

abbrev pub statistics_row : StatisticsPlaces → Option StatisticsRow
statistics_row = known_row (known_row (known_row (known_row (known_row (known_row (known_row (known_row other_row)))))))

abbrev statistics_from : StatisticsPlaces → Fields → Option StatisticsRow
statistics_from = known_from text (known_from text (known_from int64 (known_from int64 (known_from text (known_from text (known_from boolean
    (known_from boolean other_from)))))))

pub statistics_same : (s : StatisticsPlaces) → s ≡ statistics_start → (fs : Fields) → statistics fs ≡ option_map statistics_made (row_of statistics_step statistics_row s fs)
statistics_same s at_start =
    subst (λ p. (fs : Fields) → statistics fs ≡ option_map statistics_made (row_of statistics_step statistics_row p fs)) (sym at_start) (λ fs.
    let split : statistics fs ≡ option_map statistics_made (statistics_from statistics_start fs) =
    split_known (known text ids.statistics_max fs) _ statistics_made _ (λ first.
    split_known (known text ids.statistics_min fs) _ (λ r. statistics_made (first, r)) _ (λ second.
    split_known (known int64 ids.statistics_null_count fs) _ (λ r. statistics_made (first, (second, r))) _ (λ third.
    split_known (known int64 ids.statistics_distinct_count fs) _ (λ r. statistics_made (first, (second, (third, r)))) _ (λ fourth.
    split_known (known text ids.statistics_max_value fs) _ (λ r. statistics_made (first, (second, (third, (fourth, r))))) _ (λ fifth.
    split_known (known text ids.statistics_min_value fs) _ (λ r. statistics_made (first, (second, (third, (fourth, (fifth, r)))))) _ (λ sixth.
    split_known (known boolean ids.statistics_is_max_value_exact fs) _ (λ r. statistics_made (first, (second, (third, (fourth, (fifth, (sixth, r))))))) _ (λ seventh.
    split_known (known boolean ids.statistics_is_min_value_exact fs) (Some tt) (λ r. statistics_made (first, (second, (third, (fourth, (fifth, (sixth, (seventh, r)))))))) _ (λ eighth. refl)))))))) in
    let fits = fits_known text _ _ _ _ (fits_known text _ _ _ _ (fits_known int64 _ _ _ _ (fits_known int64 _ _ _ _ (fits_known text _ _ _ _
    (fits_known text _ _ _ _ (fits_known boolean _ _ _ _ (fits_known boolean _ _ _ _ fits_others))))))) in
    split ∙ sym (ap (option_map statistics_made) (whole _ _ _ _ fits statistics_start fs refl)))

-- ---- column_meta

abbrev pub ColumnMetaRow : Type 0
ColumnMetaRow = ℤ × (Option (List ℤ) × (List (List ℕ) × (ℤ × (ℤ × (Option ℤ × (Option ℤ × (ℤ × (Option ℤ × (Option Statistics × Unit {0})))))))))

abbrev pub column_meta_made : ColumnMetaRow → ColumnMeta
column_meta_made r = record {
  kind = r.0;
  encodings = r.1.0;
  path_in_schema = r.1.1.0;
  codec = r.1.1.1.0;
  num_values = r.1.1.1.1.0;
  total_uncompressed_size = r.1.1.1.1.1.0;
  total_compressed_size = r.1.1.1.1.1.1.0;
  data_page_offset = r.1.1.1.1.1.1.1.0;
  dictionary_page_offset = r.1.1.1.1.1.1.1.1.0;
  statistics = r.1.1.1.1.1.1.1.1.1.0;
}

abbrev pub column_meta_step : ColumnMetaPlaces → ℤ → Node → Option ColumnMetaPlaces
column_meta_step = slot_step int32 (slot_step (list_by int32) (slot_step (list_by text) (slot_step int32 (slot_step int64 (slot_step int64
    (slot_step int64 (slot_step int64 (slot_step int64 (slot_step (record_by statistics) other_step)))))))))

abbrev pub column_meta_row : ColumnMetaPlaces → Option ColumnMetaRow
column_meta_row = needed_row (known_row (needed_row (needed_row (needed_row (known_row (known_row (needed_row (known_row (known_row other_row)))))))))

abbrev column_meta_from : ColumnMetaPlaces → Fields → Option ColumnMetaRow
column_meta_from = needed_from int32 (known_from (list_by int32) (needed_from (list_by text) (needed_from int32 (needed_from int64 (known_from int64
    (known_from int64 (needed_from int64 (known_from int64 (known_from (record_by statistics) other_from)))))))))

pub column_meta_same : (s : ColumnMetaPlaces) → s ≡ column_meta_start → (fs : Fields) → column_meta fs ≡ option_map column_meta_made (row_of column_meta_step column_meta_row s fs)
column_meta_same s at_start =
    subst (λ p. (fs : Fields) → column_meta fs ≡ option_map column_meta_made (row_of column_meta_step column_meta_row p fs)) (sym at_start) (λ fs.
    let split : column_meta fs ≡ option_map column_meta_made (column_meta_from column_meta_start fs) =
    split_needed (known int32 ids.column_kind fs) _ column_meta_made _ (λ first.
    split_known (known (list_by int32) ids.column_encodings fs) _ (λ r. column_meta_made (first, r)) _ (λ second.
    split_needed (known (list_by text) ids.column_path_in_schema fs) _ (λ r. column_meta_made (first, (second, r))) _ (λ third.
    split_needed (known int32 ids.column_codec fs) _ (λ r. column_meta_made (first, (second, (third, r)))) _ (λ fourth.
    split_needed (known int64 ids.column_num_values fs) _ (λ r. column_meta_made (first, (second, (third, (fourth, r))))) _ (λ fifth.
    split_known (known int64 ids.column_total_uncompressed_size fs) _ (λ r. column_meta_made (first, (second, (third, (fourth, (fifth, r)))))) _ (λ sixth.
    split_known (known int64 ids.column_total_compressed_size fs) _ (λ r. column_meta_made (first, (second, (third, (fourth, (fifth, (sixth, r))))))) _ (λ seventh.
    split_needed (known int64 ids.column_data_page_offset fs) _ (λ r. column_meta_made (first, (second, (third, (fourth, (fifth, (sixth, (seventh, r)))))))) _ (λ eighth.
    split_known (known int64 ids.column_dictionary_page_offset fs) _ (λ r. column_meta_made (first, (second, (third, (fourth, (fifth, (sixth, (seventh, (eighth, r))))))))) _ (λ ninth.
    split_known (known (record_by statistics) ids.column_statistics fs) (Some tt) (λ r. column_meta_made (first, (second, (third, (fourth, (fifth, (sixth, (seventh, (eighth, (ninth, r)))))))))) _ (λ tenth. refl)))))))))) in
    let fits = fits_needed int32 _ _ _ _ (fits_known (list_by int32) _ _ _ _ (fits_needed (list_by text) _ _ _ _ (fits_needed int32 _ _ _ _
    (fits_needed int64 _ _ _ _ (fits_known int64 _ _ _ _ (fits_known int64 _ _ _ _ (fits_needed int64 _ _ _ _ (fits_known int64 _ _ _ _
    (fits_known (record_by statistics) _ _ _ _ fits_others))))))))) in
    split ∙ sym (ap (option_map column_meta_made) (whole _ _ _ _ fits column_meta_start fs refl)))

-- ---- chunk_meta

abbrev pub ChunkMetaRow : Type 0
ChunkMetaRow = Option (List ℕ) × (Option ℤ × (ColumnMeta × Unit {0}))

abbrev pub chunk_meta_made : ChunkMetaRow → ChunkMeta
chunk_meta_made r = record { file_path = r.0; file_offset = r.1.0; meta_data = r.1.1.0 }

abbrev pub chunk_meta_step : ChunkMetaPlaces → ℤ → Node → Option ChunkMetaPlaces
chunk_meta_step = slot_step text (slot_step int64 (slot_step (record_by column_meta) other_step))

abbrev pub chunk_meta_row : ChunkMetaPlaces → Option ChunkMetaRow
chunk_meta_row = known_row (known_row (needed_row other_row))

abbrev chunk_meta_from : ChunkMetaPlaces → Fields → Option ChunkMetaRow
chunk_meta_from = known_from text (known_from int64 (needed_from (record_by column_meta) other_from))

pub chunk_meta_same : (s : ChunkMetaPlaces) → s ≡ chunk_meta_start → (fs : Fields) → chunk_meta fs ≡ option_map chunk_meta_made (row_of chunk_meta_step chunk_meta_row s fs)
chunk_meta_same s at_start =
    subst (λ p. (fs : Fields) → chunk_meta fs ≡ option_map chunk_meta_made (row_of chunk_meta_step chunk_meta_row p fs)) (sym at_start) (λ fs.
    let split : chunk_meta fs ≡ option_map chunk_meta_made (chunk_meta_from chunk_meta_start fs) =
    split_known (known text ids.chunk_file_path fs) _ chunk_meta_made _ (λ first.
    split_known (known int64 ids.chunk_file_offset fs) _ (λ r. chunk_meta_made (first, r)) _ (λ second.
    split_needed (known (record_by column_meta) ids.chunk_meta_data fs) (Some tt) (λ r. chunk_meta_made (first, (second, r))) _ (λ third. refl))) in
    let fits = fits_known text _ _ _ _ (fits_known int64 _ _ _ _ (fits_needed (record_by column_meta) _ _ _ _ fits_others)) in
    split ∙ sym (ap (option_map chunk_meta_made) (whole _ _ _ _ fits chunk_meta_start fs refl)))

-- ---- group_meta

abbrev pub GroupMetaRow : Type 0
GroupMetaRow = List ChunkMeta × (Option ℤ × (ℤ × Unit {0}))

abbrev pub group_meta_made : GroupMetaRow → GroupMeta
group_meta_made r = record { columns = r.0; total_byte_size = r.1.0; num_rows = r.1.1.0 }

abbrev pub group_meta_step : GroupMetaPlaces → ℤ → Node → Option GroupMetaPlaces
group_meta_step = slot_step (list_by (record_by chunk_meta)) (slot_step int64 (slot_step int64 other_step))

abbrev pub group_meta_row : GroupMetaPlaces → Option GroupMetaRow
group_meta_row = needed_row (known_row (needed_row other_row))

abbrev group_meta_from : GroupMetaPlaces → Fields → Option GroupMetaRow
group_meta_from = needed_from (list_by (record_by chunk_meta)) (known_from int64 (needed_from int64 other_from))

pub group_meta_same : (s : GroupMetaPlaces) → s ≡ group_meta_start → (fs : Fields) → group_meta fs ≡ option_map group_meta_made (row_of group_meta_step group_meta_row s fs)
group_meta_same s at_start =
    subst (λ p. (fs : Fields) → group_meta fs ≡ option_map group_meta_made (row_of group_meta_step group_meta_row p fs)) (sym at_start) (λ fs.
    let split : group_meta fs ≡ option_map group_meta_made (group_meta_from group_meta_start fs) =
    split_needed (known (list_by (record_by chunk_meta)) ids.group_columns fs) _ group_meta_made _ (λ first.
    split_known (known int64 ids.group_total_byte_size fs) _ (λ r. group_meta_made (first, r)) _ (λ second.
    split_needed (known int64 ids.group_num_rows fs) (Some tt) (λ r. group_meta_made (first, (second, r))) _ (λ third. refl))) in
    let fits = fits_needed (list_by (record_by chunk_meta)) _ _ _ _ (fits_known int64 _ _ _ _ (fits_needed int64 _ _ _ _ fits_others)) in
    split ∙ sym (ap (option_map group_meta_made) (whole _ _ _ _ fits group_meta_start fs refl)))

-- ---- column_order

abbrev pub ColumnOrderRow : Type 0
ColumnOrderRow = Option (Unit {0}) × Unit {0}

abbrev pub column_order_made : ColumnOrderRow → ColumnOrder
column_order_made r = if is_some r.0 then type_order else other_order

abbrev pub column_order_step : ColumnOrderPlaces → ℤ → Node → Option ColumnOrderPlaces
column_order_step = slot_step any_struct other_step

abbrev pub column_order_row : ColumnOrderPlaces → Option ColumnOrderRow
column_order_row = known_row other_row

abbrev column_order_from : ColumnOrderPlaces → Fields → Option ColumnOrderRow
column_order_from = known_from any_struct other_from

pub column_order_same : (s : ColumnOrderPlaces) → s ≡ column_order_start → (fs : Fields) → column_order fs ≡ option_map column_order_made (row_of column_order_step column_order_row s fs)
column_order_same s at_start =
    subst (λ p. (fs : Fields) → column_order fs ≡ option_map column_order_made (row_of column_order_step column_order_row p fs)) (sym at_start) (λ fs.
    let split : column_order fs ≡ option_map column_order_made (column_order_from column_order_start fs) =
    split_known (known any_struct ids.order_type_order fs) (Some tt) column_order_made _ (λ first. refl) in
    let fits = fits_known any_struct _ _ _ _ fits_others in
    split ∙ sym (ap (option_map column_order_made) (whole _ _ _ _ fits column_order_start fs refl)))

-- ---- element

abbrev pub ElementRow : Type 0
ElementRow = Option ℤ × (Option ℤ × (Option ℤ × (List ℕ × (Option ℤ × (Option ℤ × (Option ℤ × (Option ℤ × (Option ℤ × (Option Fields × Unit {0})))))))))

abbrev pub element_made : ElementRow → Element
element_made r = record {
  kind = r.0;
  type_length = r.1.0;
  repetition_type = r.1.1.0;
  name = r.1.1.1.0;
  num_children = r.1.1.1.1.0;
  converted_type = r.1.1.1.1.1.0;
  scale = r.1.1.1.1.1.1.0;
  precision = r.1.1.1.1.1.1.1.0;
  field_id = r.1.1.1.1.1.1.1.1.0;
  logical_type = r.1.1.1.1.1.1.1.1.1.0;
}

abbrev pub element_step : ElementPlaces → ℤ → Node → Option ElementPlaces
element_step = slot_step int32 (slot_step int32 (slot_step int32 (slot_step text (slot_step int32 (slot_step int32 (slot_step int32 (slot_step int32
    (slot_step int32 (slot_step tree other_step)))))))))

abbrev pub element_row : ElementPlaces → Option ElementRow
element_row = known_row (known_row (known_row (needed_row (known_row (known_row (known_row (known_row (known_row (known_row other_row)))))))))

abbrev element_from : ElementPlaces → Fields → Option ElementRow
element_from = known_from int32 (known_from int32 (known_from int32 (needed_from text (known_from int32 (known_from int32 (known_from int32
    (known_from int32 (known_from int32 (known_from tree other_from)))))))))

pub element_same : (s : ElementPlaces) → s ≡ element_start → (fs : Fields) → element fs ≡ option_map element_made (row_of element_step element_row s fs)
element_same s at_start =
    subst (λ p. (fs : Fields) → element fs ≡ option_map element_made (row_of element_step element_row p fs)) (sym at_start) (λ fs.
    let split : element fs ≡ option_map element_made (element_from element_start fs) =
    split_known (known int32 ids.element_kind fs) _ element_made _ (λ first.
    split_known (known int32 ids.element_type_length fs) _ (λ r. element_made (first, r)) _ (λ second.
    split_known (known int32 ids.element_repetition_type fs) _ (λ r. element_made (first, (second, r))) _ (λ third.
    split_needed (known text ids.element_name fs) _ (λ r. element_made (first, (second, (third, r)))) _ (λ fourth.
    split_known (known int32 ids.element_num_children fs) _ (λ r. element_made (first, (second, (third, (fourth, r))))) _ (λ fifth.
    split_known (known int32 ids.element_converted_type fs) _ (λ r. element_made (first, (second, (third, (fourth, (fifth, r)))))) _ (λ sixth.
    split_known (known int32 ids.element_scale fs) _ (λ r. element_made (first, (second, (third, (fourth, (fifth, (sixth, r))))))) _ (λ seventh.
    split_known (known int32 ids.element_precision fs) _ (λ r. element_made (first, (second, (third, (fourth, (fifth, (sixth, (seventh, r)))))))) _ (λ eighth.
    split_known (known int32 ids.element_field_id fs) _ (λ r. element_made (first, (second, (third, (fourth, (fifth, (sixth, (seventh, (eighth, r))))))))) _ (λ ninth.
    split_known (known tree ids.element_logical_type fs) (Some tt) (λ r. element_made (first, (second, (third, (fourth, (fifth, (sixth, (seventh, (eighth, (ninth, r)))))))))) _ (λ tenth. refl)))))))))) in
    let fits = fits_known int32 _ _ _ _ (fits_known int32 _ _ _ _ (fits_known int32 _ _ _ _ (fits_needed text _ _ _ _ (fits_known int32 _ _ _ _
    (fits_known int32 _ _ _ _ (fits_known int32 _ _ _ _ (fits_known int32 _ _ _ _ (fits_known int32 _ _ _ _ (fits_known tree _ _ _ _ fits_others))))))))) in
    split ∙ sym (ap (option_map element_made) (whole _ _ _ _ fits element_start fs refl)))

-- ---- data_page_header

abbrev pub DataPageHeaderRow : Type 0
DataPageHeaderRow = ℤ × (ℤ × (Option ℤ × (Option ℤ × (Option Statistics × Unit {0}))))

abbrev pub data_page_header_made : DataPageHeaderRow → DataPageHeader
data_page_header_made r = record {
  num_values = r.0;
  encoding = r.1.0;
  definition_level_encoding = r.1.1.0;
  repetition_level_encoding = r.1.1.1.0;
  statistics = r.1.1.1.1.0;
}

abbrev pub data_page_header_step : DataPageHeaderPlaces → ℤ → Node → Option DataPageHeaderPlaces
data_page_header_step = slot_step int32 (slot_step int32 (slot_step int32 (slot_step int32 (slot_step (record_by statistics) other_step))))

abbrev pub data_page_header_row : DataPageHeaderPlaces → Option DataPageHeaderRow
data_page_header_row = needed_row (needed_row (known_row (known_row (known_row other_row))))

abbrev data_page_header_from : DataPageHeaderPlaces → Fields → Option DataPageHeaderRow
data_page_header_from = needed_from int32 (needed_from int32 (known_from int32 (known_from int32 (known_from (record_by statistics) other_from))))

pub data_page_header_same : (s : DataPageHeaderPlaces) → s ≡ data_page_header_start → (fs : Fields) → data_page_header fs ≡ option_map data_page_header_made (row_of data_page_header_step data_page_header_row s fs)
data_page_header_same s at_start =
    subst (λ p. (fs : Fields) → data_page_header fs ≡ option_map data_page_header_made (row_of data_page_header_step data_page_header_row p fs)) (sym at_start) (λ fs.
    let split : data_page_header fs ≡ option_map data_page_header_made (data_page_header_from data_page_header_start fs) =
    split_needed (known int32 ids.data_num_values fs) _ data_page_header_made _ (λ first.
    split_needed (known int32 ids.data_encoding fs) _ (λ r. data_page_header_made (first, r)) _ (λ second.
    split_known (known int32 ids.data_definition_level_encoding fs) _ (λ r. data_page_header_made (first, (second, r))) _ (λ third.
    split_known (known int32 ids.data_repetition_level_encoding fs) _ (λ r. data_page_header_made (first, (second, (third, r)))) _ (λ fourth.
    split_known (known (record_by statistics) ids.data_statistics fs) (Some tt) (λ r. data_page_header_made (first, (second, (third, (fourth, r))))) _ (λ fifth. refl))))) in
    let fits = fits_needed int32 _ _ _ _ (fits_needed int32 _ _ _ _ (fits_known int32 _ _ _ _ (fits_known int32 _ _ _ _
    (fits_known (record_by statistics) _ _ _ _ fits_others)))) in
    split ∙ sym (ap (option_map data_page_header_made) (whole _ _ _ _ fits data_page_header_start fs refl)))

-- ---- dictionary_page_header

abbrev pub DictionaryPageHeaderRow : Type 0
DictionaryPageHeaderRow = ℤ × (ℤ × (Option Bool × Unit {0}))

abbrev pub dictionary_page_header_made : DictionaryPageHeaderRow → DictionaryPageHeader
dictionary_page_header_made r = record { num_values = r.0; encoding = r.1.0; is_sorted = r.1.1.0 }

abbrev pub dictionary_page_header_step : DictionaryPageHeaderPlaces → ℤ → Node → Option DictionaryPageHeaderPlaces
dictionary_page_header_step = slot_step int32 (slot_step int32 (slot_step boolean other_step))

abbrev pub dictionary_page_header_row : DictionaryPageHeaderPlaces → Option DictionaryPageHeaderRow
dictionary_page_header_row = needed_row (needed_row (known_row other_row))

abbrev dictionary_page_header_from : DictionaryPageHeaderPlaces → Fields → Option DictionaryPageHeaderRow
dictionary_page_header_from = needed_from int32 (needed_from int32 (known_from boolean other_from))

pub dictionary_page_header_same : (s : DictionaryPageHeaderPlaces) → s ≡ dictionary_page_header_start → (fs : Fields) → dictionary_page_header fs ≡ option_map dictionary_page_header_made (row_of dictionary_page_header_step dictionary_page_header_row s fs)
dictionary_page_header_same s at_start =
    subst (λ p. (fs : Fields) → dictionary_page_header fs ≡ option_map dictionary_page_header_made (row_of dictionary_page_header_step dictionary_page_header_row p fs)) (sym at_start) (λ fs.
    let split : dictionary_page_header fs ≡ option_map dictionary_page_header_made (dictionary_page_header_from dictionary_page_header_start fs) =
    split_needed (known int32 ids.dictionary_num_values fs) _ dictionary_page_header_made _ (λ first.
    split_needed (known int32 ids.dictionary_encoding fs) _ (λ r. dictionary_page_header_made (first, r)) _ (λ second.
    split_known (known boolean ids.dictionary_is_sorted fs) (Some tt) (λ r. dictionary_page_header_made (first, (second, r))) _ (λ third. refl))) in
    let fits = fits_needed int32 _ _ _ _ (fits_needed int32 _ _ _ _ (fits_known boolean _ _ _ _ fits_others)) in
    split ∙ sym (ap (option_map dictionary_page_header_made) (whole _ _ _ _ fits dictionary_page_header_start fs refl)))

-- ---- data_page_header_v2

abbrev pub DataPageHeaderV2Row : Type 0
DataPageHeaderV2Row = ℤ × (Option ℤ × (Option ℤ × (ℤ × (ℤ × (ℤ × (Option Bool × (Option Statistics × Unit {0})))))))

abbrev pub data_page_header_v2_made : DataPageHeaderV2Row → DataPageHeaderV2
data_page_header_v2_made r = record {
  num_values = r.0;
  num_nulls = r.1.0;
  num_rows = r.1.1.0;
  encoding = r.1.1.1.0;
  definition_levels_byte_length = r.1.1.1.1.0;
  repetition_levels_byte_length = r.1.1.1.1.1.0;
  is_compressed = r.1.1.1.1.1.1.0;
  statistics = r.1.1.1.1.1.1.1.0;
}

abbrev pub data_page_header_v2_step : DataPageHeaderV2Places → ℤ → Node → Option DataPageHeaderV2Places
data_page_header_v2_step = slot_step int32 (slot_step int32 (slot_step int32 (slot_step int32 (slot_step int32 (slot_step int32 (slot_step boolean
    (slot_step (record_by statistics) other_step)))))))

abbrev pub data_page_header_v2_row : DataPageHeaderV2Places → Option DataPageHeaderV2Row
data_page_header_v2_row = needed_row (known_row (known_row (needed_row (needed_row (needed_row (known_row (known_row other_row)))))))

abbrev data_page_header_v2_from : DataPageHeaderV2Places → Fields → Option DataPageHeaderV2Row
data_page_header_v2_from = needed_from int32 (known_from int32 (known_from int32 (needed_from int32 (needed_from int32 (needed_from int32
    (known_from boolean (known_from (record_by statistics) other_from)))))))

pub data_page_header_v2_same : (s : DataPageHeaderV2Places) → s ≡ data_page_header_v2_start → (fs : Fields) → data_page_header_v2 fs ≡ option_map data_page_header_v2_made (row_of data_page_header_v2_step data_page_header_v2_row s fs)
data_page_header_v2_same s at_start =
    subst (λ p. (fs : Fields) → data_page_header_v2 fs ≡ option_map data_page_header_v2_made (row_of data_page_header_v2_step data_page_header_v2_row p fs)) (sym at_start) (λ fs.
    let split : data_page_header_v2 fs ≡ option_map data_page_header_v2_made (data_page_header_v2_from data_page_header_v2_start fs) =
    split_needed (known int32 ids.data_v2_num_values fs) _ data_page_header_v2_made _ (λ first.
    split_known (known int32 ids.data_v2_num_nulls fs) _ (λ r. data_page_header_v2_made (first, r)) _ (λ second.
    split_known (known int32 ids.data_v2_num_rows fs) _ (λ r. data_page_header_v2_made (first, (second, r))) _ (λ third.
    split_needed (known int32 ids.data_v2_encoding fs) _ (λ r. data_page_header_v2_made (first, (second, (third, r)))) _ (λ fourth.
    split_needed (known int32 ids.data_v2_definition_levels_byte_length fs) _ (λ r. data_page_header_v2_made (first, (second, (third, (fourth, r))))) _ (λ fifth.
    split_needed (known int32 ids.data_v2_repetition_levels_byte_length fs) _ (λ r. data_page_header_v2_made (first, (second, (third, (fourth, (fifth, r)))))) _ (λ sixth.
    split_known (known boolean ids.data_v2_is_compressed fs) _ (λ r. data_page_header_v2_made (first, (second, (third, (fourth, (fifth, (sixth, r))))))) _ (λ seventh.
    split_known (known (record_by statistics) ids.data_v2_statistics fs) (Some tt) (λ r. data_page_header_v2_made (first, (second, (third, (fourth, (fifth, (sixth, (seventh, r)))))))) _ (λ eighth. refl)))))))) in
    let fits = fits_needed int32 _ _ _ _ (fits_known int32 _ _ _ _ (fits_known int32 _ _ _ _ (fits_needed int32 _ _ _ _ (fits_needed int32 _ _ _ _
    (fits_needed int32 _ _ _ _ (fits_known boolean _ _ _ _ (fits_known (record_by statistics) _ _ _ _ fits_others))))))) in
    split ∙ sym (ap (option_map data_page_header_v2_made) (whole _ _ _ _ fits data_page_header_v2_start fs refl)))

-- ---- page_header

abbrev pub PageHeaderRow : Type 0
PageHeaderRow = ℤ × (Option ℤ × (ℤ × (Option ℤ × (Option DataPageHeader × (Option DictionaryPageHeader × (Option DataPageHeaderV2 × Unit {0}))))))

abbrev pub page_header_made : PageHeaderRow → PageHeader
page_header_made r = record {
  kind = r.0;
  uncompressed_page_size = r.1.0;
  compressed_page_size = r.1.1.0;
  crc = r.1.1.1.0;
  data_page_header = r.1.1.1.1.0;
  dictionary_page_header = r.1.1.1.1.1.0;
  data_page_header_v2 = r.1.1.1.1.1.1.0;
}

abbrev pub page_header_step : PageHeaderPlaces → ℤ → Node → Option PageHeaderPlaces
page_header_step = slot_step int32 (slot_step int32 (slot_step int32 (slot_step int32 (slot_step (record_by data_page_header)
    (slot_step (record_by dictionary_page_header) (slot_step (record_by data_page_header_v2) other_step))))))

abbrev pub page_header_row : PageHeaderPlaces → Option PageHeaderRow
page_header_row = needed_row (known_row (needed_row (known_row (known_row (known_row (known_row other_row))))))

abbrev page_header_from : PageHeaderPlaces → Fields → Option PageHeaderRow
page_header_from = needed_from int32 (known_from int32 (needed_from int32 (known_from int32 (known_from (record_by data_page_header)
    (known_from (record_by dictionary_page_header) (known_from (record_by data_page_header_v2) other_from))))))

pub page_header_same : (s : PageHeaderPlaces) → s ≡ page_header_start → (fs : Fields) → any_page_header fs ≡ option_map page_header_made (row_of page_header_step page_header_row s fs)
page_header_same s at_start =
    subst (λ p. (fs : Fields) → any_page_header fs ≡ option_map page_header_made (row_of page_header_step page_header_row p fs)) (sym at_start) (λ fs.
    let split : any_page_header fs ≡ option_map page_header_made (page_header_from page_header_start fs) =
    split_needed (known int32 ids.page_kind fs) _ page_header_made _ (λ first.
    split_known (known int32 ids.page_uncompressed_page_size fs) _ (λ r. page_header_made (first, r)) _ (λ second.
    split_needed (known int32 ids.page_compressed_page_size fs) _ (λ r. page_header_made (first, (second, r))) _ (λ third.
    split_known (known int32 ids.page_crc fs) _ (λ r. page_header_made (first, (second, (third, r)))) _ (λ fourth.
    split_known (known (record_by data_page_header) ids.page_data_page_header fs) _ (λ r. page_header_made (first, (second, (third, (fourth, r))))) _ (λ fifth.
    split_known (known (record_by dictionary_page_header) ids.page_dictionary_page_header fs) _ (λ r. page_header_made (first, (second, (third, (fourth, (fifth, r)))))) _ (λ sixth.
    split_known (known (record_by data_page_header_v2) ids.page_data_page_header_v2 fs) (Some tt) (λ r. page_header_made (first, (second, (third, (fourth, (fifth, (sixth, r))))))) _ (λ seventh. refl))))))) in
    let fits = fits_needed int32 _ _ _ _ (fits_known int32 _ _ _ _ (fits_needed int32 _ _ _ _ (fits_known int32 _ _ _ _
    (fits_known (record_by data_page_header) _ _ _ _ (fits_known (record_by dictionary_page_header) _ _ _ _
    (fits_known (record_by data_page_header_v2) _ _ _ _ fits_others)))))) in
    split ∙ sym (ap (option_map page_header_made) (whole _ _ _ _ fits page_header_start fs refl)))

-- ---- file_meta

abbrev pub FileMetaRow : Type 0
FileMetaRow = Option ℤ × (List Element × (Option ℤ × (List GroupMeta × (Option (List KeyValue) × (Option (List ℕ) × (Option (List ColumnOrder) × Unit {0}))))))

abbrev pub file_meta_made : FileMetaRow → FileMeta
file_meta_made r = record {
  version = r.0;
  schema = r.1.0;
  num_rows = r.1.1.0;
  row_groups = r.1.1.1.0;
  key_value_metadata = r.1.1.1.1.0;
  created_by = r.1.1.1.1.1.0;
  column_orders = r.1.1.1.1.1.1.0;
}

abbrev pub file_meta_step : FileMetaPlaces → ℤ → Node → Option FileMetaPlaces
file_meta_step = slot_step int32 (slot_step (list_by (record_by element)) (slot_step int64 (slot_step (list_by (record_by group_meta))
    (slot_step (list_by (record_by key_value)) (slot_step text (slot_step (list_by (record_by column_order)) other_step))))))

abbrev pub file_meta_row : FileMetaPlaces → Option FileMetaRow
file_meta_row = known_row (needed_row (known_row (needed_row (known_row (known_row (known_row other_row))))))

abbrev file_meta_from : FileMetaPlaces → Fields → Option FileMetaRow
file_meta_from = known_from int32 (needed_from (list_by (record_by element)) (known_from int64 (needed_from (list_by (record_by group_meta))
    (known_from (list_by (record_by key_value)) (known_from text (known_from (list_by (record_by column_order)) other_from))))))

pub file_meta_same : (s : FileMetaPlaces) → s ≡ file_meta_start → (fs : Fields) → file_meta fs ≡ option_map file_meta_made (row_of file_meta_step file_meta_row s fs)
file_meta_same s at_start =
    subst (λ p. (fs : Fields) → file_meta fs ≡ option_map file_meta_made (row_of file_meta_step file_meta_row p fs)) (sym at_start) (λ fs.
    let split : file_meta fs ≡ option_map file_meta_made (file_meta_from file_meta_start fs) =
    split_known (known int32 ids.file_version fs) _ file_meta_made _ (λ first.
    split_needed (known (list_by (record_by element)) ids.file_schema fs) _ (λ r. file_meta_made (first, r)) _ (λ second.
    split_known (known int64 ids.file_num_rows fs) _ (λ r. file_meta_made (first, (second, r))) _ (λ third.
    split_needed (known (list_by (record_by group_meta)) ids.file_row_groups fs) _ (λ r. file_meta_made (first, (second, (third, r)))) _ (λ fourth.
    split_known (known (list_by (record_by key_value)) ids.file_key_value_metadata fs) _ (λ r. file_meta_made (first, (second, (third, (fourth, r))))) _ (λ fifth.
    split_known (known text ids.file_created_by fs) _ (λ r. file_meta_made (first, (second, (third, (fourth, (fifth, r)))))) _ (λ sixth.
    split_known (known (list_by (record_by column_order)) ids.file_column_orders fs) (Some tt) (λ r. file_meta_made (first, (second, (third, (fourth, (fifth, (sixth, r))))))) _ (λ seventh. refl))))))) in
    let fits = fits_known int32 _ _ _ _ (fits_needed (list_by (record_by element)) _ _ _ _ (fits_known int64 _ _ _ _
    (fits_needed (list_by (record_by group_meta)) _ _ _ _ (fits_known (list_by (record_by key_value)) _ _ _ _ (fits_known text _ _ _ _
    (fits_known (list_by (record_by column_order)) _ _ _ _ fits_others)))))) in
    split ∙ sym (ap (option_map file_meta_made) (whole _ _ _ _ fits file_meta_start fs refl)))
