-- Where a record stands, its own struct has bytes too.
use Rattle.std.proofs.Common.{◌≡◌, ℕ, ◌∙◌, ap, List, [], ◌∷◌, ◌++◌, length, pos, refl, subst, arith, Option, Some, None}
use Rattle.std.specs.Prelude.{Bool, true, false, is_some, option_map, if◌then◌else◌}
use Rattle.std.proofs.lemmas.Option.{same_Some as some_same}
use Rattle.thrift_compact.specs.Tree.{Node, i32, i64, binary, struct, Fields, no_fields}
use Rattle.thrift_compact.specs.Compact.{IsThrift}
use Rattle.schema.specs.Elements.{Element}
use Rattle.metadata.specs.Ids as ids
use Rattle.metadata.specs.FieldValues.{known, needed, int32, int64, boolean, text, tree, any_struct, record_by, list_by}
use Rattle.metadata.specs.Records.{KeyValue, Statistics, ColumnMeta, ChunkMeta, GroupMeta, ColumnOrder, type_order, other_order, FileMeta, DataPageHeader, DictionaryPageHeader, DataPageHeaderV2, PageHeader}
use Rattle.metadata.specs.FromTree.{key_value, statistics, column_meta, chunk_meta, group_meta, column_order, element, file_meta, data_page_header, dictionary_page_header, data_page_header_v2, any_page_header, has_own_header, page_header}
use Rattle.metadata.specs.ToTree.{truth, many, record_as, INT32, BINARY, STRUCT, key_value_table, key_value_fields, statistics_table, statistics_fields, column_meta_table, column_meta_fields, chunk_meta_table, chunk_meta_fields, group_meta_table, group_meta_fields, column_order_fields, element_table, element_fields, file_meta_table, file_meta_fields, data_page_header_table, data_page_header_fields, dictionary_page_header_table, dictionary_page_header_fields, data_page_header_v2_table, data_page_header_v2_fields, page_header_table, page_header_fields}
use Rattle.metadata.specs.Answers.{StandsFor}
use Rattle.thrift_compact.proofs.Texts.{byte_text}
use Rattle.metadata.proofs.Carried.{Good, GoodFields, GoodValue, AllGood, all_good, bind_some, Carries, good_known, good_needed, good_table, int32_carries, int64_carries, boolean_carries, text_carries, tree_carries, record_carries, list_carries}

key_value_good : (fs : Fields) (x : KeyValue) (left : ℕ) → key_value fs ≡ Some x → AllGood left fs → GoodFields left (key_value_fields x)
key_value_good fs x left e all =
    let s0 = bind_some (needed text ids.pair_key fs) _ x e in
    let s1 = bind_some (known text ids.pair_value fs) _ x s0.2 in
    let own : KeyValue = record { key = s0.0; value = s1.0 } in
    let g0 = good_needed text binary text_carries left ids.pair_key fs s0.0 all s0.1 in
    let g1 = good_known text binary text_carries left ids.pair_value fs s1.0 all s1.1 in
    subst (λ (y : KeyValue). GoodFields left (key_value_fields y)) (some_same own x s1.2) (good_table left (key_value_table own) refl refl refl (g0, (g1, tt)))

statistics_good : (fs : Fields) (x : Statistics) (left : ℕ) → statistics fs ≡ Some x → AllGood left fs → GoodFields left (statistics_fields x)
statistics_good fs x left e all =
    let s0 = bind_some (known text ids.statistics_max fs) _ x e in
    let s1 = bind_some (known text ids.statistics_min fs) _ x s0.2 in
    let s2 = bind_some (known int64 ids.statistics_null_count fs) _ x s1.2 in
    let s3 = bind_some (known int64 ids.statistics_distinct_count fs) _ x s2.2 in
    let s4 = bind_some (known text ids.statistics_max_value fs) _ x s3.2 in
    let s5 = bind_some (known text ids.statistics_min_value fs) _ x s4.2 in
    let s6 = bind_some (known boolean ids.statistics_is_max_value_exact fs) _ x s5.2 in
    let s7 = bind_some (known boolean ids.statistics_is_min_value_exact fs) _ x s6.2 in
    let own : Statistics = record { max = s0.0; min = s1.0; null_count = s2.0; distinct_count = s3.0; max_value = s4.0; min_value = s5.0; is_max_value_exact = s6.0; is_min_value_exact = s7.0 } in
    let g0 = good_known text binary text_carries left ids.statistics_max fs s0.0 all s0.1 in
    let g1 = good_known text binary text_carries left ids.statistics_min fs s1.0 all s1.1 in
    let g2 = good_known int64 i64 int64_carries left ids.statistics_null_count fs s2.0 all s2.1 in
    let g3 = good_known int64 i64 int64_carries left ids.statistics_distinct_count fs s3.0 all s3.1 in
    let g4 = good_known text binary text_carries left ids.statistics_max_value fs s4.0 all s4.1 in
    let g5 = good_known text binary text_carries left ids.statistics_min_value fs s5.0 all s5.1 in
    let g6 = good_known boolean truth boolean_carries left ids.statistics_is_max_value_exact fs s6.0 all s6.1 in
    let g7 = good_known boolean truth boolean_carries left ids.statistics_is_min_value_exact fs s7.0 all s7.1 in
    subst (λ (y : Statistics). GoodFields left (statistics_fields y)) (some_same own x s7.2) (good_table left (statistics_table own) refl refl refl (g0, (g1, (g2, (g3, (g4, (g5, (g6, (g7, tt)))))))))

column_meta_good : (fs : Fields) (x : ColumnMeta) (left : ℕ) → column_meta fs ≡ Some x → AllGood left fs → GoodFields left (column_meta_fields x)
column_meta_good fs x left e all =
    let s0 = bind_some (needed int32 ids.column_kind fs) _ x e in
    let s1 = bind_some (known (list_by int32) ids.column_encodings fs) _ x s0.2 in
    let s2 = bind_some (needed (list_by text) ids.column_path_in_schema fs) _ x s1.2 in
    let s3 = bind_some (needed int32 ids.column_codec fs) _ x s2.2 in
    let s4 = bind_some (needed int64 ids.column_num_values fs) _ x s3.2 in
    let s5 = bind_some (known int64 ids.column_total_uncompressed_size fs) _ x s4.2 in
    let s6 = bind_some (known int64 ids.column_total_compressed_size fs) _ x s5.2 in
    let s7 = bind_some (needed int64 ids.column_data_page_offset fs) _ x s6.2 in
    let s8 = bind_some (known int64 ids.column_dictionary_page_offset fs) _ x s7.2 in
    let s9 = bind_some (known (record_by statistics) ids.column_statistics fs) _ x s8.2 in
    let own : ColumnMeta = record { kind = s0.0; encodings = s1.0; path_in_schema = s2.0; codec = s3.0; num_values = s4.0; total_uncompressed_size = s5.0; total_compressed_size = s6.0; data_page_offset = s7.0; dictionary_page_offset = s8.0; statistics = s9.0 } in
    let g0 = good_needed int32 i32 int32_carries left ids.column_kind fs s0.0 all s0.1 in
    let g1 = good_known (list_by int32) (many INT32 i32) (list_carries int32 i32 INT32 (omega arith) int32_carries (λ _. refl)) left ids.column_encodings fs s1.0 all s1.1 in
    let g2 = good_needed (list_by text) (many BINARY binary) (list_carries text binary BINARY (omega arith) text_carries (λ _. refl)) left ids.column_path_in_schema fs s2.0 all s2.1 in
    let g3 = good_needed int32 i32 int32_carries left ids.column_codec fs s3.0 all s3.1 in
    let g4 = good_needed int64 i64 int64_carries left ids.column_num_values fs s4.0 all s4.1 in
    let g5 = good_known int64 i64 int64_carries left ids.column_total_uncompressed_size fs s5.0 all s5.1 in
    let g6 = good_known int64 i64 int64_carries left ids.column_total_compressed_size fs s6.0 all s6.1 in
    let g7 = good_needed int64 i64 int64_carries left ids.column_data_page_offset fs s7.0 all s7.1 in
    let g8 = good_known int64 i64 int64_carries left ids.column_dictionary_page_offset fs s8.0 all s8.1 in
    let g9 = good_known (record_by statistics) (record_as statistics_fields) (record_carries statistics statistics_fields statistics_good) left ids.column_statistics fs s9.0 all s9.1 in
    subst (λ (y : ColumnMeta). GoodFields left (column_meta_fields y)) (some_same own x s9.2) (good_table left (column_meta_table own) refl refl refl (g0, (g1, (g2, (g3, (g4, (g5, (g6, (g7, (g8, (g9, tt)))))))))))

chunk_meta_good : (fs : Fields) (x : ChunkMeta) (left : ℕ) → chunk_meta fs ≡ Some x → AllGood left fs → GoodFields left (chunk_meta_fields x)
chunk_meta_good fs x left e all =
    let s0 = bind_some (known text ids.chunk_file_path fs) _ x e in
    let s1 = bind_some (known int64 ids.chunk_file_offset fs) _ x s0.2 in
    let s2 = bind_some (needed (record_by column_meta) ids.chunk_meta_data fs) _ x s1.2 in
    let own : ChunkMeta = record { file_path = s0.0; file_offset = s1.0; meta_data = s2.0 } in
    let g0 = good_known text binary text_carries left ids.chunk_file_path fs s0.0 all s0.1 in
    let g1 = good_known int64 i64 int64_carries left ids.chunk_file_offset fs s1.0 all s1.1 in
    let g2 = good_needed (record_by column_meta) (record_as column_meta_fields) (record_carries column_meta column_meta_fields column_meta_good) left ids.chunk_meta_data fs s2.0 all s2.1 in
    subst (λ (y : ChunkMeta). GoodFields left (chunk_meta_fields y)) (some_same own x s2.2) (good_table left (chunk_meta_table own) refl refl refl (g0, (g1, (g2, tt))))

group_meta_good : (fs : Fields) (x : GroupMeta) (left : ℕ) → group_meta fs ≡ Some x → AllGood left fs → GoodFields left (group_meta_fields x)
group_meta_good fs x left e all =
    let s0 = bind_some (needed (list_by (record_by chunk_meta)) ids.group_columns fs) _ x e in
    let s1 = bind_some (known int64 ids.group_total_byte_size fs) _ x s0.2 in
    let s2 = bind_some (needed int64 ids.group_num_rows fs) _ x s1.2 in
    let own : GroupMeta = record { columns = s0.0; total_byte_size = s1.0; num_rows = s2.0 } in
    let g0 = good_needed (list_by (record_by chunk_meta)) (many STRUCT (record_as chunk_meta_fields)) (list_carries (record_by chunk_meta) (record_as chunk_meta_fields) STRUCT (omega arith) (record_carries chunk_meta chunk_meta_fields chunk_meta_good) (λ _. refl)) left ids.group_columns fs s0.0 all s0.1 in
    let g1 = good_known int64 i64 int64_carries left ids.group_total_byte_size fs s1.0 all s1.1 in
    let g2 = good_needed int64 i64 int64_carries left ids.group_num_rows fs s2.0 all s2.1 in
    subst (λ (y : GroupMeta). GoodFields left (group_meta_fields y)) (some_same own x s2.2) (good_table left (group_meta_table own) refl refl refl (g0, (g1, (g2, tt))))

element_good : (fs : Fields) (x : Element) (left : ℕ) → element fs ≡ Some x → AllGood left fs → GoodFields left (element_fields x)
element_good fs x left e all =
    let s0 = bind_some (known int32 ids.element_kind fs) _ x e in
    let s1 = bind_some (known int32 ids.element_type_length fs) _ x s0.2 in
    let s2 = bind_some (known int32 ids.element_repetition_type fs) _ x s1.2 in
    let s3 = bind_some (needed text ids.element_name fs) _ x s2.2 in
    let s4 = bind_some (known int32 ids.element_num_children fs) _ x s3.2 in
    let s5 = bind_some (known int32 ids.element_converted_type fs) _ x s4.2 in
    let s6 = bind_some (known int32 ids.element_scale fs) _ x s5.2 in
    let s7 = bind_some (known int32 ids.element_precision fs) _ x s6.2 in
    let s8 = bind_some (known int32 ids.element_field_id fs) _ x s7.2 in
    let s9 = bind_some (known tree ids.element_logical_type fs) _ x s8.2 in
    let own : Element = record { kind = s0.0; type_length = s1.0; repetition_type = s2.0; name = s3.0; num_children = s4.0; converted_type = s5.0; scale = s6.0; precision = s7.0; field_id = s8.0; logical_type = s9.0 } in
    let g0 = good_known int32 i32 int32_carries left ids.element_kind fs s0.0 all s0.1 in
    let g1 = good_known int32 i32 int32_carries left ids.element_type_length fs s1.0 all s1.1 in
    let g2 = good_known int32 i32 int32_carries left ids.element_repetition_type fs s2.0 all s2.1 in
    let g3 = good_needed text binary text_carries left ids.element_name fs s3.0 all s3.1 in
    let g4 = good_known int32 i32 int32_carries left ids.element_num_children fs s4.0 all s4.1 in
    let g5 = good_known int32 i32 int32_carries left ids.element_converted_type fs s5.0 all s5.1 in
    let g6 = good_known int32 i32 int32_carries left ids.element_scale fs s6.0 all s6.1 in
    let g7 = good_known int32 i32 int32_carries left ids.element_precision fs s7.0 all s7.1 in
    let g8 = good_known int32 i32 int32_carries left ids.element_field_id fs s8.0 all s8.1 in
    let g9 = good_known tree struct tree_carries left ids.element_logical_type fs s9.0 all s9.1 in
    subst (λ (y : Element). GoodFields left (element_fields y)) (some_same own x s9.2) (good_table left (element_table own) refl refl refl (g0, (g1, (g2, (g3, (g4, (g5, (g6, (g7, (g8, (g9, tt)))))))))))

good_empty : (x : Node) (v : Unit {0}) (left : ℕ) → any_struct x ≡ Some v → Good left x → Good left (struct no_fields)
good_empty (struct fs) v left e good = let deep = good.shallow in record { shallow = omega (arith, deep); text = byte_text 0 }
good_empty _ v left e good = absurd (cc)

empty_carries : Carries any_struct (λ _. struct no_fields)
empty_carries = record { some = λ _. omega arith; few = λ _. omega arith; good = good_empty }

good_order : (found : Option (Unit {0})) (left : ℕ) → GoodValue left (option_map (λ _. struct no_fields) found) → GoodFields left (column_order_fields (if is_some found then type_order else other_order))
good_order (Some x) left good = good_table left ((ids.order_type_order, Some (struct no_fields)) ∷ []) refl refl refl (good, tt)
good_order None left good = record { shallow = omega arith; text = byte_text 0 }

column_order_good : (fs : Fields) (x : ColumnOrder) (left : ℕ) → column_order fs ≡ Some x → AllGood left fs → GoodFields left (column_order_fields x)
column_order_good fs x left e all =
    let found = bind_some (known any_struct ids.order_type_order fs) (λ o. Some (if is_some o then type_order else other_order)) x e in
    let good = good_known any_struct (λ _. struct no_fields) empty_carries left ids.order_type_order fs found.0 all found.1 in
    subst (λ (o : ColumnOrder). GoodFields left (column_order_fields o)) (some_same (if is_some found.0 then type_order else other_order) x found.2) (good_order found.0 left good)

pub file_meta_good : (fs : Fields) (x : FileMeta) (left : ℕ) → file_meta fs ≡ Some x → AllGood left fs → GoodFields left (file_meta_fields x)
file_meta_good fs x left e all =
    let s0 = bind_some (known int32 ids.file_version fs) _ x e in
    let s1 = bind_some (needed (list_by (record_by element)) ids.file_schema fs) _ x s0.2 in
    let s2 = bind_some (known int64 ids.file_num_rows fs) _ x s1.2 in
    let s3 = bind_some (needed (list_by (record_by group_meta)) ids.file_row_groups fs) _ x s2.2 in
    let s4 = bind_some (known (list_by (record_by key_value)) ids.file_key_value_metadata fs) _ x s3.2 in
    let s5 = bind_some (known text ids.file_created_by fs) _ x s4.2 in
    let s6 = bind_some (known (list_by (record_by column_order)) ids.file_column_orders fs) _ x s5.2 in
    let own : FileMeta = record { version = s0.0; schema = s1.0; num_rows = s2.0; row_groups = s3.0; key_value_metadata = s4.0; created_by = s5.0; column_orders = s6.0 } in
    let g0 = good_known int32 i32 int32_carries left ids.file_version fs s0.0 all s0.1 in
    let g1 = good_needed (list_by (record_by element)) (many STRUCT (record_as element_fields)) (list_carries (record_by element) (record_as element_fields) STRUCT (omega arith) (record_carries element element_fields element_good) (λ _. refl)) left ids.file_schema fs s1.0 all s1.1 in
    let g2 = good_known int64 i64 int64_carries left ids.file_num_rows fs s2.0 all s2.1 in
    let g3 = good_needed (list_by (record_by group_meta)) (many STRUCT (record_as group_meta_fields)) (list_carries (record_by group_meta) (record_as group_meta_fields) STRUCT (omega arith) (record_carries group_meta group_meta_fields group_meta_good) (λ _. refl)) left ids.file_row_groups fs s3.0 all s3.1 in
    let g4 = good_known (list_by (record_by key_value)) (many STRUCT (record_as key_value_fields)) (list_carries (record_by key_value) (record_as key_value_fields) STRUCT (omega arith) (record_carries key_value key_value_fields key_value_good) (λ _. refl)) left ids.file_key_value_metadata fs s4.0 all s4.1 in
    let g5 = good_known text binary text_carries left ids.file_created_by fs s5.0 all s5.1 in
    let g6 = good_known (list_by (record_by column_order)) (many STRUCT (record_as column_order_fields)) (list_carries (record_by column_order) (record_as column_order_fields) STRUCT (omega arith) (record_carries column_order column_order_fields column_order_good) (λ _. refl)) left ids.file_column_orders fs s6.0 all s6.1 in
    subst (λ (y : FileMeta). GoodFields left (file_meta_fields y)) (some_same own x s6.2) (good_table left (file_meta_table own) refl refl refl (g0, (g1, (g2, (g3, (g4, (g5, (g6, tt))))))))

data_page_header_good : (fs : Fields) (x : DataPageHeader) (left : ℕ) → data_page_header fs ≡ Some x → AllGood left fs → GoodFields left (data_page_header_fields x)
data_page_header_good fs x left e all =
    let s0 = bind_some (needed int32 ids.data_num_values fs) _ x e in
    let s1 = bind_some (needed int32 ids.data_encoding fs) _ x s0.2 in
    let s2 = bind_some (known int32 ids.data_definition_level_encoding fs) _ x s1.2 in
    let s3 = bind_some (known int32 ids.data_repetition_level_encoding fs) _ x s2.2 in
    let s4 = bind_some (known (record_by statistics) ids.data_statistics fs) _ x s3.2 in
    let own : DataPageHeader = record { num_values = s0.0; encoding = s1.0; definition_level_encoding = s2.0; repetition_level_encoding = s3.0; statistics = s4.0 } in
    let g0 = good_needed int32 i32 int32_carries left ids.data_num_values fs s0.0 all s0.1 in
    let g1 = good_needed int32 i32 int32_carries left ids.data_encoding fs s1.0 all s1.1 in
    let g2 = good_known int32 i32 int32_carries left ids.data_definition_level_encoding fs s2.0 all s2.1 in
    let g3 = good_known int32 i32 int32_carries left ids.data_repetition_level_encoding fs s3.0 all s3.1 in
    let g4 = good_known (record_by statistics) (record_as statistics_fields) (record_carries statistics statistics_fields statistics_good) left ids.data_statistics fs s4.0 all s4.1 in
    subst (λ (y : DataPageHeader). GoodFields left (data_page_header_fields y)) (some_same own x s4.2) (good_table left (data_page_header_table own) refl refl refl (g0, (g1, (g2, (g3, (g4, tt))))))

dictionary_page_header_good : (fs : Fields) (x : DictionaryPageHeader) (left : ℕ) → dictionary_page_header fs ≡ Some x → AllGood left fs → GoodFields left (dictionary_page_header_fields x)
dictionary_page_header_good fs x left e all =
    let s0 = bind_some (needed int32 ids.dictionary_num_values fs) _ x e in
    let s1 = bind_some (needed int32 ids.dictionary_encoding fs) _ x s0.2 in
    let s2 = bind_some (known boolean ids.dictionary_is_sorted fs) _ x s1.2 in
    let own : DictionaryPageHeader = record { num_values = s0.0; encoding = s1.0; is_sorted = s2.0 } in
    let g0 = good_needed int32 i32 int32_carries left ids.dictionary_num_values fs s0.0 all s0.1 in
    let g1 = good_needed int32 i32 int32_carries left ids.dictionary_encoding fs s1.0 all s1.1 in
    let g2 = good_known boolean truth boolean_carries left ids.dictionary_is_sorted fs s2.0 all s2.1 in
    subst (λ (y : DictionaryPageHeader). GoodFields left (dictionary_page_header_fields y)) (some_same own x s2.2) (good_table left (dictionary_page_header_table own) refl refl refl (g0, (g1, (g2, tt))))

data_page_header_v2_good : (fs : Fields) (x : DataPageHeaderV2) (left : ℕ) → data_page_header_v2 fs ≡ Some x → AllGood left fs → GoodFields left (data_page_header_v2_fields x)
data_page_header_v2_good fs x left e all =
    let s0 = bind_some (needed int32 ids.data_v2_num_values fs) _ x e in
    let s1 = bind_some (known int32 ids.data_v2_num_nulls fs) _ x s0.2 in
    let s2 = bind_some (known int32 ids.data_v2_num_rows fs) _ x s1.2 in
    let s3 = bind_some (needed int32 ids.data_v2_encoding fs) _ x s2.2 in
    let s4 = bind_some (needed int32 ids.data_v2_definition_levels_byte_length fs) _ x s3.2 in
    let s5 = bind_some (needed int32 ids.data_v2_repetition_levels_byte_length fs) _ x s4.2 in
    let s6 = bind_some (known boolean ids.data_v2_is_compressed fs) _ x s5.2 in
    let s7 = bind_some (known (record_by statistics) ids.data_v2_statistics fs) _ x s6.2 in
    let own : DataPageHeaderV2 = record { num_values = s0.0; num_nulls = s1.0; num_rows = s2.0; encoding = s3.0; definition_levels_byte_length = s4.0; repetition_levels_byte_length = s5.0; is_compressed = s6.0; statistics = s7.0 } in
    let g0 = good_needed int32 i32 int32_carries left ids.data_v2_num_values fs s0.0 all s0.1 in
    let g1 = good_known int32 i32 int32_carries left ids.data_v2_num_nulls fs s1.0 all s1.1 in
    let g2 = good_known int32 i32 int32_carries left ids.data_v2_num_rows fs s2.0 all s2.1 in
    let g3 = good_needed int32 i32 int32_carries left ids.data_v2_encoding fs s3.0 all s3.1 in
    let g4 = good_needed int32 i32 int32_carries left ids.data_v2_definition_levels_byte_length fs s4.0 all s4.1 in
    let g5 = good_needed int32 i32 int32_carries left ids.data_v2_repetition_levels_byte_length fs s5.0 all s5.1 in
    let g6 = good_known boolean truth boolean_carries left ids.data_v2_is_compressed fs s6.0 all s6.1 in
    let g7 = good_known (record_by statistics) (record_as statistics_fields) (record_carries statistics statistics_fields statistics_good) left ids.data_v2_statistics fs s7.0 all s7.1 in
    subst (λ (y : DataPageHeaderV2). GoodFields left (data_page_header_v2_fields y)) (some_same own x s7.2) (good_table left (data_page_header_v2_table own) refl refl refl (g0, (g1, (g2, (g3, (g4, (g5, (g6, (g7, tt)))))))))

pub page_header_good : (fs : Fields) (x : PageHeader) (left : ℕ) → any_page_header fs ≡ Some x → AllGood left fs → GoodFields left (page_header_fields x)
page_header_good fs x left e all =
    let s0 = bind_some (needed int32 ids.page_kind fs) _ x e in
    let s1 = bind_some (known int32 ids.page_uncompressed_page_size fs) _ x s0.2 in
    let s2 = bind_some (needed int32 ids.page_compressed_page_size fs) _ x s1.2 in
    let s3 = bind_some (known int32 ids.page_crc fs) _ x s2.2 in
    let s4 = bind_some (known (record_by data_page_header) ids.page_data_page_header fs) _ x s3.2 in
    let s5 = bind_some (known (record_by dictionary_page_header) ids.page_dictionary_page_header fs) _ x s4.2 in
    let s6 = bind_some (known (record_by data_page_header_v2) ids.page_data_page_header_v2 fs) _ x s5.2 in
    let own : PageHeader = record { kind = s0.0; uncompressed_page_size = s1.0; compressed_page_size = s2.0; crc = s3.0; data_page_header = s4.0; dictionary_page_header = s5.0; data_page_header_v2 = s6.0 } in
    let g0 = good_needed int32 i32 int32_carries left ids.page_kind fs s0.0 all s0.1 in
    let g1 = good_known int32 i32 int32_carries left ids.page_uncompressed_page_size fs s1.0 all s1.1 in
    let g2 = good_needed int32 i32 int32_carries left ids.page_compressed_page_size fs s2.0 all s2.1 in
    let g3 = good_known int32 i32 int32_carries left ids.page_crc fs s3.0 all s3.1 in
    let g4 = good_known (record_by data_page_header) (record_as data_page_header_fields) (record_carries data_page_header data_page_header_fields data_page_header_good) left ids.page_data_page_header fs s4.0 all s4.1 in
    let g5 = good_known (record_by dictionary_page_header) (record_as dictionary_page_header_fields) (record_carries dictionary_page_header dictionary_page_header_fields dictionary_page_header_good) left ids.page_dictionary_page_header fs s5.0 all s5.1 in
    let g6 = good_known (record_by data_page_header_v2) (record_as data_page_header_v2_fields) (record_carries data_page_header_v2 data_page_header_v2_fields data_page_header_v2_good) left ids.page_data_page_header_v2 fs s6.0 all s6.1 in
    subst (λ (y : PageHeader). GoodFields left (page_header_fields y)) (some_same own x s6.2) (good_table left (page_header_table own) refl refl refl (g0, (g1, (g2, (g3, (g4, (g5, (g6, tt))))))))

-- where bytes are this record, its own struct has bytes
pub footer_has_bytes : (bytes : List ℕ) (m : FileMeta) (used : ℕ) → StandsFor file_meta bytes m used → (text : List ℕ) × IsThrift (text ++ []) (file_meta_fields m) (length text)
footer_has_bytes bytes m used s =
    let good = file_meta_good s.fields m 32 s.record_of (all_good s.fields (pos 0) bytes used 32 s.spelled.spelled s.spelled.shallow) in
    (good.text.text, record { spelled = good.text.stands []; shallow = good.shallow })

own_if : (b : Bool) (h m : PageHeader) → has_own_header h ≡ b → (if b then Some h else None) ≡ Some m → (has_own_header m ≡ true) × (h ≡ m)
own_if true h m own e = let same = some_same h m e in (subst (λ (x : PageHeader). has_own_header x ≡ true) same own, same)
own_if false h m own e = absurd (cc)

-- a page header is there with the header that its type names
pub has_own : (fs : Fields) (m : PageHeader) → page_header fs ≡ Some m → (has_own_header m ≡ true) × (any_page_header fs ≡ Some m)
has_own fs m e =
    let any = bind_some (any_page_header fs) (λ h. if has_own_header h then Some h else None) m e in
    let own = own_if (has_own_header any.0) any.0 m refl any.2 in
    (own.0, any.1 ∙ ap Some own.1)

pub header_has_bytes : (bytes : List ℕ) (m : PageHeader) (used : ℕ) → StandsFor page_header bytes m used → (text : List ℕ) × IsThrift (text ++ []) (page_header_fields m) (length text)
header_has_bytes bytes m used s =
    let good = page_header_good s.fields m 32 (has_own s.fields m s.record_of).1 (all_good s.fields (pos 0) bytes used 32 s.spelled.spelled s.spelled.shallow) in
    (good.text.text, record { spelled = good.text.stands []; shallow = good.shallow })
