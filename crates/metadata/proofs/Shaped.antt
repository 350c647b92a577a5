-- The structs of records have the shape of what can be written.
use Rattle.std.proofs.Common.{◌≡◌, refl, ℕ, ℤ, List, [], ◌∷◌, ◌++◌, map, Option, Some, None, Bool, true, false, ◌&&◌, Result, Ok, Err}
use Rattle.std.specs.Prelude.{IsTrue, IfSome, option_map}
use Rattle.std.specs.List.{AllByRecursion}
use Rattle.lists.proofs.Booleans.{not_true_and_false as not_shapeless}
use Rattle.bits.specs.declared.refusal.Refusal.{Refusal}
use Rattle.bits.specs.declared.refusal.Refusal.TheVariants.{Thrift, Memory}
use Rattle.bits.specs.Refusals.{HasCause, RefusedOnly, RefusedMemoryOnly}
use Rattle.thrift_compact.specs.Tree.{Node, i32, i64, binary, struct, Fields}
use Rattle.thrift_compact.specs.View.{nodes_of, fields_of}
use Rattle.thrift_compact.specs.Shapes.{StructsWithBytesHaveTheShape, is_of_type, is_member, has_shape, each_has_shape, fields_have_shape, IsShapeless}
use Rattle.schema.specs.Elements.{Element}
use Rattle.metadata.specs.Records.{KeyValue, Statistics, ColumnMeta, ChunkMeta, GroupMeta, ColumnOrder, type_order, other_order, FileMeta, DataPageHeader, DictionaryPageHeader, DataPageHeaderV2, PageHeader}
use Rattle.metadata.specs.Ids as ids
use Rattle.metadata.specs.Begun.{fields_before, fields_after, group_rest}
use Rattle.metadata.specs.ToTree.{Entry, there, given, present, present_of, written, truth, many, record_as, STRUCT, key_value_table, key_value_fields, statistics_table, statistics_fields, column_meta_table, column_meta_fields, chunk_meta_table, chunk_meta_fields, group_meta_table, group_meta_fields, column_order_fields, element_table, element_fields, file_meta_table, file_meta_fields, data_page_header_table, data_page_header_fields, dictionary_page_header_table, dictionary_page_header_fields, data_page_header_v2_table, data_page_header_v2_fields, page_header_table, page_header_fields}
use Rattle.schema.specs.Law.{IsWritable}
use Rattle.metadata.specs.Kept.{KeepsWritten}

-- it has the shape of one that is written there
abbrev pub KeepsShape : Element → Type 0
KeepsShape e = IfSome e.logical_type (λ s. IsTrue (fields_have_shape 29 s))

abbrev pub EachKeepsShape : FileMeta → Type 0
EachKeepsShape m = AllByRecursion KeepsShape m.schema

both : (a b : Bool) → IsTrue a → IsTrue b → IsTrue (a && b)
both true b p q = q
both false b p q = p

-- a value that a field may have
abbrev Fits : ℕ → Node → Type 0
Fits deep x = IsTrue (is_member x && has_shape deep x)

-- where it is there
abbrev FitsEntry : ℕ → Entry → Type 0
FitsEntry deep e = IfSome e.1 (Fits deep)

abbrev FitEach : ℕ → List Entry → Type 0
FitEach deep es = AllByRecursion (FitsEntry deep) es

present_fits : (deep : ℕ) (id : ℤ) (o : Option Node) (rest : List (ℤ × Node)) → IfSome o (Fits deep) → IsTrue (fields_have_shape deep (fields_of rest)) → IsTrue (fields_have_shape deep (fields_of (present id o ++ rest)))
present_fits deep id None rest p q = q
present_fits deep id (Some x) rest p q = both (is_member x && has_shape deep x) (fields_have_shape deep (fields_of rest)) p q

table_fits : (deep : ℕ) (es : List Entry) → FitEach deep es → IsTrue (fields_have_shape deep (written es))
table_fits deep [] p = refl
table_fits deep (e ∷ es) p = present_fits deep e.0 e.1 (present_of es) p.0 (table_fits deep es p.1)

given_fits : {X : Type 0} (deep : ℕ) (write : X → Node) (o : Option X) → ((x : X) → Fits deep (write x)) → IfSome (option_map write o) (Fits deep)
given_fits deep write None each = tt
given_fits deep write (Some x) each = each x

-- the elements of a list
each_fits : {X : Type 0} (P : X → Type 0) (deep code : ℕ) (write : X → Node) (xs : List X) → ((x : X) → P x → IsTrue (is_of_type code (write x) && has_shape deep (write x))) → AllByRecursion P xs
    → IsTrue (each_has_shape deep code (nodes_of (map write xs)))
each_fits P deep code write [] each p = refl
each_fits P deep code write (x ∷ xs) each p =
    both (is_of_type code (write x) && has_shape deep (write x)) (each_has_shape deep code (nodes_of (map write xs))) (each x p.0) (each_fits P deep code write xs each p.1)

any_of : {X : Type 0} (xs : List X) → AllByRecursion (λ x. Unit {0}) xs
any_of [] = tt
any_of (x ∷ xs) = (tt, any_of xs)

all_fit : {X : Type 0} (deep code : ℕ) (write : X → Node) → ((x : X) → IsTrue (is_of_type code (write x) && has_shape deep (write x))) → (xs : List X) → IsTrue (each_has_shape deep code (nodes_of (map write xs)))
all_fit deep code write each xs = each_fits (λ x. Unit {0}) deep code write xs (λ x u. each x) (any_of xs)

truth_fits : (deep : ℕ) (b : Bool) → Fits deep (truth b)
truth_fits deep true = refl
truth_fits deep false = refl

i32_fits : (deep : ℕ) (o : Option ℤ) → IfSome (option_map i32 o) (Fits deep)
i32_fits deep o = given_fits deep i32 o (λ z. refl)

i64_fits : (deep : ℕ) (o : Option ℤ) → IfSome (option_map i64 o) (Fits deep)
i64_fits deep o = given_fits deep i64 o (λ z. refl)

binary_fits : (deep : ℕ) (o : Option (List ℕ)) → IfSome (option_map binary o) (Fits deep)
binary_fits deep o = given_fits deep binary o (λ text. refl)

statistics_fit : (deep : ℕ) (x : Statistics) → IsTrue (fields_have_shape deep (statistics_fields x))
statistics_fit deep x = table_fits deep (statistics_table x)
    (binary_fits deep x.max, (binary_fits deep x.min, (i64_fits deep x.null_count, (i64_fits deep x.distinct_count, (binary_fits deep x.max_value, (binary_fits deep x.min_value, (given_fits deep truth x.is_max_value_exact (truth_fits deep), (given_fits deep truth x.is_min_value_exact (truth_fits deep), tt))))))))

column_fits : (x : ColumnMeta) → IsTrue (fields_have_shape 27 (column_meta_fields x))
column_fits x = table_fits 27 (column_meta_table x)
    (refl, (given_fits 27 (many 5 i32) x.encodings (λ zs. all_fit 26 5 i32 (λ z. refl) zs), (all_fit 26 8 binary (λ text. refl) x.path_in_schema, (refl, (refl, (i64_fits 27 x.total_uncompressed_size, (i64_fits 27 x.total_compressed_size, (refl, (i64_fits 27 x.dictionary_page_offset, (given_fits 27 (record_as statistics_fields) x.statistics (statistics_fit 26), tt))))))))))

pub chunk_fits : (x : ChunkMeta) → IsTrue (fields_have_shape 28 (chunk_meta_fields x))
chunk_fits x = table_fits 28 (chunk_meta_table x) (binary_fits 28 x.file_path, (i64_fits 28 x.file_offset, (column_fits x.meta_data, tt)))

pub group_fits : (x : GroupMeta) → IsTrue (fields_have_shape 30 (group_meta_fields x))
group_fits x = table_fits 30 (group_meta_table x) (all_fit 29 STRUCT (record_as chunk_meta_fields) chunk_fits x.columns, (i64_fits 30 x.total_byte_size, (refl, tt)))

-- a chunk's struct by itself
column_fits_alone : (x : ColumnMeta) → IsTrue (fields_have_shape 31 (column_meta_fields x))
column_fits_alone x = table_fits 31 (column_meta_table x)
    (refl, (given_fits 31 (many 5 i32) x.encodings (λ zs. all_fit 30 5 i32 (λ z. refl) zs), (all_fit 30 8 binary (λ text. refl) x.path_in_schema, (refl, (refl, (i64_fits 31 x.total_uncompressed_size, (i64_fits 31 x.total_compressed_size, (refl, (i64_fits 31 x.dictionary_page_offset, (given_fits 31 (record_as statistics_fields) x.statistics (statistics_fit 30), tt))))))))))

pub chunk_fits_alone : (x : ChunkMeta) → IsTrue (fields_have_shape 32 (chunk_meta_fields x))
chunk_fits_alone x = table_fits 32 (chunk_meta_table x) (binary_fits 32 x.file_path, (i64_fits 32 x.file_offset, (column_fits_alone x.meta_data, tt)))

kept_fits : (s : Option Fields) → IfSome s (λ s. IsTrue (fields_have_shape 29 s)) → IfSome (option_map struct s) (Fits 30)
kept_fits None p = tt
kept_fits (Some s) p = p

element_fits : (x : Element) → KeepsShape x → IsTrue (fields_have_shape 30 (element_fields x))
element_fits x p = table_fits 30 (element_table x)
    (i32_fits 30 x.kind, (i32_fits 30 x.type_length, (i32_fits 30 x.repetition_type, (refl, (i32_fits 30 x.num_children, (i32_fits 30 x.converted_type, (i32_fits 30 x.scale, (i32_fits 30 x.precision, (i32_fits 30 x.field_id, (kept_fits x.logical_type p, tt))))))))))

pair_fits : (x : KeyValue) → IsTrue (fields_have_shape 30 (key_value_fields x))
pair_fits x = table_fits 30 (key_value_table x) (refl, (binary_fits 30 x.value, tt))

order_fits : (x : ColumnOrder) → IsTrue (fields_have_shape 30 (column_order_fields x))
order_fits type_order = refl
order_fits other_order = refl

pub footer_fits : (m : FileMeta) → EachKeepsShape m → IsTrue (fields_have_shape 32 (file_meta_fields m))
footer_fits m p = table_fits 32 (file_meta_table m)
    (i32_fits 32 m.version, (each_fits KeepsShape 31 STRUCT (record_as element_fields) m.schema element_fits p, (i64_fits 32 m.num_rows, (all_fit 31 STRUCT (record_as group_meta_fields) group_fits m.row_groups, (given_fits 32 (many STRUCT (record_as key_value_fields)) m.key_value_metadata (all_fit 31 STRUCT (record_as key_value_fields) pair_fits), (binary_fits 32 m.created_by, (given_fits 32 (many STRUCT (record_as column_order_fields)) m.column_orders (all_fit 31 STRUCT (record_as column_order_fields) order_fits), tt)))))))

-- the fields of a footer before its groups, and those after them
pub before_fits : (m : FileMeta) → EachKeepsShape m → IsTrue (fields_have_shape 32 (fields_of (fields_before m)))
before_fits m p = table_fits 32 (given i32 ids.file_version m.version ∷ there (many STRUCT (record_as element_fields)) ids.file_schema m.schema ∷ given i64 ids.file_num_rows m.num_rows ∷ [])
    (i32_fits 32 m.version, (each_fits KeepsShape 31 STRUCT (record_as element_fields) m.schema element_fits p, (i64_fits 32 m.num_rows, tt)))

-- the fields of a group's record behind its chunks
pub group_rest_fits : (size : Option ℤ) (rows : ℤ) → IsTrue (fields_have_shape 32 (fields_of (group_rest size rows)))
group_rest_fits size rows = table_fits 32 (given i64 ids.group_total_byte_size size ∷ there i64 ids.group_num_rows rows ∷ []) (i64_fits 32 size, (refl, tt))

pub after_fits : (m : FileMeta) → IsTrue (fields_have_shape 32 (fields_of (fields_after m)))
after_fits m = table_fits 32 (given (many STRUCT (record_as key_value_fields)) ids.file_key_value_metadata m.key_value_metadata ∷ given binary ids.file_created_by m.created_by ∷ given (many STRUCT (record_as column_order_fields)) ids.file_column_orders m.column_orders ∷ [])
    (given_fits 32 (many STRUCT (record_as key_value_fields)) m.key_value_metadata (all_fit 31 STRUCT (record_as key_value_fields) pair_fits), (binary_fits 32 m.created_by, (given_fits 32 (many STRUCT (record_as column_order_fields)) m.column_orders (all_fit 31 STRUCT (record_as column_order_fields) order_fits), tt)))

data_fits : (x : DataPageHeader) → IsTrue (fields_have_shape 31 (data_page_header_fields x))
data_fits x = table_fits 31 (data_page_header_table x)
    (refl, (refl, (i32_fits 31 x.definition_level_encoding, (i32_fits 31 x.repetition_level_encoding, (given_fits 31 (record_as statistics_fields) x.statistics (statistics_fit 30), tt)))))

dictionary_fits : (x : DictionaryPageHeader) → IsTrue (fields_have_shape 31 (dictionary_page_header_fields x))
dictionary_fits x = table_fits 31 (dictionary_page_header_table x) (refl, (refl, (given_fits 31 truth x.is_sorted (truth_fits 31), tt)))

second_fits : (x : DataPageHeaderV2) → IsTrue (fields_have_shape 31 (data_page_header_v2_fields x))
second_fits x = table_fits 31 (data_page_header_v2_table x)
    (refl, (i32_fits 31 x.num_nulls, (i32_fits 31 x.num_rows, (refl, (refl, (refl, (given_fits 31 truth x.is_compressed (truth_fits 31), (given_fits 31 (record_as statistics_fields) x.statistics (statistics_fit 30), tt))))))))

pub header_fits : (h : PageHeader) → IsTrue (fields_have_shape 32 (page_header_fields h))
header_fits h = table_fits 32 (page_header_table h)
    (refl, (i32_fits 32 h.uncompressed_page_size, (refl, (i32_fits 32 h.crc, (given_fits 32 (record_as data_page_header_fields) h.data_page_header data_fits, (given_fits 32 (record_as dictionary_page_header_fields) h.dictionary_page_header dictionary_fits, (given_fits 32 (record_as data_page_header_v2_fields) h.data_page_header_v2 second_fits, tt)))))))

kept_shape : StructsWithBytesHaveTheShape → (o : Option Fields) → IfSome o IsWritable → IfSome o (λ s. IsTrue (fields_have_shape 29 s))
kept_shape law None p = tt
kept_shape law (Some s) p = law 29 s p.shallow p.bytes

-- what can be written has the shape
pub each_keeps_shape : StructsWithBytesHaveTheShape → (es : List Element) → AllByRecursion KeepsWritten es → AllByRecursion KeepsShape es
each_keeps_shape law [] p = tt
each_keeps_shape law (e ∷ es) p = (kept_shape law e.logical_type p.0, each_keeps_shape law es p.1)

pub because : (b : Bool) (Q : Type 0) (e : Refusal) → (b ≡ false → Q) → HasCause (IsShapeless b) e → HasCause (λ f. (f ≡ Thrift) × Q) e
because b Q Memory gives p = p
because b Q e gives p = (p.0, gives p.1)

pub refused_where : {X : Type 0} (b : Bool) (Q : Type 0) (r : Result X Refusal) → (b ≡ false → Q) → RefusedOnly (IsShapeless b) r → RefusedOnly (λ e. (e ≡ Thrift) × Q) r
refused_where b Q (Ok x) gives p = p
refused_where b Q (Err e) gives p = because b Q e gives p

-- what has the shape is refused for memory only
pub memory_left : (b : Bool) (e : Refusal) → IsTrue b → HasCause (IsShapeless b) e → HasCause (λ f. ⊥) e
memory_left b Memory fits p = p
memory_left b e fits p = not_shapeless b fits p.1

pub memory_only : {X : Type 0} (b : Bool) (r : Result X Refusal) → IsTrue b → RefusedOnly (IsShapeless b) r → RefusedMemoryOnly r
memory_only b (Ok x) fits p = p
memory_only b (Err e) fits p = memory_left b e fits p
