-- What the struct of a record takes at most, by its weight.
use Rattle.std.proofs.Common.{◌≡◌, refl, ℕ, ◌+◌, ◌*◌, ◌^◌, ◌<◌, ◌≤◌, ℤ, pos, ◌-ℤ◌, List, [], ◌∷◌, length, map, Option, Some, None, Bool, true, false, ◌&&◌, arith, lit<}
use Rattle.std.specs.Prelude.{IfSome, All, sum_by, nat_le, codes}
use Rattle.std.proofs.lemmas.Bool.{and_parts}
use Rattle.std.proofs.lemmas.List.Sums.{sum_by-cons}
use Rattle.std.proofs.lemmas.List.Elements.{All-head, All-tail}
use Rattle.lists.proofs.Numbers.{if_at_most}
use Rattle.bits.specs.Varint.{zigzag_of}
use Rattle.thrift_compact.specs.Tree.{Node, i32, i64, binary, struct, Fields, count}
use Rattle.thrift_compact.specs.View.{nodes_of}
use Rattle.thrift_compact.specs.Length.{size_length, size_list_head, is_step, size_value, size_elements, size_fields, size_struct}
use Rattle.thrift_compact.proofs.Sizes.{size_at_most, size_below}
use Rattle.metadata.specs.Ids as ids
use Rattle.metadata.specs.ToTree.{Entry, given, written, truth, many, record_as, INT32, BINARY, STRUCT, key_value_table, key_value_fields, statistics_table, statistics_fields, column_meta_table, column_meta_fields, chunk_meta_table, chunk_meta_fields, group_meta_table, group_meta_fields, column_order_fields, element_table, element_fields, file_meta_table, file_meta_fields}
use Rattle.metadata.specs.Records.{KeyValue, Statistics, ColumnMeta, ChunkMeta, GroupMeta, ColumnOrder, type_order, other_order, FileMeta}
use Rattle.metadata.specs.Weight.{text_weight, kept_weight, element_weight, chunk_weight, group_weight, key_weight, footer_weight, AreOwnStatistics, IsOwnColumn, AreOwnPairs, IsOfTheWriter}
use Rattle.schema.specs.Elements.{Element}

-- each of the ids is a step behind this one
abbrev pub steps_from : ℤ → List Entry → Bool
steps_from previous [] = true
steps_from previous (e ∷ es) = is_step (e.0 -ℤ previous) && steps_from previous es

-- and behind those before it
abbrev pub steps : List Entry → Bool
steps [] = true
steps (e ∷ es) = steps_from e.0 es && steps es

abbrev pub size_entry : Entry → ℕ
size_entry (id, Some x) = 1 + size_value x
size_entry (id, None) = 0

abbrev pub size_entries : List Entry → ℕ
size_entries [] = 0
size_entries (e ∷ es) = size_entry e + size_entries es

-- with steps between them each header of a field is a byte
pub size_written : (previous : ℤ) (es : List Entry) → steps_from previous es ≡ true → steps es ≡ true → size_fields (written es) previous ≤ 1 + size_entries es
size_written previous [] h g = omega arith
size_written previous ((id, None) ∷ es) h g =
    let hs = and_parts (is_step (id -ℤ previous)) (steps_from previous es) h in
    let gs = and_parts (steps_from id es) (steps es) g in
    let rest = size_written previous es hs.1 gs.1 in
    omega (arith, rest)
size_written previous ((id, Some x) ∷ es) h g =
    let hs = and_parts (is_step (id -ℤ previous)) (steps_from previous es) h in
    let gs = and_parts (steps_from id es) (steps es) g in
    let rest = size_written id es gs.0 gs.1 in
    rw hs.0 (omega (arith, rest))

-- a field, by what its value takes at most
size_given : {X : Type 0} (write : X → Node) (most : ℕ) → ((x : X) → size_value (write x) ≤ most) → (id : ℤ) (o : Option X) → size_entry (given write id o) ≤ 1 + most
size_given write most h id None = omega arith
size_given write most h id (Some x) = let one = h x in omega (arith, one)

size_given_where : {X : Type 0} (P : X → Type 0) (write : X → Node) (most : ℕ) → ((x : X) → P x → size_value (write x) ≤ most) → (id : ℤ) (o : Option X) → IfSome o P → size_entry (given write id o) ≤ 1 + most
size_given_where P write most h id None p = omega arith
size_given_where P write most h id (Some x) p = let one = h x p in omega (arith, one)

-- numbers, by the greatest varint of their type
int32_at_most : (z : ℤ) → size_value (i32 z) ≤ 5
int32_at_most z = size_at_most 5 (zigzag_of z) (omega arith)

int64_at_most : (z : ℤ) → size_value (i64 z) ≤ 10
int64_at_most z = size_at_most 10 (zigzag_of z) (omega arith)

size_int32 : (id : ℤ) (o : Option ℤ) → size_entry (given i32 id o) ≤ 6
size_int32 id o = size_given i32 5 int32_at_most id o

size_int64 : (id : ℤ) (o : Option ℤ) → size_entry (given i64 id o) ≤ 11
size_int64 id o = size_given i64 10 int64_at_most id o

size_truth : (id : ℤ) (o : Option Bool) → size_entry (given truth id o) ≤ 1
size_truth id None = omega arith
size_truth id (Some true) = omega arith
size_truth id (Some false) = omega arith

length_at_most : (n : ℕ) → size_length n ≤ 10
length_at_most n = size_at_most 10 n (omega arith)

list_head_at_most : (n : ℕ) → size_list_head n ≤ 11
list_head_at_most n = let size = length_at_most n in if_at_most (nat_le n 14) 1 (1 + size_length n) 11 (omega arith) (omega (arith, size))

small_size : (n : ℕ) → n < 2 ^ 32 → size_length n ≤ 5
small_size n h = size_below 10 n 5 (omega arith) (omega (arith, h))

text_at_most : (text : List ℕ) → size_value (binary text) ≤ 10 + length text
text_at_most text = let size = length_at_most (length text) in omega (arith, size)

size_text : (id : ℤ) (o : Option (List ℕ)) → size_entry (given binary id o) ≤ 11 + text_weight o
size_text id None = omega arith
size_text id (Some text) = let size = text_at_most text in omega (arith, size)

size_kept : (id : ℤ) (o : Option Fields) → size_entry (given struct id o) ≤ 1 + kept_weight o
size_kept id None = omega arith
size_kept id (Some kept) = omega arith

pub element_at_most : (e : Element) → size_struct (element_fields e) + 67 ≤ element_weight e
element_at_most e =
    let all = size_written (pos 0) (element_table e) refl refl in
    let name = text_at_most e.name in
    omega (arith, all, name, size_int32 ids.element_kind e.kind, size_int32 ids.element_type_length e.type_length, size_int32 ids.element_repetition_type e.repetition_type, size_int32 ids.element_num_children e.num_children, size_int32 ids.element_converted_type e.converted_type, size_int32 ids.element_scale e.scale, size_int32 ids.element_precision e.precision, size_int32 ids.element_field_id e.field_id, size_kept ids.element_logical_type e.logical_type)

-- elements of a list, each by its own weight
size_many : {X : Type 0} (P : X → Type 0) (write : X → Node) (weight : X → ℕ) → ((x : X) → P x → size_value (write x) ≤ weight x) → (xs : List X) → All P xs → size_elements (nodes_of (map write xs)) ≤ sum_by weight xs
size_many P write weight h [] p = omega arith
size_many P write weight h (x ∷ xs) p =
    let one = h x (All-head P x xs p) in
    let rest = size_many P write weight h xs (All-tail P x xs p) in
    omega (arith, one, rest, sum_by-cons weight x xs)

size_numbers : (zs : List ℤ) → size_elements (nodes_of (map i32 zs)) ≤ 5 * length zs
size_numbers [] = omega arith
size_numbers (z ∷ zs) = let one = int32_at_most z in let rest = size_numbers zs in omega (arith, one, rest)

size_names : (names : List (List ℕ)) → All (λ name. length name < 2 ^ 32) names → size_elements (nodes_of (map binary names)) ≤ 5 * length names + sum_by (λ name. length name) names
size_names [] p = omega arith
size_names (x ∷ xs) p =
    let P : List ℕ → Type 0 = λ name. length name < 2 ^ 32 in
    let one = small_size (length x) (All-head P x xs p) in
    let rest = size_names xs (All-tail P x xs p) in
    omega (arith, one, rest, sum_by-cons (λ name. length name) x xs)

-- the elements, and three bytes more for each
size_schema : (es : List Element) → size_elements (nodes_of (map (record_as element_fields) es)) + 3 * length es ≤ sum_by element_weight es
size_schema [] = omega arith
size_schema (e ∷ es) =
    let one = element_at_most e in
    let rest = size_schema es in
    omega (arith, one, rest, sum_by-cons element_weight e es)

order_at_most : (o : ColumnOrder) → size_struct (column_order_fields o) ≤ 3
order_at_most type_order = omega arith
order_at_most other_order = omega arith

size_orders : (os : List ColumnOrder) → size_elements (nodes_of (map (record_as column_order_fields) os)) ≤ 3 * length os
size_orders [] = omega arith
size_orders (o ∷ os) =
    let one = order_at_most o in
    let rest = size_orders os in
    omega (arith, one, rest)

bound_at_most : (bound : List ℕ) → length bound ≤ 64 → size_value (binary bound) ≤ 69
bound_at_most bound h = let size = small_size (length bound) (omega (arith, h)) in omega (arith, size, h)

statistics_at_most : (s : Statistics) → AreOwnStatistics s → size_value (record_as statistics_fields s) ≤ 165
statistics_at_most s own =
    let all = size_written (pos 0) (statistics_table s) refl refl in
    let max : size_entry (given binary ids.statistics_max s.max) ≤ 0 = rw own.max (omega arith) in
    let min : size_entry (given binary ids.statistics_min s.min) ≤ 0 = rw own.min (omega arith) in
    let max_value = size_given_where (λ bound. length bound ≤ 64) binary 69 bound_at_most ids.statistics_max_value s.max_value own.max_value in
    let min_value = size_given_where (λ bound. length bound ≤ 64) binary 69 bound_at_most ids.statistics_min_value s.min_value own.min_value in
    omega (arith, all, max, min, max_value, min_value, size_int64 ids.statistics_null_count s.null_count, size_int64 ids.statistics_distinct_count s.distinct_count, size_truth ids.statistics_is_max_value_exact s.is_max_value_exact, size_truth ids.statistics_is_min_value_exact s.is_min_value_exact)

encodings_at_most : (zs : List ℤ) → length zs ≤ 10 → size_value (many INT32 i32 zs) ≤ 61
encodings_at_most zs h = let head = list_head_at_most (count (nodes_of (map i32 zs))) in omega (arith, head, size_numbers zs, h)

path_at_most : (names : List (List ℕ)) → length names ≤ 32 → All (λ name. length name < 2 ^ 32) names → size_value (many BINARY binary names) ≤ 171 + sum_by (λ name. length name) names
path_at_most names h short = let head = list_head_at_most (count (nodes_of (map binary names))) in let all = size_names names short in omega (arith, head, all, h)

column_at_most : (c : ColumnMeta) → IsOwnColumn c → size_struct (column_meta_fields c) ≤ 470 + sum_by (λ name. length name) c.path_in_schema
column_at_most c own =
    let all = size_written (pos 0) (column_meta_table c) refl refl in
    let encodings = size_given_where (λ zs. length zs ≤ 10) (many INT32 i32) 61 encodings_at_most ids.column_encodings c.encodings own.encodings in
    let path = path_at_most c.path_in_schema own.path own.names in
    let statistics = size_given_where AreOwnStatistics (record_as statistics_fields) 165 statistics_at_most ids.column_statistics c.statistics own.statistics in
    omega (arith, all, encodings, path, statistics, int32_at_most c.kind, int32_at_most c.codec, int64_at_most c.num_values, int64_at_most c.data_page_offset, size_int64 ids.column_total_uncompressed_size c.total_uncompressed_size, size_int64 ids.column_total_compressed_size c.total_compressed_size, size_int64 ids.column_dictionary_page_offset c.dictionary_page_offset)

chunk_at_most : (c : ChunkMeta) → IsOwnColumn c.meta_data → size_value (record_as chunk_meta_fields c) ≤ chunk_weight c
chunk_at_most c own =
    let all = size_written (pos 0) (chunk_meta_table c) refl refl in
    let column = column_at_most c.meta_data own in
    omega (arith, all, column, size_text ids.chunk_file_path c.file_path, size_int64 ids.chunk_file_offset c.file_offset)

group_at_most : (g : GroupMeta) → All (λ chunk. IsOwnColumn chunk.meta_data) g.columns → size_value (record_as group_meta_fields g) ≤ group_weight g
group_at_most g own =
    let all = size_written (pos 0) (group_meta_table g) refl refl in
    let head = list_head_at_most (count (nodes_of (map (record_as chunk_meta_fields) g.columns))) in
    let chunks = size_many (λ chunk. IsOwnColumn chunk.meta_data) (record_as chunk_meta_fields) chunk_weight chunk_at_most g.columns own in
    omega (arith, all, head, chunks, int64_at_most g.num_rows, size_int64 ids.group_total_byte_size g.total_byte_size)

pair_at_most : (key value : List ℕ) (most : ℕ) → length key < 2 ^ 32 → length value ≤ most → size_struct (key_value_fields (record { key = key; value = Some value })) ≤ 18 + length key + most
pair_at_most key value most short h =
    let x : KeyValue = record { key = key; value = Some value } in
    let all = size_written (pos 0) (key_value_table x) refl refl in
    let head = small_size (length key) short in
    let text = text_at_most value in
    omega (arith, all, head, text, h)

pairs_at_most : (keys : List (List ℕ)) (pairs : List KeyValue) → AreOwnPairs keys pairs → size_value (many STRUCT (record_as key_value_fields) pairs) ≤ 77 + sum_by key_weight keys
pairs_at_most keys pairs own =
    let text = pair_at_most (codes "pqds.keys") own.text (2 + sum_by key_weight keys) (lit< tt) own.few in
    let number = pair_at_most (codes "pqds.next") own.number 20 (lit< tt) own.digits in
    rw own.both (omega (arith, text, number))

orders_at_most : (os : List ColumnOrder) (most : ℕ) → length os ≤ most → size_value (many STRUCT (record_as column_order_fields) os) ≤ 11 + 3 * most
orders_at_most os most h =
    let head = list_head_at_most (count (nodes_of (map (record_as column_order_fields) os))) in
    let all = size_orders os in
    omega (arith, head, all, h)

-- the struct of a footer of the store's writer takes at most what the footer weighs
pub footer_at_most : (keys : List (List ℕ)) (m : FileMeta) → IsOfTheWriter keys m → size_struct (file_meta_fields m) ≤ footer_weight keys m
footer_at_most keys m own =
    let all = size_written (pos 0) (file_meta_table m) refl refl in
    let schema_head = list_head_at_most (count (nodes_of (map (record_as element_fields) m.schema))) in
    let schema = size_schema m.schema in
    let groups_head = list_head_at_most (count (nodes_of (map (record_as group_meta_fields) m.row_groups))) in
    let groups = size_many (λ group. All (λ chunk. IsOwnColumn chunk.meta_data) group.columns) (record_as group_meta_fields) group_weight group_at_most m.row_groups own.columns in
    let pairs = size_given_where (AreOwnPairs keys) (many STRUCT (record_as key_value_fields)) (77 + sum_by key_weight keys) (pairs_at_most keys) ids.file_key_value_metadata m.key_value_metadata own.pairs in
    let created : size_entry (given binary ids.file_created_by m.created_by) ≤ 10 = rw own.created_by (omega (arith, small_size 4 (lit< tt))) in
    let orders = size_given_where (λ os. length os ≤ length m.schema) (many STRUCT (record_as column_order_fields)) (11 + 3 * length m.schema) (λ os h. orders_at_most os (length m.schema) h) ids.file_column_orders m.column_orders own.column_orders in
    omega (arith, all, schema_head, schema, groups_head, groups, pairs, created, orders, size_int32 ids.file_version m.version, size_int64 ids.file_num_rows m.num_rows)
