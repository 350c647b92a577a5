-- Footers that are written group by group.
use Rattle.std.proofs.Common.{◌≡◌, ℕ, ◌≤◌, ℤ, List, [], ◌∷◌, ◌++◌, length, map, sym, ap, subst, append_assoc, arith}
use Rattle.std.proofs.lemmas.List.{append-nil, length-map, map_push as mapped_push}
use Rattle.std.specs.Prelude.{option_map}
use Rattle.thrift_compact.specs.Tree.{Node, i32, i64, binary, list, fields_nest}
use Rattle.thrift_compact.specs.View.{nodes_of, fields_of}
use Rattle.thrift_compact.specs.Piecewise.{BeginsStruct, BeginsList, ListsEnd, ListsGrow, RestsFollow}
use Rattle.thrift_compact.specs.Shapes.{ShapesNest}
use Rattle.metadata.specs.Ids as ids
use Rattle.metadata.specs.Records.{ChunkMeta, FileMeta}
use Rattle.metadata.specs.ToTree.{present, many, record_as, STRUCT, element_fields, chunk_meta_fields, group_meta_fields, file_meta_fields}
use Rattle.metadata.specs.Begun.{fields_before, fields_after, BeginsFooter, FootersGrow, BeginsGroup, GroupsGrow, chunk_rest, ChunksFollow}
use Rattle.metadata.proofs.Shaped.{group_fits, chunk_fits}

regrouped : {X : Type 0} (a b c r after : List X) → ((a ++ (b ++ (c ++ []))) ++ r) ++ after ≡ a ++ (b ++ (c ++ (r ++ after)))
regrouped a b c r after = simp (append_assoc, append-nil)

-- the field of the groups
abbrev pub groups_field : FileMeta → ℤ × Node
groups_field m = (ids.file_row_groups, list STRUCT (nodes_of (map (record_as group_meta_fields) m.row_groups)))

-- the fields before the groups, the groups, and the fields after them are the footer's
pub footer_joined : (m : FileMeta) → fields_of ((fields_before m ++ groups_field m ∷ []) ++ fields_after m) ≡ file_meta_fields m
footer_joined m =
    let version = present ids.file_version (option_map i32 m.version) in
    let schema = (ids.file_schema, many STRUCT (record_as element_fields) m.schema) ∷ [] in
    let rows = present ids.file_num_rows (option_map i64 m.num_rows) in
    ap fields_of (regrouped version schema rows (groups_field m ∷ []) (fields_after m))

-- one more group
pub footers_grow : ListsGrow → ShapesNest → FootersGrow
footers_grow grows nests m gs g old mid new begun text =
    let n = length m.row_groups in
    let shallow = nests 30 (group_meta_fields g) (group_fits g) in
    let one = grows (fields_before m) ids.file_row_groups n (map (record_as group_meta_fields) gs) (group_meta_fields g) old mid new begun shallow text in
    subst (λ (xs : List Node). BeginsList (fields_before m) ids.file_row_groups STRUCT n xs old new) (sym (mapped_push (record_as group_meta_fields) gs g)) one

-- one more chunk of a group
pub groups_grow : ListsGrow → ShapesNest → GroupsGrow
groups_grow grows nests n cs c old mid new begun text =
    let shallow : fields_nest (chunk_meta_fields c) ≤ 28 = nests 28 (chunk_meta_fields c) (chunk_fits c) in
    let one = grows [] ids.group_columns n (map (record_as chunk_meta_fields) cs) (chunk_meta_fields c) old mid new begun (omega (arith, shallow)) text in
    subst (λ (xs : List Node). BeginsList [] ids.group_columns STRUCT n xs old new) (sym (mapped_push (record_as chunk_meta_fields) cs c)) one

-- the rest of a chunk's record
pub chunks_follow : RestsFollow → ChunksFollow
chunks_follow follows c path old mid new start rest = follows ids.chunk_file_path (binary path) (chunk_rest c) old mid new start rest

-- the field of the chunks
abbrev pub columns_field : List ChunkMeta → ℤ × Node
columns_field cs = (ids.group_columns, list STRUCT (nodes_of (map (record_as chunk_meta_fields) cs)))

-- all chunks of a group are there
pub chunks_end : ListsEnd → (cs : List ChunkMeta) (old new : List ℕ) → BeginsGroup (length cs) cs old new → BeginsStruct (columns_field cs ∷ []) old new
chunks_end ends cs old new begun =
    let xs = map (record_as chunk_meta_fields) cs in
    ends [] ids.group_columns STRUCT xs old new (subst (λ (n : ℕ). BeginsList [] ids.group_columns STRUCT n xs old new) (sym (length-map cs (record_as chunk_meta_fields))) begun)

-- all groups are there
pub groups_end : ListsEnd → (m : FileMeta) (old new : List ℕ) → BeginsFooter m m.row_groups old new → BeginsStruct (fields_before m ++ groups_field m ∷ []) old new
groups_end ends m old new begun =
    let xs = map (record_as group_meta_fields) m.row_groups in
    ends (fields_before m) ids.file_row_groups STRUCT xs old new (subst (λ (n : ℕ). BeginsList (fields_before m) ids.file_row_groups STRUCT n xs old new) (sym (length-map m.row_groups (record_as group_meta_fields))) begun)
