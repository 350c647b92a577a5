-- A footer that is written group by group, and a group that is written chunk by chunk.
use Rattle.std.specs.Prelude.{ℕ, ℤ, List, [], ◌∷◌, ◌++◌, length, map, Option, Some}
use Rattle.thrift_compact.specs.Tree.{Node, i32, i64, binary, Fields}
use Rattle.thrift_compact.specs.Length.{AppendsStruct}
use Rattle.thrift_compact.specs.Piecewise.{BeginsStruct, BeginsList, AppendsRest}
use Rattle.metadata.specs.Ids as ids
use Rattle.metadata.specs.Records.{ChunkMeta, GroupMeta, FileMeta}
use Rattle.metadata.specs.ToTree.{present_of, written, there, given, many, record_as, STRUCT, element_fields, column_meta_fields, chunk_meta_fields, group_meta_fields, key_value_fields, column_order_fields}

-- the fields of a footer before its row groups, in the order of their ids
abbrev pub fields_before : FileMeta → List (ℤ × Node)
fields_before m = present_of (given i32 ids.file_version m.version ∷ there (many STRUCT (record_as element_fields)) ids.file_schema m.schema ∷ given i64 ids.file_num_rows m.num_rows ∷ [])

-- the fields of a footer after its row groups, in the order of their ids
abbrev pub fields_after : FileMeta → List (ℤ × Node)
fields_after m = present_of (given (many STRUCT (record_as key_value_fields)) ids.file_key_value_metadata m.key_value_metadata ∷ given binary ids.file_created_by m.created_by ∷ given (many STRUCT (record_as column_order_fields)) ids.file_column_orders m.column_orders ∷ [])

-- the bytes of `new` are those of `old`, the fields of the footer before its row groups, the number of these, and the first ones of them: `gs`
abbrev pub BeginsFooter : FileMeta → List GroupMeta → List ℕ → List ℕ → Type 0
BeginsFooter m gs old new = BeginsList (fields_before m) ids.file_row_groups STRUCT (length m.row_groups) (map (record_as group_meta_fields) gs) old new

-- a footer goes on by the struct of a group's record
abbrev pub FootersGrow : Type 0
FootersGrow = (m : FileMeta) (gs : List GroupMeta) (g : GroupMeta) (old mid new : List ℕ) → BeginsFooter m gs old mid → AppendsStruct (group_meta_fields g) mid new → BeginsFooter m (gs ++ g ∷ []) old new

-- the bytes of `new` are those of `old`, the start of the record of a group of n chunks, and the records of the first ones of them: `cs`
abbrev pub BeginsGroup : ℕ → List ChunkMeta → List ℕ → List ℕ → Type 0
BeginsGroup n cs old new = BeginsList [] ids.group_columns STRUCT n (map (record_as chunk_meta_fields) cs) old new

-- a group's record goes on by the struct of a chunk's record
abbrev pub GroupsGrow : Type 0
GroupsGrow = (n : ℕ) (cs : List ChunkMeta) (c : ChunkMeta) (old mid new : List ℕ) → BeginsGroup n cs old mid → AppendsStruct (chunk_meta_fields c) mid new → BeginsGroup n (cs ++ c ∷ []) old new

-- the fields of a group's record behind its chunks, in the order of their ids
abbrev pub group_rest : Option ℤ → ℤ → List (ℤ × Node)
group_rest size rows = present_of (given i64 ids.group_total_byte_size size ∷ there i64 ids.group_num_rows rows ∷ [])

-- the path of a chunk's file, as the first field of its record
abbrev pub chunk_start : List ℕ → List (ℤ × Node)
chunk_start path = (ids.chunk_file_path, binary path) ∷ []

-- the bytes of `new` are those of `old`, and the start of the record of a chunk whose file has this path
abbrev pub BeginsChunk : List ℕ → List ℕ → List ℕ → Type 0
BeginsChunk path old new = BeginsStruct (chunk_start path) old new

-- the fields of a chunk's record behind the path of its file, in the order of their ids
abbrev pub chunk_rest : ChunkMeta → Fields
chunk_rest c = written (given i64 ids.chunk_file_offset c.file_offset ∷ there (record_as column_meta_fields) ids.chunk_meta_data c.meta_data ∷ [])

-- the bytes of `new` are those of `old`, and the rest of a chunk's record behind the path of its file
abbrev pub AppendsChunkRest : ChunkMeta → List ℕ → List ℕ → Type 0
AppendsChunkRest c old new = AppendsRest (chunk_rest c) ids.chunk_file_path old new

-- the start of a chunk's record, and the rest of one behind it, are the record with that path
abbrev pub ChunksFollow : Type 0
ChunksFollow = (c : ChunkMeta) (path old mid new : List ℕ) → BeginsChunk path old mid → AppendsChunkRest c mid new → AppendsStruct (chunk_meta_fields (record c { file_path = Some path })) old new
