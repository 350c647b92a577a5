-- What a footer weighs: a bound on its written length that follows from the record only.
use Rattle.std.specs.Prelude.{◌≡◌, ℕ, ◌+◌, ◌*◌, ◌^◌, ◌<◌, ◌≤◌, List, [], ◌∷◌, length, Option, Some, None, IfSome, All, sum_by, codes}
use Rattle.thrift_compact.specs.Tree.{Fields}
use Rattle.thrift_compact.specs.Length.{size_struct}
use Rattle.schema.specs.Elements.{Element}
use Rattle.metadata.specs.Records.{KeyValue, Statistics, ColumnMeta, ChunkMeta, GroupMeta, FileMeta}

-- the length of a text in bytes; 0 if it is absent
abbrev pub text_weight : Option (List ℕ) → ℕ
text_weight (Some text) = length text
text_weight None = 0

-- the number of bytes that a kept struct takes; 0 if there is none
abbrev pub kept_weight : Option Fields → ℕ
kept_weight (Some kept) = size_struct kept
kept_weight None = 0

-- an element of the schema: 128, the bytes of its name, and those of its kept struct
abbrev pub element_weight : Element → ℕ
element_weight e = 128 + length e.name + kept_weight e.logical_type

-- a column chunk: 512, the bytes of the names on its path, and those of the path of its file
abbrev pub chunk_weight : ChunkMeta → ℕ
chunk_weight c = 512 + sum_by (λ name. length name) c.meta_data.path_in_schema + text_weight c.file_path

-- a row group: 64, and the weights of its column chunks
abbrev pub group_weight : GroupMeta → ℕ
group_weight g = 64 + sum_by chunk_weight g.columns

-- a key of a table, by its name: as JSON a byte of a text takes at most six
abbrev pub key_weight : List ℕ → ℕ
key_weight name = 64 + 6 * length name

-- a footer, of a table with keys of these names
abbrev pub footer_weight : List (List ℕ) → FileMeta → ℕ
footer_weight keys m = 1024 + sum_by element_weight m.schema + sum_by group_weight m.row_groups + sum_by key_weight keys

-- What the store's own writer puts into a record, as far as it bears on the length.

-- statistics of the store's own writer: bounds of at most 64 bytes, and none of the deprecated ones
pub record AreOwnStatistics (s : Statistics) : Type 0 where
  pub max : s.max ≡ None
  pub min : s.min ≡ None
  pub max_value : IfSome s.max_value (λ bound. length bound ≤ 64)
  pub min_value : IfSome s.min_value (λ bound. length bound ≤ 64)

-- a ColumnMetaData of the store's own writer: at most ten encodings, at most 32 names on its path, and statistics of that writer
pub record IsOwnColumn (c : ColumnMeta) : Type 0 where
  pub encodings : IfSome c.encodings (λ encodings. length encodings ≤ 10)
  pub path : length c.path_in_schema ≤ 32
  pub names : All (λ name. length name < 2 ^ 32) c.path_in_schema
  pub statistics : IfSome c.statistics AreOwnStatistics

-- the pairs of the store's own writer: the keys as JSON, 64 bytes and the escaped name each, and the next group number of at most 20 digits
pub record AreOwnPairs (keys : List (List ℕ)) (pairs : List KeyValue) : Type 0 where
  pub text : List ℕ
  pub number : List ℕ
  pub both : pairs ≡ record { key = codes "pqds.keys"; value = Some text } ∷ record { key = codes "pqds.next"; value = Some number } ∷ []
  pub few : length text ≤ 2 + sum_by key_weight keys
  pub digits : length number ≤ 20

-- a footer of the store's own writer, for a table with keys of these names; in a data file there are no pairs
pub record IsOfTheWriter (keys : List (List ℕ)) (m : FileMeta) : Type 0 where
  pub columns : All (λ group. All (λ chunk. IsOwnColumn chunk.meta_data) group.columns) m.row_groups
  pub pairs : IfSome m.key_value_metadata (AreOwnPairs keys)
  pub created_by : m.created_by ≡ Some (codes "pqds")
  pub column_orders : IfSome m.column_orders (λ orders. length orders ≤ length m.schema)
