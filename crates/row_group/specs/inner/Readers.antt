-- The readers of a group's chunks.
use Rattle.std.specs.Prelude.{◌≡◌, ℕ, Bool, true, false, List, [], ◌∷◌, length, Option, None, Some, Result, Ok, Err, option_map, unwrap_or}
use Rattle.bits.specs.Faults.{refusal_of}
use Rattle.bits.specs.declared.fault.Fault.{Fault}
use Rattle.bits.specs.declared.refusal.Refusal.{Refusal}
use Rattle.schema.specs.Values.{ValueTrees}
use Rattle.schema.specs.Shape.{Fields}
use Rattle.schema.specs.Fits.{RowsFit}
use Rattle.schema.specs.Stripe.{Leaf, Entry, leaves_of, columns}
use Rattle.schema.specs.declared.borrowed.ValueRef.{ValueRef}
use Rattle.schema.specs.Borrowed.{value_ref_view}
use Rattle.metadata.specs.Records.{ColumnMeta, ChunkMeta, GroupMeta}
use Rattle.assemble.specs.RowsOf.{StandForRows}
use Rattle.row_group.specs.declared.chunk_reader.ChunkReader.{ChunkReader}
use Rattle.row_group.specs.Chunks.{ColumnMeans, AreChunks}
use Rattle.row_group.specs.Limits.{IsChunkOver, BeginsWith}
use Rattle.pages.specs.Left.{entry_taken, Shows as PageShows}
use Rattle.assemble.specs.Sources.{Same, Precede, StandsOnly, Refuses, Keeps}
use Rattle.row_group.specs.PageLeft.{value_fits}
use Rattle.row_group.specs.Left.{ReaderLeft, ChunkStands, chunk_stands}

-- the reader stands for the entries of the chunk, where no page of it is over a limit
pub record IsReaderOf (front : List ℕ) (m : ColumnMeta) (leaf : Leaf) (r : ChunkReader) : Type 0 where
  pub means : (es : List Entry) → chunk_stands r es → ColumnMeans front m leaf es
  pub short : (es : List Entry) → chunk_stands r es → BeginsWith front IsChunkOver m leaf → ⊥
  pub stands : (es : List Entry) → ColumnMeans front m leaf es → (BeginsWith front IsChunkOver m leaf → ⊥) → chunk_stands r es

-- a refusal: nothing is taken, and the fault is kept
abbrev pub KeepsFault : ReaderLeft → ReaderLeft → Fault → Type 0
KeepsFault old new f =
    Refuses (ChunkStands old) (option_map refusal_of old.fault) (refusal_of f)
    × Same (ChunkStands old) (ChunkStands new)
    × Keeps (option_map refusal_of old.fault) (option_map refusal_of new.fault) (refusal_of f)

-- an entry is there now, or none is left; what stood stands still. A refusal is kept, out of memory aside, and then nothing stood
abbrev pub Fills : ReaderLeft → ReaderLeft → Result (Unit {0}) Fault → Type 0
Fills old new (Ok x) = (old.fault ≡ None) × (new.fault ≡ None) × Same (ChunkStands old) (ChunkStands new) × (new.here ≡ [] → StandsOnly (ChunkStands new) []) × (new.pages.leaf ≡ old.pages.leaf)
Fills old new (Err f) = KeepsFault old new f

-- the levels of the next entry, where the page has it and no fault is kept
abbrev pub PeeksPage : ReaderLeft → Option (ℕ × ℕ) → Type 0
PeeksPage r (Some levels) = (r.fault ≡ None) × PageShows r.here (Some levels)
PeeksPage r None = Unit {0}

-- the entry that was taken last off the page
abbrev pub last_taken : ChunkReader → Entry
last_taken r = unwrap_or (option_map entry_taken r.page) (record { repetition = 0; definition = 0; value = None })

-- the next entry is taken, this one, whose value is the leaf's; or none is left
abbrev pub AdvancesReader : ReaderLeft → ReaderLeft → Entry → Result Bool Fault → Type 0
AdvancesReader old new e (Ok true) = (old.fault ≡ None) × (new.fault ≡ None) × Precede (e ∷ []) (ChunkStands old) (ChunkStands new) × (value_fits old.pages.leaf.leaf_type e ≡ true)
AdvancesReader old new e (Ok false) = (old.fault ≡ None) × (new.fault ≡ None) × StandsOnly (ChunkStands old) [] × Same (ChunkStands old) (ChunkStands new)
AdvancesReader old new e (Err f) = KeepsFault old new f

-- the entry of a value in PLAIN whose levels are 0
abbrev pub entry_of_plain : ValueRef → Entry
entry_of_plain v = record { repetition = 0; definition = 0; value = Some (value_ref_view v) }

-- the next entry is taken, that of this value; or none
abbrev pub GivesPlain : ReaderLeft → ReaderLeft → Option ValueRef → Type 0
GivesPlain old new (Some v) = AdvancesReader old new (entry_of_plain v) (Ok true)
GivesPlain old new None = new ≡ old

-- for each chunk and its leaf, in the order of the leaves, something that is so
abbrev pub EachChunk : {X : Type 0} → (ColumnMeta → Leaf → X → Type 0) → List ChunkMeta → List Leaf → List X → Type 0
EachChunk P [] [] [] = Unit {0}
EachChunk P (c ∷ cs) (leaf ∷ leaves) (x ∷ xs) = P c.meta_data leaf x × EachChunk P cs leaves xs
EachChunk P _ _ _ = ⊥

-- a reader for each chunk
abbrev pub AreReaders : List ℕ → List ChunkMeta → List Leaf → List ChunkReader → Type 0
AreReaders front = EachChunk (IsReaderOf front)

-- the chunk holds these entries, and is not over a limit
abbrev pub IsSound : List ℕ → ColumnMeta → Leaf → List Entry → Type 0
IsSound front m leaf es = ColumnMeans front m leaf es × (BeginsWith front IsChunkOver m leaf → ⊥)

-- the chunks hold these columns, and none is over a limit
abbrev pub AreSound : List ℕ → List ChunkMeta → List Leaf → List (List Entry) → Type 0
AreSound front = EachChunk (IsSound front)

-- the refusal that a reader keeps
abbrev pub refusal_kept : ChunkReader → Option Refusal
refusal_kept r = option_map refusal_of r.fault

-- as many rows as are counted, which fit, and for whose columns the readers stand
abbrev pub CountsRows : Fields → List ChunkReader → ℕ → Type 0
CountsRows fs readers n = (rows : List ValueTrees) × ((length rows ≡ n) × StandForRows chunk_stands readers fs rows)

-- the chunks of the group hold the columns of so many rows, which fit, and none is over a limit
pub record HasRows (front : List ℕ) (fs : Fields) (g : GroupMeta) (n : ℕ) : Type 0 where
  pub rows : List ValueTrees
  pub count : length rows ≡ n
  pub fit : RowsFit fs rows
  pub sound : AreSound front g.columns (leaves_of fs) (columns fs rows)

-- the chunks of the group hold the columns of these rows, which are so many and fit
pub record AreRowsOfGroup (front : List ℕ) (fs : Fields) (g : GroupMeta) (n : ℕ) (rows : List ValueTrees) : Type 0 where
  pub count : length rows ≡ n
  pub fit : RowsFit fs rows
  pub chunks : AreChunks front g.columns (leaves_of fs) (columns fs rows)
