-- What readers of chunks and groups still have to give.
use Rattle.std.specs.Prelude.{◌≡◌, ◌↔◌, ℕ, Bool, true, false, List, [], ◌∷◌, ◌++◌, length, Option, None, Some, Result, Ok, Err}
use Rattle.bits.specs.Faults.{refusal_of}
use Rattle.bits.specs.declared.fault.Fault.{Fault}
use Rattle.bits.specs.declared.refusal.Refusal.{Refusal}
use Rattle.bits.specs.declared.refusal.Refusal.TheVariants.{Memory}
use Rattle.schema.specs.declared.row.Row.{Row}
use Rattle.schema.specs.Values.{ValueTree, ValueTrees}
use Rattle.schema.specs.Annotations.{LeafType}
use Rattle.schema.specs.Fits.{fits_leaf}
use Rattle.schema.specs.Stripe.{Leaf, Entry}
use Rattle.schema.specs.Law.{IsSchema}
use Rattle.schema.specs.Views.{leaf_view, row_view}
use Rattle.metadata.specs.Records.{ColumnMeta}
use Rattle.assemble.specs.RowsOf.{StandForRows}
use Rattle.assemble.specs.Flat.{is_flat}
pub use Rattle.assemble.specs.Flat.{ShowsFirst}
pub use Rattle.assemble.specs.RowSources.{TakesRowTo}
use Rattle.row_group.specs.declared.chunk_reader.ChunkReader.{ChunkReader}
use Rattle.row_group.specs.declared.rows.Rows.{Rows}
use Rattle.row_group.specs.Chunks.{ChunkMeans}
use Rattle.row_group.specs.Limits.{IsChunkOver}
use Rattle.row_group.specs.PageLeft.{page_left}
pub use Rattle.row_group.specs.PagesView.{known_view, pages_view}
use Rattle.row_group.specs.Rest.{ChunkLeft, HoldsRest, HasRestOver}

-- what is left to a reader: the pages that it did not read yet, the entries of the page before them, and the fault that it keeps
pub record ReaderLeft : Type 0 where
  pub pages : ChunkLeft
  pub here : List Entry
  pub fault : Option Fault

-- what is left to a reader of a chunk
abbrev pub reader_view : ChunkReader → ReaderLeft
reader_view r = record { pages = pages_view r.pages; here = page_left r.page; fault = r.fault }

-- what a reader would still give: what is left of its page, and then the entries of the pages that are left, none of which is over a limit
pub record ChunkStands (r : ReaderLeft) (es : List Entry) : Type 0 where
  pub sound : r.fault ≡ None
  pub rest : List Entry
  pub used : ℕ
  pub joined : es ≡ r.here ++ rest
  pub held : HoldsRest r.pages rest used
  pub short : HasRestOver r.pages → ⊥

-- a reader of a chunk would still give these entries
abbrev pub chunk_stands : ChunkReader → List Entry → Type 0
chunk_stands r = ChunkStands (reader_view r)

-- the values that a reader gives, which are its leaf's, fit this type
abbrev pub chunk_checked : ChunkReader → LeafType → Type 0
chunk_checked r t = (v : ValueTree) → fits_leaf (leaf_view r.pages.leaf.now).leaf_type v ≡ true → fits_leaf t v ≡ true

-- the reader stands for the entries of the chunk, where its record and its pages are within the limits
abbrev pub StandsForChunk : ColumnMeta → Leaf → List ℕ → ChunkReader → Type 0
StandsForChunk m leaf bytes r = (es : List Entry) → chunk_stands r es ↔ (((used : ℕ) × ChunkMeans m leaf bytes es used) × (IsChunkOver m leaf bytes → ⊥))

-- the rows that are still to come: as many as are counted, which fit, and for whose columns the readers stand; whether the schema is flat is known
pub record RowsStand (r : Rows) (rows : List ValueTrees) : Type 0 where
  pub whole : r.is_broken ≡ false
  pub schema : IsSchema r.schema.now
  pub flat : r.is_flat ≡ is_flat r.schema.now
  pub count : length rows ≡ r.left
  pub columns : StandForRows chunk_stands r.readers.items r.schema.now rows

-- a reader of rows was refused memory
abbrev pub is_broken : Rows → Bool
is_broken r = r.is_broken

-- a reader of rows would still give these rows
abbrev pub rows_stand : Rows → List ValueTrees → Type 0
rows_stand = RowsStand

-- the first of the rows that stood, or none; out of memory aside, nothing is refused where rows stood
abbrev pub TakesRow : (List ValueTrees → Type 0) → (List ValueTrees → Type 0) → Result (Option Row) Refusal → Type 0
TakesRow S T (Ok (Some row)) = (rows : List ValueTrees) → S rows → (rest : List ValueTrees) × (rows ≡ row_view row ∷ rest) × T rest
TakesRow S T (Ok None) = (rows : List ValueTrees) → S rows → (rows ≡ []) × T []
TakesRow S T (Err e) = (rows : List ValueTrees) → S rows → e ≡ Memory

-- what is returned, with a refusal in place of a fault
abbrev pub with_refusal : Result Bool Fault → Result Bool Refusal
with_refusal (Ok b) = Ok b
with_refusal (Err fault) = Err (refusal_of fault)
