-- What is done with the batches that a cursor gives, one after another.
use Rattle.std.specs.Prelude.{◌≡◌, ◌≤◌, ◌⊎◌, ◌-◌, ℕ, Bool, List, [], ◌∷◌, ◌++◌, flat_map, length, Option, Some, None, Result, OnOk}
use Rattle.std.specs.Io.KnownBytes.{Appends}
use Rattle.bits.specs.declared.refusal.Refusal.{Refusal}
use Rattle.schema.specs.Shape.{Fields}
use Rattle.schema.specs.Fits.{RowsFit}
use Rattle.schema.specs.Values.{ValueTrees}
use Rattle.rowtext.specs.declared.row_text.RowText.{RowText}
use Rattle.footer.specs.declared.options.WriteOptions.{WriteOptions}
use Rattle.disk.specs.State.{State as DiskState}
use Rattle.table.specs.Deciding.{Filter}
use Rattle.table.specs.Cursors.{Batch, Columns}
use Rattle.table.specs.State.{State}
use Rattle.table.specs.Calls.{Call, fetch, Answer, ended}
use Rattle.table.specs.Queries.{given}
use Rattle.table_state.specs.declared.standing.Core.{Core}
use Rattle.table_state.specs.Stands.{Stands}
use Rattle.answers.specs.declared.part_writer.PartWriter.{PartWriter}
use Rattle.answers.specs.Querying.{row_lines, ActsOn, OnlyReads}
use Rattle.answers.specs.QueryFile.{query_rows, first_of, GotFiles}
use Rattle.answers.specs.inner.Batches.{AreAllFetches}
use Rattle.answers.specs.inner.Gathering.{BeginsLines}
use Rattle.answers.specs.inner.Parts.{TakesRows}

-- From the one state the store makes fetches of a cursor, each of which gives a batch, and something is done with these.
pub record HasFetched {D : Type 0} (state : D → DiskState) (old new : Core D) (n : ℕ) (Done : List Batch → Type 0) (s : State) : Type 0 where
  pub calls : List Call
  pub answers : List Answer
  pub last : State
  pub acts : ActsOn state old calls answers new s last
  pub as_many : length calls ≡ length answers
  pub fetches : AreAllFetches n calls
  pub stands : Stands state new last
  pub done : Done (given n calls answers)

-- These calls are fetches of a cursor up to its end, or until what it gave is enough, and something is done with the batches that they
-- gave.
pub record FetchesUpTo (n : ℕ) (Done Enough : List Batch → Type 0) (calls : List Call) (answers : List Answer) : Type 0 where
  pub front : List Call
  pub told : List Answer
  pub as_many : length front ≡ length told
  pub fetches : AreAllFetches n front
  pub over : ((calls ≡ front ++ fetch n ∷ []) × (answers ≡ told ++ ended ∷ [])) ⊎ ((calls ≡ front) × (answers ≡ told) × Enough (given n front told))
  pub done : Done (given n front told)

-- From the one state the store makes fetches of a cursor, and where the result is Ok something is done with all that it still gives, or
-- with what is enough of it.
pub record FetchesFirst {D T : Type 0} (state : D → DiskState) (old new : Core D) (n : ℕ) (Done Enough : List Batch → Type 0) (result : Result T Refusal) (s : State) : Type 0 where
  pub calls : List Call
  pub answers : List Answer
  pub last : State
  pub acts : ActsOn state old calls answers new s last
  pub fetches : AreAllFetches n calls
  pub stands : Stands state new last
  pub all : OnOk result (FetchesUpTo n Done Enough calls answers)

-- ---- the first rows of batches

-- the rows of batches
abbrev pub rows_of_each : List Batch → List ValueTrees
rows_of_each bs = flat_map (λ (b : Batch). b.rows) bs

-- where the rows of batches are rows of these columns, this holds of them
abbrev pub WhereFitting : Fields → (List ValueTrees → Type 0) → List Batch → Type 0
WhereFitting fs Holds bs = RowsFit fs (rows_of_each bs) → Holds (rows_of_each bs)

-- how many more there may be after so many, where there is a limit
abbrev pub fewer : Option ℕ → ℕ → Option ℕ
fewer None n = None
fewer (Some limit) n = Some (limit - n)

-- rows are as many as the limit says, or more
abbrev pub AreEnough : Option ℕ → List ValueTrees → Type 0
AreEnough None rows = ⊥
AreEnough (Some limit) rows = limit ≤ length rows

-- something is so of the first of these rows, and there may be so many more
abbrev pub HoldsOfFirst : Option ℕ → Option ℕ → (List ValueTrees → Type 0) → List ValueTrees → Type 0
HoldsOfFirst limit left Has rows = Has (first_of limit rows) × (left ≡ fewer limit (length rows))

-- ---- lines

-- the lines of rows are written, and none is gathered
abbrev pub HasPrinted : Bool → Fields → Option RowText → Option (List ℕ) → Option (List ℕ) → List ValueTrees → Type 0
HasPrinted texts fs text before after rows = Appends before after (row_lines texts fs rows) × BeginsLines texts fs text

-- From the one state the store makes fetches of a cursor, and where the result is Ok the lines of the first rows of what it still gives
-- are printed.
abbrev pub PrintsLeft : {D T : Type 0} → (D → DiskState) → Bool → Fields → Core D → Core D → ℕ → Option ℕ → Option (List ℕ) → Option (List ℕ)
    → Result T Refusal → State → Type 0
PrintsLeft state texts fs old new n limit before after result s =
    FetchesFirst state old new n (WhereFitting fs (λ rows. Appends before after (row_lines texts fs (first_of limit rows))))
    (WhereFitting fs (AreEnough limit)) result s

-- ---- a writer of files

-- From the one state the store makes fetches of a cursor, and where the result is Ok a writer is given the first rows of what it still
-- gives.
abbrev pub TakesLeft : {D T : Type 0} → (D → DiskState) → Core D → Core D → ℕ → Option ℕ → PartWriter → PartWriter → Option (List (List ℕ))
    → Option (List (List ℕ)) → Result T Refusal → State → Type 0
TakesLeft state old new n limit from to was is result s =
    FetchesFirst state old new n (WhereFitting from.schema.now (λ rows. TakesRows from to was is (first_of limit rows)))
    (WhereFitting from.schema.now (AreEnough limit)) result s

-- From the one state the store makes calls that only read, and where the result is Ok a writer is given the rows that satisfy, or the
-- first of them, where these are rows of its columns.
pub record WritesSelected {D T : Type 0} (state : D → DiskState) (old new : Core D) (terms : Filter) (columns : Columns) (limit : Option ℕ) (before after : PartWriter)
    (was is : Option (List (List ℕ))) (result : Result T Refusal) (s : State) : Type 0 where
  pub reads : OnlyReads state old new s
  pub written : OnOk result (RowsFit before.schema.now (query_rows terms columns s.table) → TakesRows before after was is (first_of limit (query_rows terms columns s.table)))

-- From the one state the store makes calls that only read, and where the result is Ok a sink got files of the rows that satisfy, or of
-- the first of them, where these are rows of these columns.
pub record GivesFiles {D T : Type 0} (state : D → DiskState) (old new : Core D) (options : WriteOptions) (fs : Fields) (terms : Filter) (columns : Columns) (limit most : Option ℕ)
    (was is : Option (List (List ℕ))) (result : Result T Refusal) (s : State) : Type 0 where
  pub reads : OnlyReads state old new s
  pub got : OnOk result (RowsFit fs (query_rows terms columns s.table) → GotFiles options fs (first_of limit (query_rows terms columns s.table)) most was is)
