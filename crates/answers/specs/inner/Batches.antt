-- What is printed of the batches that a cursor gives.
use Rattle.std.specs.Prelude.{◌≡◌, ℕ, Bool, List, Option, Result, OnOk}
use Rattle.std.specs.List.{AllByRecursion}
use Rattle.std.specs.Io.KnownBytes.{Appends}
use Rattle.bits.specs.declared.refusal.Refusal.{Refusal}
use Rattle.disk.specs.State.{State as DiskState}
use Rattle.table.specs.Cursors.{Columns}
use Rattle.table.specs.Deciding.{Filter}
use Rattle.table.specs.State.{State}
use Rattle.table.specs.Calls.{Call, fetch}
use Rattle.table_state.specs.declared.standing.Core.{Core}
use Rattle.answers.specs.Querying.{row_lines, OnlyReads}
use Rattle.answers.specs.QueryFile.{wanted_fields, query_rows, first_of}

-- all calls are fetches of the cursor of this number
abbrev pub AreAllFetches : ℕ → List Call → Type 0
AreAllFetches n calls = AllByRecursion (λ call. call ≡ fetch n) calls

-- From the one state the store makes calls that only read, and where the result is Ok the lines of the rows that satisfy are printed, or
-- of the first of them.
pub record PrintsSelected {D T : Type 0} (state : D → DiskState) (texts : Bool) (old new : Core D) (terms : Filter) (columns : Columns) (limit : Option ℕ)
    (before after : Option (List ℕ)) (result : Result T Refusal) (s : State) : Type 0 where
  pub reads : OnlyReads state old new s
  pub printed : OnOk result (Appends before after (row_lines texts (wanted_fields columns s.table.schema) (first_of limit (query_rows terms columns s.table))))
