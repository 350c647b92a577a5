-- Rows that are appended, which were read for a table that was found before.
use Rattle.std.specs.Prelude.{◌≡◌, ℕ, Bool, false, List, Option, Some, None, Result, Err}
use Rattle.bits.specs.declared.refusal.Refusal.{Refusal}
use Rattle.bits.specs.declared.refusal.Refusal.TheVariants.{Schema}
use Rattle.disk.specs.State.{State as DiskState}
use Rattle.schema.specs.Values.{ValueTrees}
use Rattle.footer.specs.declared.options.WriteOptions.{WriteOptions}
use Rattle.manifest.specs.Groups.{Root}
use Rattle.table.specs.State.{State}
use Rattle.table.specs.Calls.{append, done}
use Rattle.table.specs.Views.{answered}
use Rattle.table_state.specs.declared.standing.Core.{Core}
use Rattle.table_state.specs.Stands.{Stands}
use Rattle.table_state.specs.Promises.{ActsFrom}
use Rattle.answers.specs.Unless.{UnlessFrom}

-- the table is the one for which rows were read: it has these columns and keys, and groups of that size
pub record IsStill (root : Root) (options : WriteOptions) (s : State) : Type 0 where
  pub schema : root.schema ≡ s.table.schema
  pub keys : root.keys ≡ s.table.keys
  pub size : options.group_rows ≡ s.options.group_rows

-- From the one state: where the table is the one for which rows were read, the store appends them, and its answer is the result. Where
-- it has other columns or keys, that is refused Schema, and all is as it was.
pub record AppendsFrom {D : Type 0} (state : D → DiskState) (root : Root) (options : WriteOptions) (rows : List ValueTrees) (old new : Core D)
    (result : Result ℕ Refusal) (s : State) : Type 0 where
  pub still : IsStill root options s → ActsFrom state old new (append rows) (answered done result) s
  pub other : (IsStill root options s → ⊥) → old.closed ≡ false → (result ≡ Err Schema) × (new ≡ old)

-- on an honest disk, from each state that the store stands in: rows that were read for a table are appended; where a filter is given,
-- unless some row satisfies it
abbrev pub AppendsRows : {D : Type 0} → (D → DiskState) → Bool → Root → WriteOptions → List ValueTrees → Option (List ℕ) → Core D → Core D
    → Result ℕ Refusal → Type 0
AppendsRows state texts root options rows None old new result =
    (state old.vault.disk).honest → (s : State) → Stands state old s → AppendsFrom state root options rows old new result s
AppendsRows state texts root options rows (Some text) old new result = (state old.vault.disk).honest → (s : State) → Stands state old s
    → UnlessFrom state texts old new text (λ mid t. AppendsFrom state root options rows mid new result t) result s
