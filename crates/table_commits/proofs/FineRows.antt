-- Rows without a fault: each fits the table's schema, and its key has folders.
use Rattle.std.proofs.Common.{◌≡◌, Bool, true, false, List, [], ◌∷◌, None, Some, refl}
use Rattle.std.specs.Prelude.{Option, IsTrue}
use Rattle.std.specs.List.{AllByRecursion}
use Rattle.bits.specs.declared.refusal.Refusal.{Refusal}
use Rattle.bits.specs.declared.refusal.Refusal.TheVariants.{RowShape, Key as BadKey}
use Rattle.schema.specs.Fits.{fits_each}
use Rattle.schema.specs.Keys.{key_of_row}
use Rattle.partition.specs.Folders.{AreKeyColumns, CanPartition}
use Rattle.table.specs.Table.{Row, Table}
use Rattle.table.specs.Faults.{first, unless}
use Rattle.table.specs.Deciding.{has_folders}
use Rattle.table.specs.Checks.{rows_fault}
use Rattle.table.proofs.Deciding.{folders_decide}

module _ (t : Table) (columns : AreKeyColumns t.keys) where
  fine_row : (a b : Bool) (o : Option Refusal) → first (unless a RowShape ∷ unless b BadKey ∷ o ∷ []) ≡ None → (a ≡ true) × (b ≡ true) × (o ≡ None)
  fine_row true true None e = (refl, refl, refl)
  fine_row true true (Some f) e = absurd (cc)
  fine_row true false o e = absurd (cc)
  fine_row false b o e = absurd (cc)

  pub fine_rows : (given : List Row) → rows_fault t given ≡ None → AllByRecursion (λ (row : Row). IsTrue (fits_each t.schema row) × CanPartition t.keys (key_of_row t.keys row)) given
  fine_rows [] e = tt
  fine_rows (row ∷ given) e =
      let p = fine_row (fits_each t.schema row) (has_folders t.keys (key_of_row t.keys row)) (rows_fault t given) e in
      ((p.0, (folders_decide t.keys (key_of_row t.keys row) columns).0 p.1), fine_rows given p.2)
