-- Rows that were gathered for a table: their checks, and their groups.
use Rattle.std.proofs.Common.{◌≡◌, ◌≢◌, ◌<◌, ℕ, Bool, true, false, List, [], ◌∷◌, ◌++◌, length, Option, Some, None, refl, sym, ◌∙◌, ap, subst, inr}
use Rattle.std.specs.Prelude.{IsTrue, MatchOption, is_some}
use Rattle.std.specs.Borrow.{Bor}
use Rattle.std.proofs.lemmas.Bool.{false≢true}
use Rattle.bits.specs.declared.refusal.Refusal.{Refusal}
use Rattle.bits.specs.declared.refusal.Refusal.TheVariants.{RowShape, Key, Memory, InDoubt}
use Rattle.bits.specs.Refusals.{HasCause, IsFault}
use Rattle.schema.specs.Values.{ValueTree}
use Rattle.schema.specs.Shape.{Fields}
use Rattle.schema.specs.Fits.{fits_each, RowsFit}
use Rattle.schema.specs.Keys.{KeyColumn, key_of_row, without_keys}
use Rattle.schema.specs.Views.{key_view}
use Rattle.disk.specs.State.{State as DiskState}
use Rattle.partition.specs.Folders.{AreKeyColumns, CanPartition}
use Rattle.partition.specs.Splitting.{HaveKeys}
use Rattle.gather.specs.declared.gathered.Gathered.{Gathered}
use Rattle.gather.specs.declared.key_buffer.KeyBuffer.{KeyBuffer}
use Rattle.gather.specs.declared.key_buffer.KeyFault.{KeyFault}
use Rattle.gather.specs.GatheredRows.{schema_of, columns_of, size_of, stored_of as besides_of, holds}
use Rattle.gather.specs.KeyBuffers.{HoldGroups, IsFirstFault}
use Rattle.manifest.specs.Groups.{root_of}
use Rattle.manifest.specs.Root.{stored_of}
use Rattle.table.specs.Table.{Row, Table}
use Rattle.table.specs.Faults.{first, unless}
use Rattle.table.specs.Deciding.{has_folders}
use Rattle.table.specs.Checks.{rows_fault}
use Rattle.table.specs.State.{State}
use Rattle.table.specs.Calls.{append, refused}
use Rattle.table.specs.Refusing.{is_failure}
use Rattle.table.proofs.Deciding.{folders_decide}
use Rattle.table_state.specs.declared.standing.Core.{Core}
use Rattle.table_commits.specs.Gathering.{AreGatheredFor}
use Rattle.table_state.specs.Promises.{ActsFrom}
use Rattle.table_state.specs.Stands.{Shows, Stands}
use Rattle.table_changes.proofs.AppendChecks.{columns, has_row_fault, out_of_memory}

only : (o : Option Refusal) → first (o ∷ []) ≡ o
only None = refl
only (Some e) = refl

-- the fault of a row and those after it
abbrev fault_by : (t : Table) (b c : Bool) (given : List Row) → Option Refusal
fault_by t b c given = first (unless b RowShape ∷ unless c Key ∷ rows_fault t given ∷ [])

-- ---- their checks

module _ (t : Table) (keyed : AreKeyColumns t.keys) where
  fault_from : (row : Row) (rows : List Row) (b : Bool) → fits_each t.schema row ≡ true → has_folders t.keys (key_of_row t.keys row) ≡ b → rows_fault t (row ∷ rows) ≡ fault_by t true b rows
  fault_from row rows b fit is = ap (λ (a : Bool). fault_by t a (has_folders t.keys (key_of_row t.keys row)) rows) fit ∙ ap (λ (a : Bool). fault_by t true a rows) is

  pub no_fault : (rows : List Row) → RowsFit t.schema rows → HaveKeys t.keys rows → rows_fault t rows ≡ None
  no_fault [] fit can = refl
  no_fault (row ∷ rows) fit can =
      fault_from row rows true fit.0 ((folders_decide t.keys (key_of_row t.keys row) keyed).1 can.0) ∙ only (rows_fault t rows) ∙ no_fault rows fit.1 can.1

  pub keyless : (rows : List Row) → RowsFit t.schema rows → (HaveKeys t.keys rows → ⊥) → rows_fault t rows ≡ Some Key
  keyless [] fit none = absurd (none tt)
  keyless (row ∷ rows) fit none = by (keyless rows fit.1) (has_folders t.keys (key_of_row t.keys row)) refl
    where
      by : ((HaveKeys t.keys rows → ⊥) → rows_fault t rows ≡ Some Key) → (b : Bool) → has_folders t.keys (key_of_row t.keys row) ≡ b → rows_fault t (row ∷ rows) ≡ Some Key
      by later true e = fault_from row rows true fit.0 e ∙ only (rows_fault t rows) ∙ later (λ h. none ((folders_decide t.keys (key_of_row t.keys row) keyed).0 e, h))
      by later false e = fault_from row rows false fit.0 e

-- where no fault is found in rows, they fit
pub fit_without_fault : (t : Table) (rows : List Row) → rows_fault t rows ≡ None → RowsFit t.schema rows
fit_without_fault t [] none = tt
fit_without_fault t (row ∷ rows) none = by (fits_each t.schema row) refl (has_folders t.keys (key_of_row t.keys row)) (fit_without_fault t rows) none
  where
    by : (b : Bool) → fits_each t.schema row ≡ b → (c : Bool) → (rows_fault t rows ≡ None → RowsFit t.schema rows) → fault_by t b c rows ≡ None → IsTrue (fits_each t.schema row) × RowsFit t.schema rows
    by true is true later free = (is, later (sym (only (rows_fault t rows)) ∙ free))
    by true is false later free = absurd (cc)
    by false is c later free = absurd (cc)

-- the keys of rows with a first fault are not all fine
pub first_fault_is : (columns : List KeyColumn) (rows : List Row) (number : ℕ) (key : List ValueTree) → IsFirstFault columns rows number key → HaveKeys columns rows → ⊥
first_fault_is columns rows number key f fine = f.cannot (at_it f.before (subst (HaveKeys columns) f.are fine))
  where
    at_it : (before : List Row) → HaveKeys columns (before ++ f.row ∷ f.after) → CanPartition columns (key_of_row columns f.row)
    at_it [] h = h.0
    at_it (row ∷ before) h = at_it before h.1

-- rows that are gathered without a fault have fine keys
pub no_first_fault : (g : Gathered) (rows : List Row) (o : Option (Bor KeyFault)) → MatchOption o (HaveKeys (columns_of g) rows) (λ f. IsFirstFault (columns_of g) rows f.now.row (key_view f.now.key)) → is_some o ≡ false → HaveKeys (columns_of g) rows
no_first_fault g rows None h none = h
no_first_fault g rows (Some f) h none = absurd (cc)

-- and those with one have not
pub some_first_fault : (g : Gathered) (rows : List Row) (o : Option (Bor KeyFault)) → MatchOption o (HaveKeys (columns_of g) rows) (λ f. IsFirstFault (columns_of g) rows f.now.row (key_view f.now.key)) → is_some o ≡ true → HaveKeys (columns_of g) rows → ⊥
some_first_fault g rows None h some = absurd (cc)
some_first_fault g rows (Some f) h some = first_fault_is (columns_of g) rows f.now.row (key_view f.now.key) h

-- some rows are not none
pub not_none : (given : List Row) → (length given ≡ 0 → ⊥) → given ≢ []
not_none given some none = some (ap (λ (rs : List Row). length rs) none)

-- ---- their groups

module _ {D : Type 0} (state : D → DiskState) (store : Core D) (s : State) (shows : Shows state store s) (g : Gathered) (given : List Row) (held : holds g given)
    (fits : AreGatheredFor (root_of store.manifest) store.options g) where
  schema_is : schema_of g ≡ s.table.schema
  schema_is = fits.schema ∙ shows.schema

  keys_are : columns_of g ≡ s.table.keys
  keys_are = fits.columns ∙ shows.keys

  pub all_fit : RowsFit s.table.schema given
  all_fit = subst (λ (fs : Fields). RowsFit fs given) schema_is held.gathered.fit

  pub with_keys : HaveKeys (columns_of g) given → HaveKeys s.table.keys given
  with_keys h = subst (λ (ks : List KeyColumn). HaveKeys ks given) keys_are h

  pub without : (HaveKeys (columns_of g) given → ⊥) → HaveKeys s.table.keys given → ⊥
  without none h = none (subst (λ (ks : List KeyColumn). HaveKeys ks given) (sym keys_are) h)

  besides_is : besides_of g ≡ stored_of (root_of store.manifest)
  besides_is = sym held.gathered.table.besides ∙ ap (λ (ks : List KeyColumn). without_keys ks (schema_of g)) fits.columns ∙ ap (λ (fs : Fields). without_keys (root_of store.manifest).keys fs) fits.schema

  size_is : size_of g ≡ s.options.group_rows
  size_is = fits.size ∙ ap (λ o. o.group_rows) shows.options

  pub groups_are : (groups : List KeyBuffer) → HoldGroups (columns_of g) (size_of g) (besides_of g) given groups → HoldGroups s.table.keys s.options.group_rows (stored_of (root_of store.manifest)) given groups
  groups_are groups h =
      subst (λ (fs : Fields). HoldGroups s.table.keys s.options.group_rows fs given groups) besides_is
      (subst (λ (n : ℕ). HoldGroups s.table.keys n (besides_of g) given groups) size_is
      (subst (λ (ks : List KeyColumn). HoldGroups ks (size_of g) (besides_of g) given groups) keys_are h))

-- why they do not come apart into groups
module _ {D : Type 0} (state : D → DiskState) (store : Core D) (s : State) (stands : Stands state store s) (is_open : s.closed ≡ false) (given : List Row) (low : s.next_group < 9223372036854775808) (fit : RowsFit s.table.schema given) where
  pub groups_refused : (e : Refusal) → HasCause (λ f. f ≡ Key) e → (IsFault e → HaveKeys s.table.keys given → ⊥) → ActsFrom state store store (append given) (refused e) s
  groups_refused Memory which none = out_of_memory state store s stands is_open given
  groups_refused Key which none = has_row_fault state store s stands is_open given low Key (inr refl) (keyless s.table (columns state store s stands is_open given) given fit (none tt))
  groups_refused e which none = absurd (let is : e ≡ Key = which in cc)

-- no such refusal tells of a failed disk
pub groups_calm : (e : Refusal) → HasCause (λ f. f ≡ Key) e → is_failure (refused e) ≡ true → ⊥
groups_calm Memory which h = false≢true h
groups_calm Key which h = false≢true h
groups_calm e which h = absurd (let is : e ≡ Key = which in cc)

-- nor is it in doubt
pub groups_sure : (e : Refusal) → HasCause (λ f. f ≡ Key) e → e ≡ InDoubt → ⊥
groups_sure e which is = let key : InDoubt ≡ Key = subst (λ (x : Refusal). HasCause (λ f. f ≡ Key) x) is which in cc
