-- What is left of a group of which some rows satisfy.
use Rattle.std.proofs.Common.{◌≡◌, ℕ, true, not, List, [], map, filter, length, Some, Result, Ok, Err, sym, ◌∙◌, ap, subst, arith}
use Rattle.std.specs.Prelude.{IfOk}
use Rattle.std.proofs.lemmas.List.{length-map}
use Rattle.bits.specs.declared.refusal.Refusal.{Refusal}
use Rattle.bits.specs.declared.refusal.Refusal.TheVariants.{Memory}
use Rattle.bits.specs.Refusals.{RefusedOnly, RefusedMemoryOnly}
use Rattle.schema.specs.Fits.{fits_each, RowsFit}
use Rattle.schema.specs.Keys.{KeyColumn, AreKeys, places_of, row_without_keys}
use Rattle.schema.specs.Shape.{Fields}
use Rattle.schema.specs.Views.{key_view}
use Rattle.disk.specs.State.{State as DiskState}
use Rattle.filter.specs.Test.{Test}
use Rattle.filter.specs.Deciding.{satisfies as all_satisfied}
use Rattle.gather.specs.KeyBuffers.{HoldsRows}
use Rattle.manifest.specs.Groups.{Group as FileGroup, Root}
use Rattle.manifest.specs.Root.{stored_of}
use Rattle.scan.specs.declared.group_rows.GroupRows.{GroupRows}
use Rattle.scan.specs.Faults.{IsDevice}
use Rattle.scan.specs.Left.{AreReadFor, AreOthersFor, rows_held, others_held}
use Rattle.scan.specs.Selected.{IsOver, Holds, AreSelected, cut_to}
use Rattle.table.specs.Table.{Row, Group}
use Rattle.table.proofs.Deciding.{tests_decide}
use Rattle.table_changes.specs.declared.remaining.Remains.{Remains}
use Rattle.table_reads.specs.Counting.{IsHeld}
use Rattle.table_state.specs.Promises.{IsSure}
use Rattle.table_reads.specs.Reading.{OnlyReads, IsReading}
use Rattle.table_changes.specs.Removing.{AreRemains, not_those}
use Rattle.table_commits.specs.Showing.{places_besides}
use Rattle.table_commits.proofs.SomeGroups.{all_kept}
use Rattle.table_reads.proofs.ReadsOfPassedGroups.{reading_done, reading_poor}
use Rattle.table_reads.proofs.StoredColumns.{cut_each, stored_each}
use Rattle.table_reads.proofs.CountingGroups.{held_there}
use Rattle.table_reads.proofs.WholeRows.{stored_fit}

-- ---- how many satisfy

-- where none is selected, none satisfies
pub none_selected : (tests : List (List Test)) (places : List ℕ) (given : List Row) → AreSelected tests places given [] → length (filter (all_satisfied tests) given) ≡ 0
none_selected tests places given are =
    sym (ap length (are (all_satisfied tests) (tests_decide tests)) ∙ length-map (filter (all_satisfied tests) given) (cut_to places))

-- those that are selected are as many as satisfy
many_selected : (tests : List (List Test)) (places : List ℕ) (given out : List Row) → AreSelected tests places given out → length out ≡ length (filter (all_satisfied tests) given)
many_selected tests places given out are = ap length (are (all_satisfied tests) (tests_decide tests)) ∙ length-map (filter (all_satisfied tests) given) (cut_to places)

-- ---- what is left of a group

module _ (tests : List (List Test)) (root : Root) (f : FileGroup) (g : Group) where
  -- no row satisfies
  pub none_ends : (result : Result Remains Refusal) → IfOk result (λ r. r.number ≡ f.number) → IfOk result (λ r. key_view r.rest.key ≡ f.key) → IfOk result (λ r. r.gone ≡ 0) → length (filter (all_satisfied tests) g.rows) ≡ 0
      → IfOk result (λ r. AreRemains tests root f g r)
  none_ends (Ok r) number key none out = record { number = number; key = key; gone = none ∙ sym out; rest = λ some. absurd (omega (arith, none, some)) }
  none_ends (Err e) number key none out = tt

  module _ (disk : DiskState) (h : IsHeld disk tests root f g) where
    fit : RowsFit root.schema g.rows
    fit = stored_fit disk root.keys root.schema h.count f g h.keyed h.described.0 h.stored.0

    abbrev left : List Row
    left = not_those (all_satisfied tests) g.rows

    left_fit : RowsFit root.schema left
    left_fit = all_kept (λ (row : Row). not (all_satisfied tests row)) (λ (row : Row). fits_each root.schema row ≡ true) g.rows fit

    -- some row does, and the others were read
    pub some_ends : (places : List ℕ) (rows : GroupRows) → places ≡ places_besides (places_of root.keys) 0 root.schema → AreReadFor tests places g.rows (Some rows) → AreOthersFor tests places g.rows (Some rows)
        → (result : Result Remains Refusal) → IfOk result (λ r. r.number ≡ f.number) → IfOk result (λ r. key_view r.rest.key ≡ f.key)
        → IfOk result (λ r. (given : List Row) → rows_held rows given → r.gone ≡ length given)
        → IfOk result (λ r. (others : List Row) → others_held rows others → RowsFit (stored_of root) others → HoldsRows (stored_of root) others r.rest)
        → IfOk result (λ r. AreRemains tests root f g r)
    some_ends places rows all read others (Err e) number key gone rest = tt
    some_ends places rows all read others (Ok r) number key gone rest =
        let cut : map (cut_to places) left ≡ map (row_without_keys root.keys) left
        = ap (λ (ps : List ℕ). map (cut_to ps) left) all ∙ cut_each root.keys root.schema left left_fit in
        record {
          number = number;
          key = key;
          gone = gone read.0 read.2 ∙ many_selected tests places g.rows read.0 read.1;
          rest = λ some. rest (map (row_without_keys root.keys) left) (subst (others_held rows) cut (others (all_satisfied tests) (tests_decide tests))) (stored_each root.keys root.schema left left_fit);
        }

-- only what is held is read, with the keys and the schema as they are lent
module _ (disk : DiskState) (tests : List (List Test)) (root : Root) (f : FileGroup) (g : Group) (h : IsHeld disk tests root f g) (keys : List KeyColumn) (fs : Fields) (keys_are : keys ≡ root.keys) (fs_are : fs ≡ root.schema) where
  pub over_lent : IsOver tests fs
  over_lent = subst (IsOver tests) (sym fs_are) h.over

  pub keyed_lent : AreKeys keys fs
  keyed_lent = subst (λ (ks : List KeyColumn). AreKeys ks fs) (sym keys_are) (subst (AreKeys root.keys) (sym fs_are) h.keyed)

  pub holds_lent : Holds disk keys fs f g.rows
  holds_lent = subst (λ (ks : List KeyColumn). Holds disk ks fs f g.rows) (sym keys_are) (subst (λ (gs : Fields). Holds disk root.keys gs f g.rows) (sym fs_are) (held_there disk tests root f g h))

-- ---- only read, and out of memory where it is refused

pub reads_so : (T : Type 0) (old new : DiskState) → IsReading old new → (result : Result T Refusal) → RefusedMemoryOnly result → OnlyReads old new result
reads_so T old new a (Ok x) m = reading_done old new x a
reads_so T old new a (Err Memory) m = reading_poor T old new a
reads_so T old new a (Err e) m = absurd m

pub device_too : (T : Type 0) (result : Result T Refusal) → RefusedMemoryOnly result → RefusedOnly IsDevice result
device_too T (Ok x) m = tt
device_too T (Err Memory) m = tt
device_too T (Err e) m = absurd m

pub sure_so : (T : Type 0) (result : Result T Refusal) → RefusedMemoryOnly result → IsSure result
sure_so T (Ok x) m is = cc
sure_so T (Err Memory) m is = cc
sure_so T (Err e) m is = absurd m
