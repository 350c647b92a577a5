-- Rows that wait, made whole and gathered again, one after another.
use Rattle.std.proofs.Common.{◌≡◌, ◌≤◌, ◌<◌, ℕ, zero, suc, List, [], ◌∷◌, ◌++◌, map, length, take, get_or, refl, sym, ◌∙◌, ap, subst, arith, append_assoc}
use Rattle.std.specs.Prelude.{IsTrue}
use Rattle.std.specs.List.{AllByRecursion}
use Rattle.std.proofs.lemmas.List.{take_all, append-nil}
use Rattle.lists.proofs.Lists.{all_append, all_left as front_of_all, all_right as rest_of_all}
use Rattle.bits.specs.declared.refusal.Refusal.{Refusal}
use Rattle.bits.specs.declared.refusal.Refusal.TheVariants.{Memory, Key as BadKey}
use Rattle.bits.specs.Refusals.{HasCause, IsFault}
use Rattle.schema.specs.Shape.{Fields}
use Rattle.schema.specs.Fits.{fits_each, RowsFit}
use Rattle.schema.specs.Keys.{KeyColumn, IsRowOf, AreRowsOf, key_of_row, without_keys}
use Rattle.schema.specs.Values.{ValueTree, ValueTrees}
use Rattle.schema.specs.declared.row.Row.{Row as CodeRow}
use Rattle.schema.specs.Views.{key_view, row_view, rows_view}
use Rattle.partition.specs.Folders.{CanPartition}
use Rattle.partition.specs.Splitting.{KeyRows, HaveKeys, key_rows_view}
use Rattle.partition.specs.declared.splitting.KeyRows.{KeyRows as CodeKeyRows}
use Rattle.footer.specs.declared.options.WriteOptions.{WriteOptions}
use Rattle.gather.specs.declared.gathered.Gathered.{Gathered}
use Rattle.gather.specs.declared.key_buffer.KeyBuffer.{KeyBuffer}
use Rattle.gather.specs.GatheredRows.{holds, schema_of, columns_of, size_of, stored_of as besides_of}
use Rattle.gather.specs.KeyBuffers.{HoldGroups}
use Rattle.manifest.specs.Groups.{Root}
use Rattle.manifest.specs.Root.{stored_of}
use Rattle.table.specs.Table.{IsRowIn}
use Rattle.table_commits.specs.Filling.{AreBuffers, rows_waiting}
use Rattle.table_commits.specs.Gathering.{AreGatheredFor}
use Rattle.table_jobs.specs.Regathering.{AreWhole}

-- ---- the rows of one key

-- the row of the table at a place
pub record IsAt (columns : List KeyColumn) (key : List ValueTree) (whole : List ValueTrees) (i : ℕ) (stored : ValueTrees) : Type 0 where
  pub row : ValueTrees
  pub is : IsRowOf columns key stored row
  pub next : take (suc i) whole ≡ take i whole ++ row ∷ []
  pub fit : (fs : Fields) → RowsFit fs whole → IsTrue (fits_each fs row)

pub row_at : (columns : List KeyColumn) (key : List ValueTree) (xs : List CodeRow) (whole : List ValueTrees) → AreRowsOf columns key (rows_view xs) whole → (i : ℕ) (x : CodeRow) → i < length xs → x ≡ get_or xs i x
    → IsAt columns key whole i (row_view x)
row_at columns key [] whole are i x h is = absurd (omega (arith, h))
row_at columns key (y ∷ xs) [] are i x h is = absurd are
row_at columns key (y ∷ xs) (r ∷ whole) are zero x h is = record {
  row = r;
  is = subst (λ (z : CodeRow). IsRowOf columns key (row_view z) r) (sym is) are.0;
  next = refl;
  fit = λ fs fit. fit.0;
}
row_at columns key (y ∷ xs) (r ∷ whole) are (suc i) x h is =
    let later = row_at columns key xs whole are.1 i x (omega (arith, h)) is in
    record { row = later.row; is = later.is; next = ap (λ (rs : List ValueTrees). r ∷ rs) later.next; fit = λ fs fit. later.fit fs fit.1 }

as_many : (columns : List KeyColumn) (key : List ValueTree) (xs : List CodeRow) (whole : List ValueTrees) → AreRowsOf columns key (rows_view xs) whole → length xs ≡ length whole
as_many columns key [] [] are = refl
as_many columns key (x ∷ xs) (r ∷ whole) are = ap suc (as_many columns key xs whole are.1)
as_many columns key [] (r ∷ whole) are = absurd are
as_many columns key (x ∷ xs) [] are = absurd are

pub all_rows : (columns : List KeyColumn) (key : List ValueTree) (xs : List CodeRow) (whole : List ValueTrees) → AreRowsOf columns key (rows_view xs) whole → (i : ℕ) → length xs ≤ i → take i whole ≡ whole
all_rows columns key xs whole are i h = take_all i whole (let many = as_many columns key xs whole are in omega (arith, many, h))

-- ---- the rows of each key

-- the rows of the table of the key at a place
pub record AreAt (columns : List KeyColumn) (whole : List KeyRows) (i : ℕ) (waits : CodeKeyRows) : Type 0 where
  pub rows : List ValueTrees
  pub are : AreRowsOf columns (key_view waits.key) (rows_view waits.rows.items) rows
  pub next : rows_waiting (take (suc i) whole) ≡ rows_waiting (take i whole) ++ rows
  pub fit : (fs : Fields) → RowsFit fs (rows_waiting whole) → RowsFit fs rows

pub rows_at : (columns : List KeyColumn) (ws : List CodeKeyRows) (whole : List KeyRows) → AreWhole columns (map key_rows_view ws) whole → (i : ℕ) (w : CodeKeyRows) → i < length ws → w ≡ get_or ws i w → AreAt columns whole i w
rows_at columns [] whole are i w h is = absurd (omega (arith, h))
rows_at columns (x ∷ ws) [] are i w h is = absurd are
rows_at columns (x ∷ ws) (v ∷ whole) are zero w h is = record {
  rows = v.rows;
  are = subst (λ (y : CodeKeyRows). AreRowsOf columns (key_view y.key) (rows_view y.rows.items) v.rows) (sym is) are.0;
  next = append-nil v.rows;
  fit = λ fs fit. front_of_all (λ (r : ValueTrees). IsTrue (fits_each fs r)) v.rows (rows_waiting whole) fit;
}
rows_at columns (x ∷ ws) (v ∷ whole) are (suc i) w h is =
    let later = rows_at columns ws whole are.1 i w (omega (arith, h)) is in
    record {
      rows = later.rows;
      are = later.are;
      next = ap (λ (rs : List ValueTrees). v.rows ++ rs) later.next ∙ sym (append_assoc v.rows (rows_waiting (take i whole)) later.rows);
      fit = λ fs fit. later.fit fs (rest_of_all (λ (r : ValueTrees). IsTrue (fits_each fs r)) v.rows (rows_waiting whole) fit);
    }

as_many_keys : (columns : List KeyColumn) (ws : List CodeKeyRows) (whole : List KeyRows) → AreWhole columns (map key_rows_view ws) whole → length ws ≡ length whole
as_many_keys columns [] [] are = refl
as_many_keys columns (w ∷ ws) (v ∷ whole) are = ap suc (as_many_keys columns ws whole are.1)
as_many_keys columns [] (v ∷ whole) are = absurd are
as_many_keys columns (w ∷ ws) [] are = absurd are

pub all_keys : (columns : List KeyColumn) (ws : List CodeKeyRows) (whole : List KeyRows) → AreWhole columns (map key_rows_view ws) whole → (i : ℕ) → length ws ≤ i → take i whole ≡ whole
all_keys columns ws whole are i h = take_all i whole (let many = as_many_keys columns ws whole are in omega (arith, many, h))

-- ---- refusals

-- rows with keys that can partition are refused only for memory
pub key_else : (e : Refusal) → HasCause (λ f. f ≡ BadKey) e → (IsFault e → ⊥) → HasCause (λ _. ⊥) e
key_else Memory which fine = tt
key_else e which fine = fine (subst IsFault (sym which) tt)

-- ---- rows that wait whole

pub are_whole : (schema : Fields) (keys : List KeyColumn) (ws vs : List KeyRows) → AreBuffers schema keys ws vs → AreWhole keys ws vs
are_whole schema keys [] [] z = tt
are_whole schema keys (w ∷ ws) (v ∷ vs) z = (z.0.are, are_whole schema keys ws vs z.1)
are_whole schema keys [] (v ∷ vs) z = absurd z
are_whole schema keys (w ∷ ws) [] z = absurd z

pub fit_whole : (schema : Fields) (keys : List KeyColumn) (ws vs : List KeyRows) → AreBuffers schema keys ws vs → RowsFit schema (rows_waiting vs)
fit_whole schema keys [] [] z = tt
fit_whole schema keys (w ∷ ws) (v ∷ vs) z = all_append (λ (r : ValueTrees). IsTrue (fits_each schema r)) v.rows (rows_waiting vs) (each v.rows z.0.rows_in) (fit_whole schema keys ws vs z.1)
  where
    each : (rs : List ValueTrees) → AllByRecursion (IsRowIn schema keys v.key) rs → RowsFit schema rs
    each [] a = tt
    each (r ∷ rs) a = (a.0.fits, each rs a.1)
fit_whole schema keys [] (v ∷ vs) z = absurd z
fit_whole schema keys (w ∷ ws) [] z = absurd z

pub keys_whole : (schema : Fields) (keys : List KeyColumn) (ws vs : List KeyRows) → AreBuffers schema keys ws vs → HaveKeys keys (rows_waiting vs)
keys_whole schema keys [] [] z = tt
keys_whole schema keys (w ∷ ws) (v ∷ vs) z = all_append (λ (r : ValueTrees). CanPartition keys (key_of_row keys r)) v.rows (rows_waiting vs) (each v.rows z.0.rows_in) (keys_whole schema keys ws vs z.1)
  where
    each : (rs : List ValueTrees) → AllByRecursion (IsRowIn schema keys v.key) rs → HaveKeys keys rs
    each [] a = tt
    each (r ∷ rs) a = (subst (λ (k : List ValueTree). CanPartition keys k) (sym a.0.keyed) z.0.can, each rs a.1)
keys_whole schema keys [] (v ∷ vs) z = absurd z
keys_whole schema keys (w ∷ ws) [] z = absurd z

-- the groups of rows that were gathered for a table
pub groups_of : (root : Root) (options : WriteOptions) (g : Gathered) (rows : List ValueTrees) (bs : List KeyBuffer) → AreGatheredFor root options g → holds g rows → HoldGroups (columns_of g) (size_of g) (besides_of g) rows bs
    → HoldGroups root.keys options.group_rows (stored_of root) rows bs
groups_of root options g rows bs table held groups =
    let same : besides_of g ≡ stored_of root
    = sym held.gathered.table.besides ∙ ap (λ (ks : List KeyColumn). without_keys ks (schema_of g)) table.columns ∙ ap (λ (fs : Fields). without_keys root.keys fs) table.schema in
    subst (λ (fs : Fields). HoldGroups root.keys options.group_rows fs rows bs) same
    (subst (λ (k : ℕ). HoldGroups root.keys k (besides_of g) rows bs) table.size (subst (λ (ks : List KeyColumn). HoldGroups ks (size_of g) (besides_of g) rows bs) table.columns groups))
