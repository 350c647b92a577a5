-- What waits of an append, as the writing of rows goes on with it, and back.
use Rattle.std.proofs.Common.{◌≡◌, ◌≤◌, ◌<◌, ℕ, suc, Bool, true, List, [], ◌∷◌, ◌++◌, map, flat_map, length, refl, sym, ap, subst, arith}
use Rattle.std.specs.List.{AllZip, AllByRecursion}
use Rattle.schema.specs.Values.{ValueTrees, no_values, value as item}
use Rattle.schema.specs.Shape.{Fields, no_fields, field, count as count_fields}
use Rattle.schema.specs.Fits.{fits_each, RowsFit}
use Rattle.schema.specs.Fronts.{padded}
use Rattle.schema.specs.Keys.{KeyColumn, AreKeys, IsRowOf, AreRowsOf, width, without_keys}
use Rattle.schema.proofs.Grown.{keys_and_others}
use Rattle.partition.specs.Folders.{CanPartition}
use Rattle.partition.specs.Splitting.{KeyRows}
use Rattle.disk.specs.State.{State as DiskState}
use Rattle.table.specs.Table.{Row, Key, IsRowIn}
use Rattle.table_state.specs.Stands.{AreWaiting}
use Rattle.table_state.specs.Buffers.{keys_in}
use Rattle.table_commits.specs.Filling.{IsBuffer, AreBuffers, IsFew, rows_waiting}
use Rattle.table_jobs.specs.Completing.{completed_rows, completed_buffers}
use Rattle.table_commits.proofs.WaitingRows.{same_length}
use Rattle.table_reads.proofs.WholeRows.{whole_width}

padded_full : (fs : Fields) (row : ValueTrees) → count_fields fs ≤ width row → padded fs row ≡ row
padded_full no_fields row h = refl
padded_full (field f fs) no_values h = absurd (omega (arith, h))
padded_full (field f fs) (item v vs) h = ap (item v) (padded_full fs vs (omega (arith, h)))

-- the whole rows that wait under these keys
abbrev pub whole_of : List KeyRows → List (List Row) → List KeyRows
whole_of [] rss = []
whole_of (w ∷ ws) [] = []
whole_of (w ∷ ws) (rs ∷ rss) = record { key = w.key; rows = rs } ∷ whole_of ws rss

module _ (keys : List KeyColumn) (schema : Fields) where
  abbrev own : Fields
  own = without_keys keys schema

  rows_in : (key : Key) (ws rs : List Row) → RowsFit schema rs → AreRowsOf keys key ws rs → AllByRecursion (IsRowIn schema keys key) rs
  rows_in key [] [] fit are = tt
  rows_in key (w ∷ ws) (r ∷ rs) fit are = (record { fits = fit.0; keyed = are.0.keyed }, rows_in key ws rs fit.1 are.1)
  rows_in key [] (r ∷ rs) fit are = absurd are
  rows_in key (w ∷ ws) [] fit are = absurd are

  fit_of : (key : Key) (rs : List Row) → AllByRecursion (IsRowIn schema keys key) rs → RowsFit schema rs
  fit_of key [] a = tt
  fit_of key (r ∷ rs) a = (a.0.fits, fit_of key rs a.1)

  as_long : (fs : Fields) (ws : List Row) → length (completed_rows fs ws) ≡ length ws
  as_long fs [] = refl
  as_long fs (w ∷ ws) = ap suc (as_long fs ws)

  module _ (are_keys : AreKeys keys schema) where
    one_padded : (key : Key) (w r : Row) → fits_each schema r ≡ true → IsRowOf keys key w r → padded own w ≡ w
    one_padded key w r fit is =
        let a = whole_width schema r fit in
        let b = is.whole in
        let c = keys_and_others keys schema are_keys in
        padded_full own w (omega (arith, a, b, c))

    all_padded : (key : Key) (ws rs : List Row) → AllByRecursion (IsRowIn schema keys key) rs → (k : Key) → AreRowsOf keys k ws rs → AreRowsOf keys k (completed_rows own ws) rs
    all_padded key [] [] a k are = tt
    all_padded key (w ∷ ws) (r ∷ rs) a k are = (subst (λ (x : Row). IsRowOf keys k x r) (sym (one_padded k w r a.0.fits are.0)) are.0, all_padded key ws rs a.1 k are.1)
    all_padded key [] (r ∷ rs) a k are = absurd are
    all_padded key (w ∷ ws) [] a k are = absurd are

  module _ (disk : DiskState) (count size : ℕ) (had : ℕ → Bool) where
    abbrev Waiting : KeyRows → List Row → Type 0
    Waiting w rs = AreWaiting disk keys schema count size had w rs

    -- ---- to go on with

    pub begin_buffers : (ws : List KeyRows) (rss : List (List Row)) → AllZip Waiting ws rss → AreBuffers schema keys (completed_buffers own ws) (whole_of ws rss)
    begin_buffers [] [] z = tt
    begin_buffers (w ∷ ws) (rs ∷ rss) z = (record { key_is = refl; can = z.0.can; are = z.0.are; rows_in = rows_in w.key (completed_rows own w.rows) rs z.0.fit z.0.are }, begin_buffers ws rss z.1)
    begin_buffers [] (rs ∷ rss) z = absurd z
    begin_buffers (w ∷ ws) [] z = absurd z

    one_few : (w : KeyRows) (rs : List Row) → Waiting w rs → (1 ≤ length rs) × (length rs < size)
    one_few w rs z =
        let a = same_length keys w.key (completed_rows own w.rows) rs z.are in
        let b = as_long own w.rows in
        let c = z.some in
        let d = z.few in
        (omega (arith, a, b, c), omega (arith, a, b, d))

    pub long_enough : (w : KeyRows) (rs : List Row) → Waiting w rs → 1 ≤ length rs
    long_enough w rs z = (one_few w rs z).0

    pub begin_few : (ws : List KeyRows) (rss : List (List Row)) → AllZip Waiting ws rss → AllByRecursion (IsFew size) (whole_of ws rss)
    begin_few [] [] z = tt
    begin_few (w ∷ ws) (rs ∷ rss) z = (one_few w rs z.0, begin_few ws rss z.1)
    begin_few [] (rs ∷ rss) z = absurd z
    begin_few (w ∷ ws) [] z = absurd z

    pub begin_keys : (ws : List KeyRows) (rss : List (List Row)) → AllZip Waiting ws rss → keys_in (whole_of ws rss) ≡ keys_in ws
    begin_keys [] [] z = refl
    begin_keys (w ∷ ws) (rs ∷ rss) z = ap (λ (ks : List Key). w.key ∷ ks) (begin_keys ws rss z.1)
    begin_keys [] (rs ∷ rss) z = absurd z
    begin_keys (w ∷ ws) [] z = absurd z

    pub begin_rows : (ws : List KeyRows) (rss : List (List Row)) → AllZip Waiting ws rss → rows_waiting (whole_of ws rss) ≡ flat_map (λ (rs : List Row). rs) rss
    begin_rows [] [] z = refl
    begin_rows (w ∷ ws) (rs ∷ rss) z = ap (λ (xs : List Row). rs ++ xs) (begin_rows ws rss z.1)
    begin_rows [] (rs ∷ rss) z = absurd z
    begin_rows (w ∷ ws) [] z = absurd z

    -- ---- and back

    one_back : AreKeys keys schema → (w v : KeyRows) → IsBuffer schema keys w v → IsFew size v → Waiting w v.rows
    one_back are_keys w v b few =
        let long = same_length keys w.key w.rows v.rows b.are in
        let some = few.0 in
        let less = few.1 in
        record {
          can = subst (λ (k : Key). CanPartition keys k) b.key_is b.can;
          are = all_padded are_keys v.key w.rows v.rows b.rows_in w.key b.are;
          fit = fit_of v.key v.rows b.rows_in;
          some = omega (arith, long, some);
          few = omega (arith, long, less);
        }

    pub waits_back : AreKeys keys schema → (ws vs : List KeyRows) → AreBuffers schema keys ws vs → AllByRecursion (IsFew size) vs → AllZip Waiting ws (map (λ (v : KeyRows). v.rows) vs)
    waits_back are_keys [] [] z few = tt
    waits_back are_keys (w ∷ ws) (v ∷ vs) z few = (one_back are_keys w v z.0 few.0, waits_back are_keys ws vs z.1 few.1)
    waits_back are_keys [] (v ∷ vs) z few = absurd z
    waits_back are_keys (w ∷ ws) [] z few = absurd z

-- their rows, one key's behind another's
pub rows_back : (vs : List KeyRows) → flat_map (λ (rs : List Row). rs) (map (λ (v : KeyRows). v.rows) vs) ≡ rows_waiting vs
rows_back [] = refl
rows_back (v ∷ vs) = ap (λ (xs : List Row). v.rows ++ xs) (rows_back vs)
