-- What is open, over a table with a column more.
use Rattle.std.proofs.Common.{◌≡◌, ℕ, Bool, true, false, List, [], ◌∷◌, ◌++◌, map, flat_map, length, take, drop, refl, sym, ◌∙◌, ap, subst, arith}
use Rattle.std.specs.Prelude.{if◌then◌else◌, ◌==◌, not}
use Rattle.std.specs.List.{AllByRecursion, AllZip, list_all}
use Rattle.std.specs.Ordering.{is_le}
use Rattle.std.proofs.lemmas.Bool.{and_parts, and_from}
use Rattle.schema.specs.declared.value.Repetition.TheVariants.{Optional}
use Rattle.schema.specs.Values.{ValueTree}
use Rattle.schema.specs.Shape.{Field, Fields, count, repetition_of}
use Rattle.schema.specs.Fits.{fits_each, RowsFit}
use Rattle.schema.specs.Keys.{KeyColumn, AreKeys, IsRowOf, AreRowsOf, key_of_row, width, without_keys}
use Rattle.schema.specs.Views.{rows_view}
use Rattle.partition.specs.Order.{key_cmp}
use Rattle.partition.specs.Splitting.{KeyRows, key_rows_view}
use Rattle.disk.specs.State.{State as DiskState}
use Rattle.manifest.specs.Groups.{Group as FileGroup, handles_view}
use Rattle.manifest.specs.Records.{IsGroup}
use Rattle.manifest.proofs.GrownRoots.{grown_parts_mean_rows, group_stays}
use Rattle.snapshots.specs.State.{Pins}
use Rattle.schema.specs.Cutting.{is_among}
use Rattle.table.specs.Table.{Row, Key, Group, rows, numbers}
use Rattle.schema.specs.Fronts.{padded, with_field, with_null}
use Rattle.schema.proofs.Grown.{padded_grows, without_keys_grows, row_grows, keys_and_others, grown_rows_fit, keys_stay}
use Rattle.table.specs.Columns.{widened}
use Rattle.table.specs.InOrder.{put_in_order, in_order}
use Rattle.table.specs.State.{Job, appending, rewriting, sources, widened_job, widened_jobs}
use Rattle.table_state.specs.declared.jobs.OpenJob.{OpenJob}
use Rattle.table_state.specs.declared.jobs.Work.{Work}
use Rattle.table_state.specs.declared.jobs.Work.TheVariants.{Append, Rewrite}
use Rattle.planning.specs.declared.change.Sources.{Sources}
use Rattle.schema.specs.declared.row.Row.{Row as CodeRow}
use Rattle.std.specs.declared.vec.Vec.{Vec}
use Rattle.std.specs.declared.alloc.Global.{Global}
use Rattle.std.proofs.lemmas.List.{take-map as take_mapped, drop-map as drop_mapped, map-append as appended_map}
use Rattle.lists.proofs.Slices.{all_take as all_taken}
use Rattle.lists.proofs.Lists.{length_map as mapped_length, all_append}
use Rattle.table_state.specs.Stands.{IsStored, AreStored, AreWritten, AreWaiting, AreReadOf, ShowsRun, ShowsWork, ShowsJob}
use Rattle.table_reads.proofs.WholeRows.{stored_fit, padded_more, whole_width, wider}

-- ---- lists

flat_mapped : {A B : Type 0} (f : A → B) (xss : List (List A)) → flat_map (λ (xs : List B). xs) (map (map f) xss) ≡ map f (flat_map (λ (xs : List A). xs) xss)
flat_mapped f [] = refl
flat_mapped f (xs ∷ xss) = ap (λ (ys : List _). map f xs ++ ys) (flat_mapped f xss) ∙ sym (appended_map f xs (flat_map (λ (ys : List _). ys) xss))

pub rows_widened : (gs : List Group) → rows (map widened gs) ≡ map with_null (rows gs)
rows_widened [] = refl
rows_widened (g ∷ gs) = ap (λ (ys : List Row). map with_null g.rows ++ ys) (rows_widened gs) ∙ sym (appended_map with_null g.rows (rows gs))

keys_still : (key : Key) (gs : List Group) → AllByRecursion (λ (g : Group). g.key ≡ key) gs → AllByRecursion (λ (g : Group). g.key ≡ key) (map widened gs)
keys_still key [] h = tt
keys_still key (g ∷ gs) h = (h.0, keys_still key gs h.1)

numbers_same : (gs : List Group) → numbers (map widened gs) ≡ numbers gs
numbers_same [] = refl
numbers_same (g ∷ gs) = ap (λ (ns : List ℕ). g.number ∷ ns) (numbers_same gs)

sources_widened : (runs : List (List Group)) → sources (map (map widened) runs) ≡ map widened (sources runs)
sources_widened runs = flat_mapped widened runs

sources_still : (runs : List (List Group)) → numbers (sources (map (map widened) runs)) ≡ numbers (sources runs)
sources_still runs = ap numbers (sources_widened runs) ∙ numbers_same (sources runs)

left_still : (n : ℕ) (runs : List (List Group)) → numbers (drop n (sources (map (map widened) runs))) ≡ numbers (drop n (sources runs))
left_still n runs = ap (λ (gs : List Group). numbers (drop n gs)) (sources_widened runs) ∙ ap numbers (drop_mapped widened n (sources runs)) ∙ numbers_same (drop n (sources runs))

-- what keeps the key keeps the order
module _ {A : Type 0} (key : A → List ValueTree) (h : A → A) (keeps : (x : A) → key (h x) ≡ key x) where
  put_mapped : (x : A) (xs : List A) → put_in_order key (h x) (map h xs) ≡ map h (put_in_order key x xs)
  put_mapped x [] = refl
  put_mapped x (y ∷ ys) =
      ap (λ (k : List ValueTree). if is_le (key_cmp k (key (h y))) then h x ∷ h y ∷ map h ys else h y ∷ put_in_order key (h x) (map h ys)) (keeps x)
      ∙ ap (λ (k : List ValueTree). if is_le (key_cmp (key x) k) then h x ∷ h y ∷ map h ys else h y ∷ put_in_order key (h x) (map h ys)) (keeps y)
      ∙ by (is_le (key_cmp (key x) (key y))) (put_mapped x ys)
    where
      by : (b : Bool) → put_in_order key (h x) (map h ys) ≡ map h (put_in_order key x ys)
          → (if b then h x ∷ h y ∷ map h ys else h y ∷ put_in_order key (h x) (map h ys)) ≡ map h (if b then x ∷ y ∷ ys else y ∷ put_in_order key x ys)
      by true e = refl
      by false e = ap (λ (zs : List A). h y ∷ zs) e

  pub order_mapped : (xs : List A) → in_order key (map h xs) ≡ map h (in_order key xs)
  order_mapped [] = refl
  order_mapped (x ∷ xs) = ap (λ (ys : List A). put_in_order key (h x) ys) (order_mapped xs) ∙ put_mapped x (in_order key xs)

-- ---- rows

module _ (disk : DiskState) (keys : List KeyColumn) (schema : Fields) (f : Field) (are_keys : AreKeys keys schema) (optional : repetition_of f ≡ Optional) where
  abbrev own : Fields
  own = without_keys keys schema

  abbrev grown : Fields
  grown = with_field schema f

  own_grown : without_keys keys grown ≡ with_field own f
  own_grown = without_keys_grows keys schema f are_keys

  key_same : (row : Row) → key_of_row keys (with_null row) ≡ key_of_row keys row
  key_same row = (keys_stay keys schema f are_keys).keyed row

  row_widened : (key : Key) (w row : Row) → fits_each schema row ≡ true → IsRowOf keys key (padded own w) row → IsRowOf keys key (padded (without_keys keys grown) w) (with_null row)
  row_widened key w row fit is =
      let a = whole_width schema row fit in
      let b = is.whole in
      let c = keys_and_others keys schema are_keys in
      let d = wider own w in
      let wide : width (padded own w) ≡ count own = omega (arith, a, b, c) in
      let one = row_grows keys schema key (padded own w) row are_keys wide is in
      subst (λ (x : Row). IsRowOf keys key x (with_null row)) (sym (ap (λ (fs : Fields). padded fs w) own_grown ∙ padded_grows own f w (omega (arith, d, wide)))) one

  rows_so : (key : Key) (ws given : List Row) → RowsFit schema given → AreRowsOf keys key (map (padded own) ws) given → AreRowsOf keys key (map (padded (without_keys keys grown)) ws) (map with_null given)
  rows_so key [] [] fit are = tt
  rows_so key [] (r ∷ rs) fit are = absurd are
  rows_so key (w ∷ ws) [] fit are = absurd are
  rows_so key (w ∷ ws) (r ∷ rs) fit are = (row_widened key w r fit.0 are.0, rows_so key ws rs fit.1 are.1)

  module _ (count_of : ℕ) where
    stored_one : (file : FileGroup) (g : Group) → IsGroup keys own file → IsStored disk keys schema count_of file g → IsStored disk keys grown count_of file (widened g)
    stored_one file g of is = record {
      number = is.number;
      key = is.key;
      can = is.can;
      below = is.below;
      bytes = is.bytes;
      kept = is.kept;
      means = grown_parts_mean_rows keys schema f file is.bytes g.rows are_keys optional of.file is.means;
    }

    pub stored_widened : (files : List FileGroup) (gs : List Group) → AllByRecursion (IsGroup keys own) files → AreStored disk keys schema count_of files gs → AreStored disk keys grown count_of files (map widened gs)
    stored_widened [] [] of z = tt
    stored_widened (x ∷ xs) (g ∷ gs) of z = (stored_one x g of.0 z.0, stored_widened xs gs of.1 z.1)
    stored_widened [] (g ∷ gs) of z = absurd z
    stored_widened (x ∷ xs) [] of z = absurd z

    pub groups_still : (files : List FileGroup) → AllByRecursion (IsGroup keys own) files → AllByRecursion (IsGroup keys (without_keys keys grown)) files
    groups_still [] of = tt
    groups_still (x ∷ xs) of = (subst (λ (fs : Fields). IsGroup keys fs x) (sym own_grown) (group_stays keys own f x optional of.0), groups_still xs of.1)

    full_still : (size : ℕ) (gs : List Group) → list_all (λ (g : Group). length g.rows == size) gs ≡ true → list_all (λ (g : Group). length g.rows == size) (map widened gs) ≡ true
    full_still size [] e = refl
    full_still size (g ∷ gs) e =
        let p = and_parts (length g.rows == size) (list_all (λ (x : Group). length x.rows == size) gs) e in
        and_from (length (map with_null g.rows) == size) (list_all (λ (x : Group). length x.rows == size) (map widened gs)) (ap (λ (n : ℕ). n == size) (mapped_length with_null g.rows) ∙ p.0) (full_still size gs p.1)

    fresh_still : (had : ℕ → Bool) (gs : List Group) → list_all (λ (g : Group). not (had g.number)) gs ≡ true → list_all (λ (g : Group). not (had g.number)) (map widened gs) ≡ true
    fresh_still had [] e = refl
    fresh_still had (g ∷ gs) e =
        let p = and_parts (not (had g.number)) (list_all (λ (x : Group). not (had x.number)) gs) e in
        and_from (not (had g.number)) (list_all (λ (x : Group). not (had x.number)) (map widened gs)) p.0 (fresh_still had gs p.1)

    module _ (size : ℕ) (had : ℕ → Bool) (pins : Pins) where
      written_still : (files : List FileGroup) (gs : List Group) → AreWritten disk keys schema count_of size had pins files gs → AreWritten disk keys grown count_of size had pins files (map widened gs)
      written_still files gs are = record {
        stored = stored_widened files gs are.described are.stored;
        described = groups_still files are.described;
        held = are.held;
        full = full_still size gs are.full;
        fresh = fresh_still had gs are.fresh;
      }

      fit_still : (given : List Row) → RowsFit schema given → RowsFit grown (map with_null given)
      fit_still [] h = tt
      fit_still (r ∷ rs) h = (grown_rows_fit schema f r optional h.0, fit_still rs h.1)

      waiting_still : (ws : List KeyRows) (given : List (List Row)) → AllZip (AreWaiting disk keys schema count_of size had) ws given → AllZip (AreWaiting disk keys grown count_of size had) ws (map (map with_null) given)
      waiting_still [] [] z = tt
      waiting_still (w ∷ ws) (rs ∷ rss) z =
          (record { can = z.0.can; are = rows_so w.key w.rows rs z.0.fit z.0.are; fit = fit_still rs z.0.fit; some = z.0.some; few = z.0.few }, waiting_still ws rss z.1)
      waiting_still [] (rs ∷ rss) z = absurd z
      waiting_still (w ∷ ws) [] z = absurd z

      run_still : (shown : Sources) (run : List Group) → ShowsRun disk keys schema count_of size had pins shown run → ShowsRun disk keys grown count_of size had pins shown (map widened run)
      run_still shown run is = record {
        sources = stored_widened (handles_view shown.groups.items) run is.described is.sources;
        described = groups_still (handles_view shown.groups.items) is.described;
        held = is.held;
        key = is.key;
        keyed = keys_still is.key run is.keyed;
      }

      runs_still : (shown : List Sources) (runs : List (List Group)) → AllZip (ShowsRun disk keys schema count_of size had pins) shown runs → AllZip (ShowsRun disk keys grown count_of size had pins) shown (map (map widened) runs)
      runs_still [] [] z = tt
      runs_still (x ∷ xs) (r ∷ rs) z = (run_still x r z.0, runs_still xs rs z.1)
      runs_still [] (r ∷ rs) z = absurd z
      runs_still (x ∷ xs) [] z = absurd z

      -- what was read of groups that fit
      abbrev Fits : Group → Type 0
      Fits g = RowsFit schema g.rows

      run_fits : (files : List FileGroup) (gs : List Group) → AllByRecursion (IsGroup keys own) files → AreStored disk keys schema count_of files gs → AllByRecursion Fits gs
      run_fits [] [] of z = tt
      run_fits (x ∷ xs) (g ∷ gs) of z = (stored_fit disk keys schema count_of x g are_keys of.0 z.0, run_fits xs gs of.1 z.1)
      run_fits [] (g ∷ gs) of z = absurd z
      run_fits (x ∷ xs) [] of z = absurd z

      sources_fit : (shown : List Sources) (runs : List (List Group)) → AllZip (ShowsRun disk keys schema count_of size had pins) shown runs → AllByRecursion Fits (sources runs)
      sources_fit [] [] z = tt
      sources_fit (x ∷ xs) (r ∷ rs) z = all_append Fits r (sources rs) (run_fits (handles_view x.groups.items) r z.0.described z.0.sources) (sources_fit xs rs z.1)
      sources_fit [] (r ∷ rs) z = absurd z
      sources_fit (x ∷ xs) [] z = absurd z

      each_read : (read : List (Vec CodeRow Global)) (gs : List Group) → AllByRecursion Fits gs → AllZip (AreReadOf disk keys schema count_of size had) read gs → AllZip (AreReadOf disk keys grown count_of size had) read (map widened gs)
      each_read [] [] fit z = tt
      each_read (x ∷ xs) (g ∷ gs) fit z = (padded_more schema f (rows_view x.items) g.rows fit.0 z.0, each_read xs gs fit.1 z.1)
      each_read [] (g ∷ gs) fit z = absurd z
      each_read (x ∷ xs) [] fit z = absurd z

      read_still : (n : ℕ) (read : List (Vec CodeRow Global)) (shown : List Sources) (runs : List (List Group)) → AllZip (ShowsRun disk keys schema count_of size had pins) shown runs
          → AllZip (AreReadOf disk keys schema count_of size had) read (take n (sources runs)) → AllZip (AreReadOf disk keys grown count_of size had) read (take n (sources (map (map widened) runs)))
      read_still n read shown runs each z =
          subst (λ (gs : List Group). AllZip (AreReadOf disk keys grown count_of size had) read gs) (sym (ap (take n) (sources_widened runs) ∙ take_mapped widened n (sources runs)))
          (each_read read (take n (sources runs)) (all_taken Fits n (sources runs) (sources_fit shown runs each)) z)

      work_still : (shown : Work) (j : Job) → ShowsWork disk keys schema count_of size had pins shown j → ShowsWork disk keys grown count_of size had pins shown (widened_job j)
      work_still (Append shown) (appending staged) is = record {
        groups = map widened is.groups;
        are_written = written_still (handles_view shown.written.items) is.groups is.are_written;
        waiting = map (map with_null) is.waiting;
        are_waiting = waiting_still (map key_rows_view shown.waiting.items) is.waiting is.are_waiting;
        rising = is.rising;
        free = is.free;
        all =
            let key = key_of_row keys in
            let given = rows is.groups ++ flat_map (λ (rs : List Row). rs) is.waiting in
            ap (in_order key) (ap (λ (xs : List Row). xs ++ flat_map (λ (rs : List Row). rs) (map (map with_null) is.waiting)) (rows_widened is.groups) ∙ ap (λ (xs : List Row). map with_null (rows is.groups) ++ xs) (flat_mapped with_null is.waiting)
            ∙ sym (appended_map with_null (rows is.groups) (flat_map (λ (rs : List Row). rs) is.waiting)))
            ∙ order_mapped key with_null key_same given ∙ ap (map with_null) is.all ∙ sym (order_mapped key with_null key_same staged);
      }
      work_still (Rewrite shown) (rewriting runs unread) is = record {
        each = runs_still shown.runs.items runs is.each;
        as_many = let r = is.as_many in let l = ap length (sources_widened runs) ∙ mapped_length widened (sources runs) in omega (arith, r, l);
        read = read_still (length shown.read.items) shown.read.items shown.runs.items runs is.each is.read;
        left = is.left ∙ sym (left_still (length shown.read.items) runs);
        pinned = subst (λ (ns : List ℕ). AllByRecursion (λ n. is_among ns n ≡ true) pins.sources) (sym (sources_still runs)) is.pinned;
      }
      work_still (Append shown) (rewriting runs unread) is = absurd is
      work_still (Rewrite shown) (appending staged) is = absurd is

    pub jobs_widened : (size : ℕ) (had : ℕ → Bool) (held : List (ℕ × Pins)) (shown : List OpenJob) (js : List (ℕ × Job)) → AllZip (ShowsJob disk keys schema count_of size had held) shown js
        → AllZip (ShowsJob disk keys grown count_of size had held) shown (widened_jobs js)
    jobs_widened size had held [] [] z = tt
    jobs_widened size had held (x ∷ xs) (j ∷ js) z =
        (record { number = z.0.number; pins = z.0.pins; pinned = z.0.pinned; work = work_still size had z.0.pins x.work j.1 z.0.work }, jobs_widened size had held xs js z.1)
    jobs_widened size had held [] (j ∷ js) z = absurd z
    jobs_widened size had held (x ∷ xs) [] z = absurd z
