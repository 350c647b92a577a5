-- The files of a folder are a table: it has what tables have.
use Rattle.std.proofs.Common.{◌≡◌, ◌<◌, ℕ, suc, List, [], ◌∷◌, length, map, refl, sym, ◌∙◌, ap, subst, arith}
use Rattle.std.specs.List.{AllByRecursion}
use Rattle.std.proofs.lemmas.List.{length-map}
use Rattle.schema.specs.Shape.{Fields}
use Rattle.schema.specs.Fits.{RowsFit}
use Rattle.schema.specs.Keys.{KeyColumn, AreDistinct, AreRowsOf}
use Rattle.schema.specs.Fronts.{padded}
use Rattle.partition.specs.Folders.{CanPartition}
use Rattle.partition.specs.Order.{AreInTableOrder}
use Rattle.table.specs.Table.{Row, Key, IsTable, IsGroupIn, IsRowIn, numbers}
use Rattle.manifest.specs.Groups.{Group, Root}
use Rattle.manifest.specs.Records.{IsGroup}
use Rattle.manifest.specs.Parts.{PartMeans}
use Rattle.manifest.specs.Root.{IsDescription, stored_of}
use Rattle.manifest.specs.Table.{Rows, Table, Files, ArePartsAt}
use Rattle.manifest.specs.Laws.{FilesAreTables}
use Rattle.manifest.proofs.PartRows.{rows_of_parts_fit}

rows_counted : (keys : List KeyColumn) (key : Key) (given rows : List Row) → AreRowsOf keys key given rows → length rows ≡ length given
rows_counted keys key [] [] are = refl
rows_counted keys key (s ∷ ss) (r ∷ rs) are = ap suc (rows_counted keys key ss rs are.1)
rows_counted keys key [] (r ∷ rs) are = absurd are
rows_counted keys key (s ∷ ss) [] are = absurd are

rows_in : (schema : Fields) (keys : List KeyColumn) (key : Key) (given rows : List Row) → AreRowsOf keys key given rows → RowsFit schema rows → AllByRecursion (IsRowIn schema keys key) rows
rows_in schema keys key [] [] are fit = tt
rows_in schema keys key (s ∷ ss) (r ∷ rs) are fit = (record { fits = fit.0; keyed = are.0.keyed }, rows_in schema keys key ss rs are.1 fit.1)
rows_in schema keys key [] (r ∷ rs) are fit = absurd are
rows_in schema keys key (s ∷ ss) [] are fit = absurd are

module _ (files : Files) (root : Root) (described : IsDescription root) where
  in_group : (f : Group) (g : Rows) (b : List ℕ) → g.key ≡ f.key → IsGroup root.keys (stored_of root) f → PartMeans root.keys (stored_of root) f b g.rows → IsGroupIn root.schema root.keys g
  in_group f g b key is_group part =
      let counted = rows_counted root.keys f.key (map (padded (stored_of root)) part.stored) g.rows part.keyed in
      let some = is_group.some in
      let held = part.holds.count in
      record {
        some = omega (arith, counted, length-map part.stored (padded (stored_of root)), held, some);
        keyed = subst (λ (k : Key). CanPartition root.keys k) (sym key) is_group.keyed;
        rows_in = subst (λ (k : Key). AllByRecursion (IsRowIn root.schema root.keys k) g.rows) (sym key)
            (rows_in root.schema root.keys f.key (map (padded (stored_of root)) part.stored) g.rows part.keyed
            (rows_of_parts_fit root.keys root.schema f b g.rows described.keys is_group.file is_group.keyed.values part));
      }

  groups_in : (fs : List Group) (gs : List Rows) → ArePartsAt files root fs gs → AllByRecursion (IsGroup root.keys (stored_of root)) fs → AllByRecursion (IsGroupIn root.schema root.keys) gs
  groups_in [] [] parts groups = tt
  groups_in (f ∷ fs) (g ∷ gs) parts groups = (in_group f g parts.0.bytes parts.0.key groups.0 parts.0.means, groups_in fs gs parts.1 groups.1)
  groups_in [] (g ∷ gs) parts groups = absurd parts
  groups_in (f ∷ fs) [] parts groups = absurd parts

  same_keys : (fs : List Group) (gs : List Rows) → ArePartsAt files root fs gs → map (λ (g : Group). g.key) fs ≡ map (λ (g : Rows). g.key) gs
  same_keys [] [] parts = refl
  same_keys (f ∷ fs) (g ∷ gs) parts = ap (λ (k : Key). k ∷ map (λ (h : Group). h.key) fs) (sym parts.0.key) ∙ ap (λ (ks : List Key). g.key ∷ ks) (same_keys fs gs parts.1)
  same_keys [] (g ∷ gs) parts = absurd parts
  same_keys (f ∷ fs) [] parts = absurd parts

  same_numbers : (fs : List Group) (gs : List Rows) → ArePartsAt files root fs gs → map (λ (g : Group). g.number) fs ≡ numbers gs
  same_numbers [] [] parts = refl
  same_numbers (f ∷ fs) (g ∷ gs) parts = ap (λ (n : ℕ). n ∷ map (λ (h : Group). h.number) fs) (sym parts.0.number) ∙ ap (λ (ns : List ℕ). g.number ∷ ns) (same_numbers fs gs parts.1)
  same_numbers [] (g ∷ gs) parts = absurd parts
  same_numbers (f ∷ fs) [] parts = absurd parts

  all_below : (fs : List Group) (gs : List Rows) → ArePartsAt files root fs gs → AllByRecursion (λ (g : Group). g.number < root.next) fs → AllByRecursion (λ (g : Rows). g.number < root.next) gs
  all_below [] [] parts low = tt
  all_below (f ∷ fs) (g ∷ gs) parts low = (subst (λ (n : ℕ). n < root.next) (sym parts.0.number) low.0, all_below fs gs parts.1 low.1)
  all_below [] (g ∷ gs) parts low = absurd parts
  all_below (f ∷ fs) [] parts low = absurd parts

  valid : (gs : List Rows) → ArePartsAt files root root.groups gs → IsTable (record { schema = root.schema; keys = root.keys; groups = gs; next = root.next })
  valid gs parts = record {
    schema = described.schema;
    within = described.within;
    keys = described.keys;
    each = groups_in root.groups gs parts described.each;
    in_order = subst (λ (ks : List Key). AreInTableOrder ks) (same_keys root.groups gs parts) described.in_order;
    distinct = subst (λ (ns : List ℕ). AreDistinct ns) (same_numbers root.groups gs parts) described.distinct;
    below = all_below root.groups gs parts described.below;
  }

same_table : (t : Table) (fs : Fields) (ks : List KeyColumn) (n : ℕ) → t.schema ≡ fs → t.keys ≡ ks → t.next ≡ n → t ≡ record { schema = fs; keys = ks; groups = t.groups; next = n }
same_table t fs ks n p q r = λ i. record { schema = p i; keys = q i; groups = t.groups; next = r i }

pub files_are_tables : FilesAreTables
files_are_tables files t h =
    let root = h.0 in
    let is = h.1 in
    subst (λ (x : Table). IsTable x) (sym (same_table t root.schema root.keys root.next is.schema is.keys is.next)) (valid files root is.described.means.described t.groups is.parts)
