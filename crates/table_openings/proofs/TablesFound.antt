-- The table that a description finds on a disk, whatever a stop leaves: it is one, and its groups are stored.
use Rattle.std.proofs.Common.{◌≡◌, ◌<◌, ℕ, suc, List, [], ◌∷◌, length, map, Some, refl, sym, ◌∙◌, ap, subst, arith}
use Rattle.std.specs.Prelude.{Contains}
use Rattle.std.specs.List.{AllByRecursion}
use Rattle.std.proofs.lemmas.List.{length-map}
use Rattle.schema.specs.Shape.{Fields}
use Rattle.schema.specs.Fits.{RowsFit}
use Rattle.schema.specs.Keys.{KeyColumn, AreDistinct, AreRowsOf}
use Rattle.disk.specs.State.{Image, State as DiskState, content, may_leave}
use Rattle.vault.specs.Views.{IsKept, root_path}
use Rattle.partition.specs.Folders.{CanPartition}
use Rattle.partition.specs.Order.{AreInTableOrder}
use Rattle.manifest.specs.Groups.{Group as FileGroup, Root}
use Rattle.manifest.specs.Records.{IsGroup}
use Rattle.manifest.specs.Parts.{PartMeans}
use Rattle.manifest.specs.Root.{RootMeans, IsDescription, stored_of}
use Rattle.schema.specs.Fronts.{padded}
use Rattle.manifest.specs.Table.{ArePartsAt, IsTableOf, path_of_group}
use Rattle.manifest.specs.Laws.{RowsOfPartsFit}
use Rattle.table.specs.Table.{Row, Key, Group, Table, IsTable, IsGroupIn, IsRowIn, numbers}
use Rattle.table_state.specs.Stands.{AreStored}

some_same : (a b : List ℕ) → Some a ≡ Some b → a ≡ b
some_same a b e = cc

-- ---- what is among others

first_among : (f : FileGroup) (fs : List FileGroup) → Contains (f ∷ fs) f
first_among f fs = (0, omega arith, refl)

later_among : (f : FileGroup) (fs : List FileGroup) (x : FileGroup) → Contains fs x → Contains (f ∷ fs) x
later_among f fs x at = (suc at.0, let l = at.1 in omega (arith, l), at.2)

-- ---- a table, its parts as they are found

abbrev table_of : Fields → List KeyColumn → List Group → ℕ → Table
table_of schema keys groups next = record { schema = schema; keys = keys; groups = groups; next = next }

same_table : (fs more : Fields) (ks others : List KeyColumn) (gs : List Group) (n m : ℕ) → fs ≡ more → ks ≡ others → n ≡ m → table_of fs ks gs n ≡ table_of more others gs m
same_table fs more ks others gs n m p q r = cc

rows_counted : (keys : List KeyColumn) (key : Key) (given rows : List Row) → AreRowsOf keys key given rows → length rows ≡ length given
rows_counted keys key [] [] are = refl
rows_counted keys key (s ∷ ss) (r ∷ rs) are = ap (λ (n : ℕ). suc n) (rows_counted keys key ss rs are.1)
rows_counted keys key [] (r ∷ rs) are = absurd are
rows_counted keys key (s ∷ ss) [] are = absurd are

rows_in : (schema : Fields) (keys : List KeyColumn) (key : Key) (given rows : List Row) → AreRowsOf keys key given rows → RowsFit schema rows → AllByRecursion (IsRowIn schema keys key) rows
rows_in schema keys key [] [] are fit = tt
rows_in schema keys key (s ∷ ss) (r ∷ rs) are fit = (record { fits = fit.0; keyed = are.0.keyed }, rows_in schema keys key ss rs are.1 fit.1)
rows_in schema keys key [] (r ∷ rs) are fit = absurd are
rows_in schema keys key (s ∷ ss) [] are fit = absurd are

module _ (disk : DiskState) (root : Root) (t : Table) (each : (c : Image) → may_leave disk c → IsTableOf (content c) root t) (bytes : List ℕ) (kept : IsKept disk root_path bytes)
    (parts_kept : (g : FileGroup) → Contains root.groups g → (b : List ℕ) × IsKept disk (path_of_group root g) b) (seen_may : may_leave disk disk.seen) (fit : RowsOfPartsFit) where
  pub found : IsTableOf (content disk.seen) root t
  found = each disk.seen seen_may

  pub means : RootMeans bytes root
  means = subst (λ (b : List ℕ). RootMeans b root) (some_same found.described.bytes bytes (sym found.described.there ∙ kept disk.seen seen_may)) found.described.means

  pub described : IsDescription root
  described = means.described

  -- the table, in the words of its root
  abbrev read : Table
  read = record { schema = root.schema; keys = root.keys; groups = t.groups; next = root.next }

  is_read : t ≡ read
  is_read = same_table t.schema root.schema t.keys root.keys t.groups t.next root.next found.schema found.keys found.next

  stored_from : (fs : List FileGroup) (gs : List Group) → ArePartsAt (content disk.seen) root fs gs → AllByRecursion (IsGroup root.keys (stored_of root)) fs → AllByRecursion (λ (g : FileGroup). g.number < root.next) fs
      → ((g : FileGroup) → Contains fs g → (b : List ℕ) × IsKept disk (path_of_group root g) b) → AreStored disk root.keys root.schema root.next fs gs
  stored_from [] [] parts groups low keeps = tt
  stored_from (f ∷ fs) (g ∷ gs) parts groups low keeps =
      let held = keeps f (first_among f fs) in
      let one = parts.0 in (
        record {
          number = one.number;
          key = one.key;
          can = groups.0.keyed;
          below = low.0;
          bytes = one.bytes;
          kept = subst (λ (b : List ℕ). IsKept disk (path_of_group root f) b) (some_same held.0 one.bytes (sym (held.1 disk.seen seen_may) ∙ one.there)) held.1;
          means = one.means;
        },
        stored_from fs gs parts.1 groups.1 low.1 (λ x at. keeps x (later_among f fs x at)),
      )
  stored_from [] (g ∷ gs) parts groups low keeps = absurd parts
  stored_from (f ∷ fs) [] parts groups low keeps = absurd parts

  pub stored : AreStored disk t.keys t.schema t.next root.groups t.groups
  stored = subst (λ (x : Table). AreStored disk x.keys x.schema x.next root.groups t.groups) (sym is_read) (stored_from root.groups t.groups found.parts described.each described.below parts_kept)

  -- ---- it is a table

  in_group : (f : FileGroup) (g : Group) (b : List ℕ) → g.key ≡ f.key → IsGroup root.keys (stored_of root) f → PartMeans root.keys (stored_of root) f b g.rows → IsGroupIn root.schema root.keys g
  in_group f g b key is_group part =
      let counted = rows_counted root.keys f.key (map (padded (stored_of root)) part.stored) g.rows part.keyed in
      let some = is_group.some in
      let held = part.holds.count in
      record {
        some = omega (arith, counted, length-map part.stored (padded (stored_of root)), held, some);
        keyed = subst (λ (k : Key). CanPartition root.keys k) (sym key) is_group.keyed;
        rows_in = subst (λ (k : Key). AllByRecursion (IsRowIn root.schema root.keys k) g.rows) (sym key)
            (rows_in root.schema root.keys f.key (map (padded (stored_of root)) part.stored) g.rows part.keyed
            (fit root.keys root.schema f b g.rows described.keys is_group.file is_group.keyed.values part));
      }

  groups_in : (fs : List FileGroup) (gs : List Group) → ArePartsAt (content disk.seen) root fs gs → AllByRecursion (IsGroup root.keys (stored_of root)) fs → AllByRecursion (IsGroupIn root.schema root.keys) gs
  groups_in [] [] parts groups = tt
  groups_in (f ∷ fs) (g ∷ gs) parts groups = (in_group f g parts.0.bytes parts.0.key groups.0 parts.0.means, groups_in fs gs parts.1 groups.1)
  groups_in [] (g ∷ gs) parts groups = absurd parts
  groups_in (f ∷ fs) [] parts groups = absurd parts

  same_keys : (fs : List FileGroup) (gs : List Group) → ArePartsAt (content disk.seen) root fs gs → map (λ (g : FileGroup). g.key) fs ≡ map (λ (g : Group). g.key) gs
  same_keys [] [] parts = refl
  same_keys (f ∷ fs) (g ∷ gs) parts = ap (λ (k : Key). k ∷ map (λ (h : FileGroup). h.key) fs) (sym parts.0.key) ∙ ap (λ (ks : List Key). g.key ∷ ks) (same_keys fs gs parts.1)
  same_keys [] (g ∷ gs) parts = absurd parts
  same_keys (f ∷ fs) [] parts = absurd parts

  same_numbers : (fs : List FileGroup) (gs : List Group) → ArePartsAt (content disk.seen) root fs gs → map (λ (g : FileGroup). g.number) fs ≡ numbers gs
  same_numbers [] [] parts = refl
  same_numbers (f ∷ fs) (g ∷ gs) parts = ap (λ (n : ℕ). n ∷ map (λ (h : FileGroup). h.number) fs) (sym parts.0.number) ∙ ap (λ (ns : List ℕ). g.number ∷ ns) (same_numbers fs gs parts.1)
  same_numbers [] (g ∷ gs) parts = absurd parts
  same_numbers (f ∷ fs) [] parts = absurd parts

  all_below : (fs : List FileGroup) (gs : List Group) → ArePartsAt (content disk.seen) root fs gs → AllByRecursion (λ (g : FileGroup). g.number < root.next) fs → AllByRecursion (λ (g : Group). g.number < root.next) gs
  all_below [] [] parts low = tt
  all_below (f ∷ fs) (g ∷ gs) parts low = (subst (λ (n : ℕ). n < root.next) (sym parts.0.number) low.0, all_below fs gs parts.1 low.1)
  all_below [] (g ∷ gs) parts low = absurd parts
  all_below (f ∷ fs) [] parts low = absurd parts

  read_valid : IsTable read
  read_valid = record {
    schema = described.schema;
    within = described.within;
    keys = described.keys;
    each = groups_in root.groups t.groups found.parts described.each;
    in_order = subst (λ (ks : List Key). AreInTableOrder ks) (same_keys root.groups t.groups found.parts) described.in_order;
    distinct = subst (λ (ns : List ℕ). AreDistinct ns) (same_numbers root.groups t.groups found.parts) described.distinct;
    below = all_below root.groups t.groups found.parts described.below;
  }

  pub valid : IsTable t
  valid = subst (λ (x : Table). IsTable x) (sym is_read) read_valid
