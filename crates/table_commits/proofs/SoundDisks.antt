-- An open store's disk holds its table, whatever a stop leaves.
use Rattle.std.proofs.Common.{◌≡◌, ◌<◌, ◌⊎◌, ℕ, zero, suc, length, List, [], ◌∷◌, Some, refl, sym, ◌∙◌, ap, subst, arith, ⊎_elim}
use Rattle.std.specs.Prelude.{Contains}
use Rattle.std.specs.List.{AllByRecursion, slice_index_or}
use Rattle.schema.specs.Shape.{Fields}
use Rattle.schema.specs.Keys.{KeyColumn}
use Rattle.disk.specs.State.{Image, State as DiskState, content, may_leave}
use Rattle.vault.specs.Views.{IsKept, IsRooted, root_path}
use Rattle.vault.specs.Ways.{IsClearIn}
use Rattle.partition.specs.Folders.{part_path_of}
use Rattle.manifest.specs.Groups.{Group as FileGroup, Root}
use Rattle.manifest.specs.Root.{RootMeans}
use Rattle.manifest.specs.Table.{TableOf, ArePartsAt, NamesPath, path_of_group}
use Rattle.manifest.specs.Laws.{RootsMeanOneTable}
use Rattle.table.specs.Table.{Group, Table}
use Rattle.table_state.specs.OnDisk.{HoldsTable, IsSoundFor}
use Rattle.table_state.specs.Spares.{IsPlace, HasRoom}
use Rattle.table_state.specs.Stands.{AreStored, IsReady}
use Rattle.table_commits.proofs.StoredStays.{IsFileBelow, stored_below, Any, all_any}

some_same : (a b : List ℕ) → Some a ≡ Some b → a ≡ b
some_same a b e = cc

-- what a root and its table's files are, in an image that has both
module _ (disk : DiskState) (count : ℕ) (root : Root) (bytes : List ℕ) (t : Table) (ready : IsReady disk count root bytes t) where
  stored : AreStored disk root.keys root.schema count root.groups t.groups
  stored =
      subst (λ (ks : List KeyColumn). AreStored disk ks root.schema count root.groups t.groups) (sym ready.keys)
      (subst (λ (fs : Fields). AreStored disk t.keys fs count root.groups t.groups) (sym ready.schema) ready.stored)

  -- (the files that are held are in the one image as in the other)
  module _ (Held : FileGroup → Type 0) (held : AllByRecursion Held root.groups) (d c : Image) (may : may_leave disk d) (there : content c root_path ≡ Some bytes)
      (same : (f : FileGroup) → IsFileBelow root.keys count f → Held f → content c (part_path_of root.keys f.key f.number) ≡ content d (part_path_of root.keys f.key f.number)) where
    parts_at : (files : List FileGroup) (groups : List Group) → AllByRecursion Held files → AreStored disk root.keys root.schema count files groups → ArePartsAt (content c) root files groups
    parts_at [] [] h z = tt
    parts_at (f ∷ fs) (g ∷ gs) h z =
        (record { number = z.0.number; key = z.0.key; bytes = z.0.bytes; there = same f (stored_below disk root.keys root.schema count f g z.0) h.0 ∙ z.0.kept d may; means = z.0.means }, parts_at fs gs h.1 z.1)
    parts_at [] (g ∷ gs) h z = absurd z
    parts_at (f ∷ fs) [] h z = absurd z

    files_like : TableOf (content c) t
    files_like = (
      root,
      record {
        described = record { bytes = bytes; there = there; means = ready.means };
        schema = sym ready.schema;
        keys = sym ready.keys;
        next = sym ready.next;
        parts = parts_at root.groups t.groups held stored;
      },
    )

    pub holds_like : ((path : List ℕ) → IsPlace t.keys path → IsClearIn c path) → HoldsTable c t
    holds_like clear = record { files = files_like; room = clear }

  pub holds : HasRoom t.keys disk → (c : Image) → may_leave disk c → content c root_path ≡ Some bytes → HoldsTable c t
  holds room c may there = holds_like Any (all_any root.groups) c c may there (λ f low h. refl) (λ path place. room path place c may)

  -- a file that is stored is the same in each image
  same_file : (c d : Image) → may_leave disk c → may_leave disk d → (files : List FileGroup) (groups : List Group) → AreStored disk root.keys root.schema count files groups
      → (f : FileGroup) (k : ℕ) → k < length files → slice_index_or files k f ≡ f → content d (part_path_of root.keys f.key f.number) ≡ content c (part_path_of root.keys f.key f.number)
  same_file c d at_c at_d (f ∷ fs) (g ∷ gs) z x zero lt e =
      subst (λ (y : FileGroup). content d (part_path_of root.keys y.key y.number) ≡ content c (part_path_of root.keys y.key y.number)) e (z.0.kept d at_d ∙ sym (z.0.kept c at_c))
  same_file c d at_c at_d (f ∷ fs) (g ∷ gs) z x (suc k) lt e = same_file c d at_c at_d fs gs z.1 x k (omega (arith, lt)) e
  same_file c d at_c at_d [] groups z x k lt e = absurd (omega (arith, lt))
  same_file c d at_c at_d (f ∷ fs) [] z x k lt e = absurd z

  -- so is each that the root names, where an image has it
  pub part_same : RootsMeanOneTable → (c d : Image) → may_leave disk c → may_leave disk d → content c root_path ≡ Some bytes → (path : List ℕ) → NamesPath (content c) path → content d path ≡ content c path
  part_same one c d at_c at_d has path named =
      let there = named.1 in
      let read : there.bytes ≡ bytes = some_same there.bytes bytes (sym there.there ∙ has) in
      let same : named.0 ≡ root = one bytes named.0 root (subst (λ (b : List ℕ). RootMeans b named.0) read there.means) ready.means in
      let g = named.2.0 in
      let among : Contains root.groups g = subst (λ (r : Root). Contains r.groups g) same named.2.1 in
      let is : part_path_of root.keys g.key g.number ≡ path = ap (λ (r : Root). path_of_group r g) (sym same) ∙ named.2.2 in
      subst (λ (p : List ℕ). content d p ≡ content c p) is (same_file c d at_c at_d root.groups t.groups stored g among.0 among.1 among.2)

  pub sound_for : HasRoom t.keys disk → RootsMeanOneTable → IsRooted disk → IsKept disk root_path bytes → (Allows : Table → Type 0) → Allows t → IsSoundFor Allows disk
  sound_for room one rooted kept Allows allowed = record {
    tables = λ c may. record { table = t; held = holds room c may (kept c may); allowed = allowed };
    sound = record {
      tables = λ c may. (t, (holds room c may (kept c may)).files);
      parts = λ c d at_c at_d. part_same one c d at_c at_d (kept c at_c);
      rooted = rooted;
    };
  }

-- each image has one root or another, and both tables are stored
module _ (disk : DiskState) (count : ℕ) (root other : Root) (bytes others : List ℕ) (t u : Table) (ready : IsReady disk count root bytes t) (ready_too : IsReady disk count other others u)
    (each : (c : Image) → may_leave disk c → (content c root_path ≡ Some bytes) ⊎ (content c root_path ≡ Some others)) where
  pub sound_for_either : HasRoom t.keys disk → HasRoom u.keys disk → RootsMeanOneTable → IsRooted disk → (Allows : Table → Type 0) → Allows t → Allows u → IsSoundFor Allows disk
  sound_for_either room room_too one rooted Allows allowed allowed_too = record {
    tables = λ c may. ⊎_elim
        (λ is. record { table = t; held = holds disk count root bytes t ready room c may is; allowed = allowed })
        (λ is. record { table = u; held = holds disk count other others u ready_too room_too c may is; allowed = allowed_too })
        (each c may);
    sound = record {
      tables = λ c may. ⊎_elim
          (λ is. (t, (holds disk count root bytes t ready room c may is).files))
          (λ is. (u, (holds disk count other others u ready_too room_too c may is).files))
          (each c may);
      parts = λ c d at_c at_d path named. ⊎_elim
          (λ is. part_same disk count root bytes t ready one c d at_c at_d is path named)
          (λ is. part_same disk count other others u ready_too one c d at_c at_d is path named)
          (each c at_c);
      rooted = rooted;
    };
  }
