-- A cursor that goes from group to group.
use Rattle.std.proofs.Common.{◌≡◌, ◌≤◌, ◌<◌, ◌+◌, ◌-◌, ℕ, zero, suc, Bool, true, false, nat_lt, ◌==◌, List, [], ◌∷◌, ◌++◌, map, filter, drop, length, Option, Some, None, Ok, refl, sym, ◌∙◌, ap, subst, arith}
use Rattle.std.specs.Prelude.{if◌then◌else◌, slice_get, is_some}
use Rattle.std.specs.List.{AllByRecursion}
use Rattle.std.proofs.lemmas.Bool.{eqb-true, lt-ltb, false≢true}
use Rattle.lists.proofs.Slices.{drop_past as drop_all}
use Rattle.schema.specs.Values.{ValueTrees}
use Rattle.schema.specs.Shape.{Fields, count as count_fields}
use Rattle.schema.specs.Keys.{KeyColumn, AreKeys, without_keys, width}
use Rattle.disk.specs.State.{State as DiskState}
use Rattle.vault.specs.Views.{Same}
use Rattle.vault.proofs.Moments.{kept_on}
use Rattle.partition.specs.Folders.{part_path_of}
use Rattle.filter.specs.Test.{Test, tests_in}
use Rattle.filter.specs.Deciding.{satisfies as all_satisfied}
use Rattle.manifest.specs.Groups.{Group as FileGroup, Root, root_of}
use Rattle.manifest.specs.Records.{IsGroup}
use Rattle.scan.specs.declared.group_rows.GroupRows.{GroupRows}
use Rattle.scan.specs.Selected.{IsOver, Holds, AreSelected, cut_to}
use Rattle.snapshots.specs.State.{State as Versions, open_at, group_in, version_at}
use Rattle.table.specs.Table.{Row, Group}
use Rattle.table.specs.Cursors.{Cursor, cut, batches_of}
use Rattle.table.proofs.Deciding.{tests_decide}
use Rattle.table_state.specs.declared.jobs.OpenCursor.{OpenCursor}
use Rattle.table_state.specs.Stands.{IsStored, AreStored, ShowsCursor}
use Rattle.table_reads.specs.Reading.{OnlyReads, ReadsFor, IsReading}
use Rattle.table_reads.specs.Passing.{AreReached, GoesTo, Comes, batches_with, batches_from}
use Rattle.table_reads.proofs.CutColumns.{cut_each, all_wide}
use Rattle.table_reads.proofs.ReadsOfPassedGroups.{reading_here, reading_on, from_then, one_from, goes_nowhere}

-- ---- batches

split_first : (test : Row → Bool) (places : List ℕ) (g : Group) (gs : List Group) (rs : List Row) → map (cut places) (filter test g.rows) ≡ rs → batches_of test places (g ∷ gs) ≡ batches_with places rs ++ batches_of test places gs
split_first test places g gs rs e = ap (λ (xs : List Row). if nat_lt 0 (length xs) then record { places = places; rows = xs } ∷ batches_of test places gs else batches_of test places gs) e ∙ by rs
  where
    by : (xs : List Row) → (if nat_lt 0 (length xs) then record { places = places; rows = xs } ∷ batches_of test places gs else batches_of test places gs) ≡ batches_with places xs ++ batches_of test places gs
    by [] = refl
    by (x ∷ xs) = ap (λ (b : Bool). if b then record { places = places; rows = x ∷ xs } ∷ batches_of test places gs else batches_of test places gs) (lt-ltb 0 (length (x ∷ xs)) (omega arith))

pub no_rows : {A : Type 0} (xs : List A) → (length xs == 0) ≡ true → xs ≡ []
no_rows [] e = refl
no_rows (x ∷ xs) e = let z = eqb-true (length (x ∷ xs)) 0 e in absurd (omega (arith, z))

-- rows are reached where something was read
pub some_reached : (read : Option GroupRows) (rows : List Row) → is_some read ≡ true → AreReached read rows → rows ≡ [] → ⊥
some_reached None rows e are none = false≢true e
some_reached (Some g) rows e are none = are.1 none

pub none_reached : (read : Option GroupRows) (rows : List Row) → is_some read ≡ false → AreReached read rows → rows ≡ []
none_reached None rows e are = are
none_reached (Some g) rows e are = absurd (false≢true (sym e))

-- ---- the group at a place

module _ (disk : DiskState) (keys : List KeyColumn) (schema : Fields) (count : ℕ) where
  abbrev IsAt : List FileGroup → List Group → ℕ → Type 0
  IsAt files groups p = (f : FileGroup) × (g : Group) × (slice_get files p ≡ Some f) × (drop p groups ≡ g ∷ drop (suc p) groups) × IsStored disk keys schema count f g × IsGroup keys (without_keys keys schema) f

  zip_at : (files : List FileGroup) (groups : List Group) (p : ℕ) → AreStored disk keys schema count files groups → AllByRecursion (IsGroup keys (without_keys keys schema)) files → p < length files → IsAt files groups p
  zip_at [] gs p z d low = absurd (omega (arith, low))
  zip_at (f ∷ fs) [] p z d low = absurd z
  zip_at (f ∷ fs) (g ∷ gs) zero z d low = (f, g, refl, refl, z.0, d.0)
  zip_at (f ∷ fs) (g ∷ gs) (suc p) z d low = zip_at fs gs p z.1 d.1 (omega (arith, low))

  pub as_many : (files : List FileGroup) (groups : List Group) → AreStored disk keys schema count files groups → length groups ≡ length files
  as_many [] [] z = refl
  as_many (f ∷ fs) (g ∷ gs) z = let r = as_many fs gs z.1 in omega (arith, r)
  as_many [] (g ∷ gs) z = absurd z
  as_many (f ∷ fs) [] z = absurd z

module _ (old : DiskState) (versions : Versions) (c : OpenCursor) where
  abbrev root : Root
  root = root_of c.table

  abbrev tests : List (List Test)
  tests = tests_in c.filter

  abbrev places : List ℕ
  places = c.places.items

  abbrev there_at : ℕ → Option FileGroup
  there_at p = group_in (version_at versions (Some c.number)) p

  -- so far: up to a place
  pub record Going (at : ℕ) (now : DiskState) : Type 0 where
    pub read : IsReading old now
    pub goes : (version : List FileGroup) → open_at c.number versions.cursors ≡ Some version → GoesTo c version at old now
    pub unheld : open_at c.number versions.cursors ≡ None → now.reads ≡ old.reads
    pub none : old.honest → (keys : List KeyColumn) (count : ℕ) (d : ℕ × Cursor) (z : ShowsCursor old versions.cursors keys count c d) → batches_from c z.groups c.passed ≡ batches_from c z.groups at

  pub going_here : Going c.passed old
  going_here = record { read = reading_here old; goes = λ version e. goes_nowhere c version old; unheld = λ none. refl; none = λ h keys count d z. refl }

  -- ---- the next group

  module _ (p : ℕ) (mid new : DiskState) (so_far : Going p mid) where
    goes_on : (version : List FileGroup) → GoesTo c version p old mid → (g : FileGroup) → slice_get version p ≡ Some g → ReadsFor tests root.keys root.schema places g mid new → GoesTo c version (suc p) old new
    goes_on version to g e r = record {
      count = to.count + (new.reads - mid.reads);
      most = from_then tests root.keys root.schema places version c.passed p (suc p) to.count (new.reads - mid.reads) to.most
          (one_from tests root.keys root.schema places version p (new.reads - mid.reads) g e (record {
            most = (let a = r.no_more in let b = r.no_less in omega (arith, a, b));
            none = λ out. let a = r.none out in omega (arith, a);
          }));
      no_more = (let a = to.no_more in let b = r.no_less in let l = to.no_less in omega (arith, a, b, l));
      no_less = (let a = to.no_less in let b = r.no_less in omega (arith, a, b));
    }

    stays_at : (version : List FileGroup) → GoesTo c version p old mid → new.reads ≡ mid.reads → GoesTo c version p old new
    stays_at version to e = record { count = to.count; most = to.most; no_more = (let a = to.no_more in omega (arith, a, e)); no_less = (let a = to.no_less in omega (arith, a, e)) }

    module _ (reads : (g : FileGroup) → there_at p ≡ Some g → ReadsFor tests root.keys root.schema places g mid new) where
      pub went_on : (there_at p ≡ None → ⊥) → (version : List FileGroup) → open_at c.number versions.cursors ≡ Some version → GoesTo c version (suc p) old new
      went_on missing version e = by (slice_get version p) refl
        where
          at_is : there_at p ≡ slice_get version p
          at_is = ap (λ (o : Option (List FileGroup)). group_in o p) e

          by : (o : Option FileGroup) → slice_get version p ≡ o → GoesTo c version (suc p) old new
          by None f = absurd (missing (at_is ∙ f))
          by (Some g) f = goes_on version (so_far.goes version e) g f (reads g (at_is ∙ f))

      pub went_or_not : (there_at p ≡ None → new.reads ≡ mid.reads) → (version : List FileGroup) → open_at c.number versions.cursors ≡ Some version → (to : ℕ) × GoesTo c version to old new
      went_or_not missing version e = by (slice_get version p) refl
        where
          at_is : there_at p ≡ slice_get version p
          at_is = ap (λ (o : Option (List FileGroup)). group_in o p) e

          by : (o : Option FileGroup) → slice_get version p ≡ o → (to : ℕ) × GoesTo c version to old new
          by None f = (p, stays_at version (so_far.goes version e) (missing (at_is ∙ f)))
          by (Some g) f = (suc p, goes_on version (so_far.goes version e) g f (reads g (at_is ∙ f)))

    -- without a version there is no group, and nothing is read
    pub unheld_here : (there_at p ≡ None → new.reads ≡ mid.reads) → open_at c.number versions.cursors ≡ None → new.reads ≡ old.reads
    unheld_here missing none = missing (ap (λ (o : Option (List FileGroup)). group_in o p) none) ∙ so_far.unheld none

    -- ---- by what the cursor shows

    module _ (honest : old.honest) (keys : List KeyColumn) (count : ℕ) (d : ℕ × Cursor) (z : ShowsCursor old versions.cursors keys count c d) (low : p < length root.groups) where
      pub spot : IsAt old keys root.schema count root.groups z.groups p
      spot = zip_at old keys root.schema count root.groups z.groups p z.stored z.made.groups low

      abbrev pub file : FileGroup
      file = spot.0

      abbrev pub group : Group
      group = spot.1

      stored : IsStored old keys root.schema count file group
      stored = spot.4

      pub is_there : there_at p ≡ Some file
      is_there = ap (λ (o : Option (List FileGroup)). group_in o p) z.pinned ∙ spot.2

      held_so : Holds mid keys root.schema file group.rows
      held_so = record {
        bytes = stored.bytes;
        is = spot.5;
        kept = kept_on Same old mid (so_far.read.unchanged honest).moments (part_path_of keys file.key file.number) stored.bytes (λ u v h. h (part_path_of keys file.key file.number)) stored.kept;
        means = stored.means;
      }

      pub held : Holds mid root.keys root.schema file group.rows
      held = subst (λ (ks : List KeyColumn). Holds mid ks root.schema file group.rows) (sym z.keyed) held_so

      pub can : AreKeys root.keys root.schema
      can = subst (λ (ks : List KeyColumn). AreKeys ks root.schema) (sym z.keyed) z.made.can

      pub over : IsOver tests root.schema
      over = (z.made.terms, z.made.filter)

      wide : AllByRecursion (λ row. count_fields root.schema ≤ width row) group.rows
      wide = all_wide keys root.schema file.key z.made.can stored.means.stored group.rows stored.means.keyed

      selected : (out : List Row) → AreSelected tests places group.rows out → map (cut places) (filter (all_satisfied tests) group.rows) ≡ out
      selected out h = sym (h (all_satisfied tests) (tests_decide tests)
          ∙ subst (λ (ps : List ℕ). map (cut_to ps) (filter (all_satisfied tests) group.rows) ≡ map (cut ps) (filter (all_satisfied tests) group.rows)) (sym z.made.places) (cut_each z.made.columns root.schema (all_satisfied tests) group.rows wide))

      pub passes_one : (out : List Row) → AreSelected tests places group.rows out → batches_from c z.groups c.passed ≡ batches_with places out ++ batches_from c z.groups (suc p)
      passes_one out h = so_far.none honest keys count d z ∙ ap (λ (gs : List Group). batches_of (all_satisfied tests) places gs) spot.3 ∙ split_first (all_satisfied tests) places group (drop (suc p) z.groups) out (selected out h)

    -- ---- the loop's exits

    module _ (q : ℕ) (q_is : q ≡ suc p) (read : Option GroupRows) (out : List Row) (reads : (g : FileGroup) → there_at p ≡ Some g → ReadsFor tests root.keys root.schema places g mid new) (there : there_at p ≡ None → ⊥)
        (effect : OnlyReads {T = Option GroupRows} mid new (Ok read))
        (stands : mid.honest → IsOver tests root.schema → AreKeys root.keys root.schema → (g : FileGroup) (rows : List ValueTrees) → there_at p ≡ Some g → Holds mid root.keys root.schema g rows → AreSelected tests places rows out)
        (low : p < length root.groups) where
      pub goes_past : (version : List FileGroup) → open_at c.number versions.cursors ≡ Some version → GoesTo c version q old new
      goes_past version e = subst (λ (n : ℕ). GoesTo c version n old new) (sym q_is) (went_on reads there version e)

      -- the group is there, so that a version is held
      pub held_one : open_at c.number versions.cursors ≡ None → new.reads ≡ old.reads
      held_one none = absurd (there (ap (λ (o : Option (List FileGroup)). group_in o p) none))

      pub read_on : IsReading old new
      read_on = reading_on old mid new read so_far.read effect

      gives : (honest : old.honest) (keys : List KeyColumn) (count : ℕ) (d : ℕ × Cursor) (z : ShowsCursor old versions.cursors keys count c d) → batches_from c z.groups c.passed ≡ batches_with places out ++ batches_from c z.groups q
      gives honest keys count d z = subst (λ (n : ℕ). batches_from c z.groups c.passed ≡ batches_with places out ++ batches_from c z.groups n) (sym q_is)
          (passes_one honest keys count d z low out
          (stands (so_far.read.honest.0 honest) (over honest keys count d z low) (can honest keys count d z low) (file honest keys count d z low) (group honest keys count d z low).rows (is_there honest keys count d z low) (held honest keys count d z low)))

      pub passes_over : out ≡ [] → Going q new
      passes_over none = record {
        read = read_on;
        goes = goes_past;
        unheld = held_one;
        none = λ honest keys count d z. gives honest keys count d z ∙ ap (λ (rs : List Row). batches_with places rs ++ batches_from c z.groups q) none;
      }

      pub comes_to : (out ≡ [] → ⊥) → (honest : old.honest) (keys : List KeyColumn) (count : ℕ) (d : ℕ × Cursor) (z : ShowsCursor old versions.cursors keys count c d) → Comes c z.groups q out
      comes_to some honest keys count d z = record { batches = gives honest keys count d z; none = λ e. absurd (some e) }

  -- ---- the end

  pub none_left : (p : ℕ) (now : DiskState) → Going p now → old.honest → (keys : List KeyColumn) (count : ℕ) (d : ℕ × Cursor) (z : ShowsCursor old versions.cursors keys count c d) → length root.groups ≤ p
      → (passed : ℕ) (rows : List Row) → rows ≡ [] → passed ≡ p → Comes c z.groups passed rows
  none_left p now so_far honest keys count d z le passed rows none same = record {
    batches = so_far.none honest keys count d z ∙ ap (batches_from c z.groups) (sym same) ∙ sym (ap (λ (rs : List Row). batches_with places rs ++ batches_from c z.groups passed) none);
    none = λ e. ap (batches_from c z.groups) same ∙ ap (λ (gs : List Group). batches_of (all_satisfied tests) places gs) (drop_all z.groups p (let m = as_many old keys root.schema count root.groups z.groups z.stored in omega (arith, le, m)));
  }
