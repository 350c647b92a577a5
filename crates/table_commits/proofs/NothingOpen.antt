-- Where nothing is open, nothing needs a file that the root does not name.
use Rattle.std.proofs.Common.{◌≡◌, ◌≤◌, ◌^◌, ℕ, suc, Bool, true, false, ◌==◌, ◌||◌, eqb-true, List, [], ◌∷◌, reverse, refl, sym, ◌∙◌, ap, subst, arith, inl, inr}
use Rattle.std.specs.Prelude.{Contains, IsTrue}
use Rattle.std.specs.List.{list_any}
use Rattle.std.specs.Ordering.{is_eq}
use Rattle.std.proofs.lemmas.Bool.{and_parts}
use Rattle.lists.proofs.Booleans.{equal_by_is_eq as equal}
use Rattle.schema.specs.Values.{ValueTree}
use Rattle.schema.specs.Shape.{Fields}
use Rattle.schema.specs.Keys.{KeyColumn}
use Rattle.disk.specs.State.{State as DiskState}
use Rattle.vault.specs.declared.vault.Vault.{Vault}
use Rattle.vault.specs.Views.{IsRooted, StaysRooted, root_path}
use Rattle.vault.specs.Ways.{LeavesWays}
use Rattle.vault.proofs.Moments.{widens}
use Rattle.vault.proofs.Names.{root_not_next}
use Rattle.partition.specs.Folders.{is_key, part_path_of}
use Rattle.partition.specs.Order.{key_cmp}
use Rattle.partition.proofs.SameKeys.{equal_key}
use Rattle.manifest.specs.Groups.{Group as FileGroup, Root, root_of}
use Rattle.recovery.specs.Opening.{IsLitter, AllButLitter, Cleans, IsClean}
use Rattle.snapshots.specs.State.{State as Versions, Pins, File, file_of, is_same, names, is_pinned, is_needed}
use Rattle.snapshots.specs.Views.{state_of}
use Rattle.table.specs.Table.{Group}
use Rattle.table.specs.State.{State}
use Rattle.table_state.specs.declared.standing.Core.{Core}
use Rattle.table_state.specs.declared.jobs.OpenJob.{OpenJob}
use Rattle.table_state.specs.declared.jobs.OpenCursor.{OpenCursor}
use Rattle.table_state.specs.Spares.{Agrees, Spares}
use Rattle.table_state.specs.Stands.{AreStored, Shows, ShowsOpen, numbers_at, job_numbers, cursor_numbers}
use Rattle.table_commits.specs.Cleaning.{Clears}
use Rattle.table_commits.proofs.StoredStays.{IsFileBelow, InUse}
use Rattle.table_commits.proofs.TrackedFiles.{clean_names, current_tracked}
use Rattle.table_commits.proofs.StateCarriedOver.{shown}
use Rattle.table_commits.proofs.PartFilesWritten.{same_use}
use Rattle.table_commits.proofs.AfterCleanings.{still}

-- ---- what is needed where nothing is open

pub none_open : {A : Type 0} (xs : List (ℕ × A)) → numbers_at xs ≡ [] → xs ≡ []
none_open [] e = refl
none_open (x ∷ xs) e = absurd (cc)

first_only : (a b c : Bool) → (a || (b || c)) ≡ true → b ≡ false → c ≡ false → a ≡ true
first_only true b c e f g = refl
first_only false true c e f g = absurd (cc)
first_only false false true e f g = absurd (cc)
first_only false false false e f g = absurd (cc)

pub named_now : (v : Versions) → v.cursors ≡ [] → v.jobs ≡ [] → (f : File) → is_needed v f ≡ true → names v.current f ≡ true
named_now v cursors jobs f needed = first_only (names v.current f) (list_any (λ c. names c.1 f) v.cursors) (list_any (λ j. is_pinned f j.1) v.jobs) needed
    (ap (λ (cs : List (ℕ × List FileGroup)). list_any (λ c. names c.1 f) cs) cursors)
    (ap (λ (js : List (ℕ × Pins)). list_any (λ j. is_pinned f j.1) js) jobs)

-- ---- where a file stands that is named

module _ (disk : DiskState) (keys : List KeyColumn) (schema : Fields) (count : ℕ) where
  -- a version that names a file has a group at its path
  abbrev HasAt : List FileGroup → File → Type 0
  HasAt files f = (g : FileGroup) × Contains files g × (part_path_of keys g.key g.number ≡ part_path_of keys f.key f.number)

  pub named_at : (f : File) → IsTrue (is_key keys f.key) → (files : List FileGroup) (groups : List Group) → AreStored disk keys schema count files groups → names files f ≡ true → HasAt files f
  named_at f key [] [] z e = absurd (cc)
  named_at f key [] (g ∷ gs) z e = absurd z
  named_at f key (x ∷ xs) [] z e = absurd z
  named_at f key (x ∷ xs) (g ∷ gs) z e = by (is_same (file_of x) f) refl e (named_at f key xs gs z.1)
    where
      by : (b : Bool) → is_same (file_of x) f ≡ b → (b || names xs f) ≡ true → (names xs f ≡ true → HasAt xs f) → HasAt (x ∷ xs) f
      by true same h more =
          let parts = and_parts (x.number == f.number) (is_eq (key_cmp x.key f.key)) same in
          let number = eqb-true x.number f.number parts.0 in
          let key_is = equal_key keys x.key f.key z.0.can.values key (equal (key_cmp x.key f.key) parts.1) in
          (x, (0, omega arith, refl), ap (λ (k : List ValueTree). part_path_of keys k x.number) key_is ∙ ap (λ (n : ℕ). part_path_of keys f.key n) number)
      by false same h more =
          let there = more h in
          (there.0, (suc there.1.0, let l = there.1.1 in omega (arith, l), there.1.2), there.2)

-- ---- a cleaning where nothing is open

module _ {D : Type 0} (state : D → DiskState) (store : Core D) (s : State) (shows : Shows state store s) (is_open : s.closed ≡ false) (no_jobs : store.jobs.items ≡ []) (no_cursors : store.cursors.items ≡ []) where
  abbrev disk : DiskState
  disk = state store.vault.disk

  abbrev keys : List KeyColumn
  keys = s.table.keys

  abbrev root : Root
  root = root_of store.manifest

  abbrev versions : Versions
  versions = state_of store.snapshots

  abbrev here : ShowsOpen disk store s
  here = shown state store s shows is_open

  cursors_none : versions.cursors ≡ []
  cursors_none = none_open versions.cursors (here.tracks_cursors ∙ ap (λ (cs : List OpenCursor). reverse (cursor_numbers cs)) no_cursors)

  jobs_none : versions.jobs ≡ []
  jobs_none = none_open versions.jobs (here.tracks_jobs ∙ ap (λ (js : List OpenJob). reverse (job_numbers js)) no_jobs)

  root_is_no_litter : IsLitter root root_path → ⊥
  root_is_no_litter (inl e) = root_not_next e
  root_is_no_litter (inr part) = (shows.apart.off_roots root.keys part.0.0 part.0.1 part.0.2 part.0.3).not_root (sym part.0.4)

  named_is_no_litter : (f : FileGroup) → IsFileBelow keys s.next_group f → InUse versions f → IsLitter root (part_path_of keys f.key f.number) → ⊥
  named_is_no_litter f below held (inl e) = (shows.apart.off_roots keys f.key f.number below.0 (let l = below.1 in let c = shows.counted in omega (arith, l, c))).not_next e
  named_is_no_litter f below held (inr part) =
      let named : names root.groups (file_of f) ≡ true = subst (λ (gs : List FileGroup). names gs (file_of f) ≡ true) here.current (named_now versions cursors_none jobs_none (file_of f) held) in
      let at = named_at disk keys s.table.schema s.next_group (file_of f) below.0.values root.groups s.table.groups here.version named in
      part.1 (at.0, at.1, ap (λ (ks : List KeyColumn). part_path_of ks at.0.key at.0.number) shows.keys ∙ at.2)

  abbrev Needed : List ℕ → Type 0
  Needed q = IsLitter root q → ⊥

  -- only litter goes
  spared : (new : DiskState) → Cleans root disk new → (IsRooted disk → StaysRooted disk new) → LeavesWays disk new → Spares keys Needed disk new
  spared new cleans rooted clear = record {
    moments = widens (AllButLitter root) (Agrees Needed) disk new (λ u v but q need. but q need) cleans.moments;
    seen = λ q need other. cleans.files q need;
    rooted = rooted;
    clear = λ q place. clear q;
  }

  small : s.next_group ≤ 2 ^ 64
  small = let c = shows.counted in omega (arith, c)

  stored_here : AreStored disk root.keys s.table.schema s.next_group root.groups s.table.groups
  stored_here = subst (λ (ks : List KeyColumn). AreStored disk ks s.table.schema s.next_group root.groups s.table.groups) (sym shows.keys) here.version

  pub cleaned_idle : (vault : Vault D) (clean : Bool) → Cleans root disk (state vault.disk) → (IsRooted disk → StaysRooted disk (state vault.disk)) → LeavesWays disk (state vault.disk) → (clean ≡ true → IsClean root (state vault.disk))
      → Clears state store (record store { vault = vault; clean = clean }) s
  cleaned_idle vault clean cleans rooted clear is = still state store s shows is_open vault store.snapshots clean Needed root_is_no_litter named_is_no_litter
      (spared (state vault.disk) cleans rooted clear)
      (same_use versions versions refl) here.files
      (λ e key number can fits bytes reads. current_tracked store.snapshots (record { number = number; key = key })
      (subst (λ (gs : List FileGroup). names gs (record { number = number; key = key }) ≡ true) (sym here.current)
      (clean_names root (state vault.disk) disk s.table.schema s.next_group s.table.groups shows.apart small stored_here (is e) key number can fits bytes reads)))
