-- Which part files the disk reads, and that they are needed.
use Rattle.std.proofs.Common.{◌≡◌, ℕ, Bool, true, false, not, ◌&&◌, ◌||◌, ◌==◌, List, [], ◌∷◌, Some, refl, sym, ◌∙◌, ap, subst, arith, ⊎_elim}
use Rattle.std.specs.Prelude.{None}
use Rattle.std.specs.List.{AllByRecursion}
use Rattle.std.specs.Ordering.{is_eq}
use Rattle.std.proofs.lemmas.Bool.{eqb-true, and_parts, or_cases}
use Rattle.lists.proofs.Booleans.{equal_by_is_eq as equal}
use Rattle.schema.specs.Keys.{KeyColumn}
use Rattle.disk.specs.State.{State as DiskState, content}
use Rattle.partition.specs.Folders.{CanPartition, part_path_of}
use Rattle.partition.specs.Order.{key_cmp}
use Rattle.partition.proofs.SameKeys.{equal_key}
use Rattle.manifest.specs.Groups.{Group as FileGroup, root_of}
use Rattle.recovery.specs.Opening.{IsClean}
use Rattle.snapshots.specs.declared.state.Snapshots.{Snapshots}
use Rattle.snapshots.specs.State.{State as Versions, File, file_of, files_of, is_same, is_among, is_needed, names, gone, after}
use Rattle.snapshots.specs.Views.{state_of}
use Rattle.table.specs.Table.{Key}
use Rattle.table.specs.State.{State}
use Rattle.table_state.specs.declared.standing.Core.{Core}
use Rattle.table_state.specs.Stands.{AreStored, AreTracked, IsTracked, Shows}
use Rattle.table_commits.specs.Cleaning.{HasNoPart, AreForgotten, AreNeeded, IsTidy}
use Rattle.table_commits.proofs.TrackedFiles.{clean_names, current_needed, tracked_on}

pub needed_stays : (v : Versions) (files : List File) (f : File) → v.files f ≡ true → is_needed v f ≡ true → (v.files f && (not (is_among files f) || is_needed v f)) ≡ true
needed_stays v files f there needed = both (v.files f) (not (is_among files f)) (is_needed v f) there needed
  where
    both : (a b c : Bool) → a ≡ true → c ≡ true → (a && (b || c)) ≡ true
    both true true c e h = refl
    both true false c e h = h
    both false b c e h = absurd (cc)

pub needed_tracked : (keys : List KeyColumn) (v w : Versions) (disk : DiskState) (files : List File) → w ≡ after v (gone files) → AreNeeded disk keys v → AreTracked disk keys v → AreTracked disk keys w
needed_tracked keys v w disk files is needed are key number can fits bytes reads =
    ap (λ (x : Versions). x.files (record { number = number; key = key })) is
    ∙ needed_stays v files (record { number = number; key = key }) (are key number can fits bytes reads) (needed key number can fits bytes reads)

-- a part file that is read
module _ (keys : List KeyColumn) (v : Versions) (disk : DiskState) (key : Key) (number : ℕ) (can : CanPartition keys key) (bytes : List ℕ) (reads : content disk.seen (part_path_of keys key number) ≡ Some bytes) where
  abbrev f : File
  f = record { number = number; key = key }

  -- it is none of those that are gone
  none_gone : (groups : List FileGroup) → AllByRecursion (HasNoPart disk keys) groups → is_among (files_of groups) f ≡ true → ⊥
  none_gone [] h e = cc
  none_gone (g ∷ gs) h e = ⊎_elim
      (λ same.
      let parts = and_parts (g.number == number) (is_eq (key_cmp g.key key)) same in
      let one_key = equal_key keys g.key key h.0.0.values can.values (equal (key_cmp g.key key) parts.1) in
      let path : part_path_of keys g.key g.number ≡ part_path_of keys key number
      = ap (λ (k : Key). part_path_of keys k g.number) one_key ∙ ap (λ (n : ℕ). part_path_of keys key n) (eqb-true g.number number parts.0) in
      let c : Some bytes ≡ None = sym reads ∙ ap (content disk.seen) (sym path) ∙ h.0.1 in
      absurd (cc))
      (λ more. none_gone gs h.1 more)
      (or_cases (is_same (file_of g) f) (is_among (files_of gs) f) e)

  -- so it is needed where all are gone that are tracked and not needed
  needed_by : (groups : List FileGroup) → is_among (files_of groups) f ≡ (v.files f && not (is_needed v f)) → AllByRecursion (HasNoPart disk keys) groups → v.files f ≡ true → is_needed v f ≡ true
  needed_by groups told none there = by (is_needed v f) refl
    where
      by : (b : Bool) → is_needed v f ≡ b → b ≡ true
      by true e = refl
      by false e = absurd (none_gone groups none (told ∙ ap (λ (a : Bool). a && not (is_needed v f)) there ∙ ap (λ (a : Bool). not a) e))

-- all that nothing needs is gone
pub all_needed : (keys : List KeyColumn) (v : Versions) (disk : DiskState) (groups : List FileGroup) → ((f : File) → is_among (files_of groups) f ≡ (v.files f && not (is_needed v f))) → AllByRecursion (HasNoPart disk keys) groups
    → AreTracked disk keys v → AreNeeded disk keys v
all_needed keys v disk groups told none are key number can fits bytes reads =
    needed_by keys v disk key number can bytes reads groups (told (record { number = number; key = key })) none (are key number can fits bytes reads)

-- the same versions need the same
pub needed_as : (keys : List KeyColumn) (v w : Versions) (disk : DiskState) → ((f : File) → is_needed w f ≡ is_needed v f) → AreNeeded disk keys v → AreNeeded disk keys w
needed_as keys v w disk same are key number can fits bytes reads = same (record { number = number; key = key }) ∙ are key number can fits bytes reads

-- in a clean dataset only what the root names is there
pub clean_is_tidy : {D : Type 0} (state : D → DiskState) (store : Core D) (s : State) → Shows state store s → s.closed ≡ false → IsClean (root_of store.manifest) (state store.vault.disk)
    → AreNeeded (state store.vault.disk) (root_of store.manifest).keys (state_of store.snapshots)
clean_is_tidy state store s shows is_open clean key number can fits bytes reads =
    let disk = state store.vault.disk in
    let root = root_of store.manifest in
    let here = shows.shown is_open in
    let f : File = record { number = number; key = key } in
    current_needed (state_of store.snapshots) f
    (subst (λ (gs : List FileGroup). names gs f ≡ true) (sym here.current)
    (clean_names root disk disk s.table.schema s.next_group s.table.groups shows.apart (let c = shows.counted in omega (arith, c))
    (subst (λ (ks : List KeyColumn). AreStored disk ks s.table.schema s.next_group root.groups s.table.groups) (sym shows.keys) here.version)
    clean key number can fits bytes reads))

-- ---- a store

module _ {D : Type 0} (state : D → DiskState) where
  -- all that nothing needs was let go
  pub tidied : (old mid : Core D) → mid ≡ record old { vault = mid.vault; clean = mid.clean } → (groups : List FileGroup)
      → ((f : File) → is_among (files_of groups) f ≡ ((state_of old.snapshots).files f && not (is_needed (state_of old.snapshots) f))) → IsTracked (state old.vault.disk) old
      → (mid.clean ≡ true → (old.clean ≡ true) × AreForgotten (root_of old.manifest).keys groups (state old.vault.disk) (state mid.vault.disk)) → IsTidy state mid
  tidied old mid same groups told tracked forgets clean =
      let gone = forgets clean in
      let keys = (root_of old.manifest).keys in
      let versions = state_of old.snapshots in
      subst (λ (st : Core D). AreNeeded (state mid.vault.disk) (root_of st.manifest).keys (state_of st.snapshots)) (sym same)
      (all_needed keys versions (state mid.vault.disk) groups told gone.1.gone (tracked_on keys versions versions (λ f there. there) (state old.vault.disk) (state mid.vault.disk) gone.1.fewer (tracked gone.0)))

  -- files are no more tracked, or nothing changed
  pub tidy_gone : (store : Core D) (snapshots : Snapshots) (files : List File) → state_of snapshots ≡ after (state_of store.snapshots) (gone files) → IsTidy state store → IsTidy state (record store { snapshots = snapshots })
  tidy_gone store snapshots files is tidy clean =
      needed_as (root_of store.manifest).keys (state_of store.snapshots) (state_of snapshots) (state store.vault.disk) (λ f. ap (λ (v : Versions). is_needed v f) is) (tidy clean)

  pub tidy_still : (store : Core D) (snapshots : Snapshots) → state_of snapshots ≡ state_of store.snapshots → IsTidy state store → IsTidy state (record store { snapshots = snapshots })
  tidy_still store snapshots is tidy clean =
      needed_as (root_of store.manifest).keys (state_of store.snapshots) (state_of snapshots) (state store.vault.disk) (λ f. ap (λ (v : Versions). is_needed v f) is) (tidy clean)
