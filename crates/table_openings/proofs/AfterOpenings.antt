-- Where a disk and a store stand after an opening.
use Rattle.std.proofs.Common.{◌≡◌, ◌≤◌, ℕ, Bool, true, false, not, Result, Ok, Err, sym, ◌∙◌, ap, subst, arith, inl, inr}
use Rattle.std.specs.Prelude.{IfErr, OnOk, OnErr}
use Rattle.std.proofs.lemmas.Bool.{not-true as was_clean}
use Rattle.bits.specs.declared.refusal.Refusal.{Refusal}
use Rattle.bits.specs.Refusals.{HasCause, RefusedMemoryOnly}
use Rattle.disk.specs.State.{Image, State as DiskState, content, may_leave}
use Rattle.vault.specs.declared.vault.Vault.{Vault}
use Rattle.vault.specs.Views.{LeavesAfter}
use Rattle.vault.proofs.Moments.{nothing_yet, stays_clear_here}
use Rattle.vault.specs.Ways.{LeavesWays}
use Rattle.footer.specs.declared.options.WriteOptions.{WriteOptions}
use Rattle.footer.specs.Writing.{IsOutOfRange}
use Rattle.manifest.specs.declared.description.Manifest.{Manifest}
use Rattle.manifest.specs.Groups.{root_of}
use Rattle.manifest.specs.Table.{IsTableOf, TableOf}
use Rattle.manifest.specs.Laws.{RootsMeanOneTable, TablesAreOne, RowsOfPartsFit}
use Rattle.recovery.specs.Sound.{IsSound, SameTable, IsDescribed}
use Rattle.recovery.specs.Opening.{Cleans, IsClean}
use Rattle.table.specs.Table.{Table}
use Rattle.table_state.specs.declared.standing.Core.{Core}
use Rattle.table_state.specs.Paths.{PathsAreApart}
use Rattle.table_state.specs.OnDisk.{HoldsTable}
use Rattle.table_state.specs.Starting.{IsStarted}
use Rattle.table_openings.specs.Opening.{LeavesTables, HasRoomForAll, IsOpened, ReadsRootAs, LeavesAllOrCleans}
use Rattle.table_commits.proofs.StateCarriedOver.{past_of}
use Rattle.table_openings.proofs.StartedStores as started
use Rattle.table_commits.proofs.DisksLeftAlone.{all_here}
use Rattle.table_openings.proofs.AfterReopenings.{room_left, memory_only}

module _ (old new : DiskState) (moments : LeavesAfter SameTable old new) (sound : IsSound old) (clear : LeavesWays old new) (room : HasRoomForAll old) where
  -- what an image holds, it held before
  abbrev Came : ℕ → Image → Type 0
  Came m c = (t : Table) × HoldsTable c t × (d : Image) × may_leave old d × HoldsTable d t

  came : (m : ℕ) (c : Image) → old.moment ≤ m → m ≤ new.moment → new.images m c → Came m c
  came m c lo hi at =
      let was = moments.each m c lo hi at in
      let h = sound.tables was.0 was.1 in
      let own = room was.0 h.0 was.1 h.1 in
      (h.0, record { files = was.2 h.0 h.1; room = λ path place. clear path (own path place) m c lo hi at }, was.0, was.1, record { files = h.1; room = λ path place. own path place was.0 was.1 })

  pub leaves_tables : LeavesTables old new
  leaves_tables = record { past = past_of old new moments; each = came }

  pub room_for_all : TablesAreOne → HasRoomForAll new
  room_for_all one_table c t may files =
      let is = came new.moment c moments.later (omega arith) may in
      let same : is.0 ≡ t = one_table (content c) is.0 t is.1.files files in
      room_left old new SameTable moments clear t.keys (room is.2 t is.3 (subst (λ (x : Table). TableOf (content is.2) x) same is.4.files))

-- a store on the disk that is left
module _ {D : Type 0} (state : D → DiskState) (old : DiskState) (store : Core D) (moments : LeavesAfter SameTable old (state store.vault.disk)) (sound : IsSound old) (room : HasRoomForAll old)
    (clear : LeavesWays old (state store.vault.disk)) (one_table : TablesAreOne) (o : WriteOptions) (is : IsStarted o store) where
  abbrev new : DiskState
  new = state store.vault.disk

  pub opened_so : PathsAreApart → RootsMeanOneTable → RowsOfPartsFit → (IsOutOfRange o → ⊥) → IsSound new → IsDescribed new (root_of store.manifest) → may_leave new new.seen
      → (store.clean ≡ true → IsClean (root_of store.manifest) new) → IsOpened state old o store
  opened_so apart one fit in_range sound_now described seen_may cleaned =
      let here = came old new moments sound clear room new.moment new.seen moments.later (omega arith) seen_may in
      let same : here.0 ≡ described.table = one_table (content new.seen) here.0 described.table here.1.files (root_of store.manifest, described.each new.seen seen_may) in
      let each : (c : Image) → may_leave new c → IsTableOf (content c) (root_of store.manifest) here.0
      = λ c may. subst (λ (x : Table). IsTableOf (content c) (root_of store.manifest) x) (sym same) (described.each c may) in
      record {
        table = here.0;
        image = here.2;
        left = here.3;
        held = here.4;
        stands = started.stands state store o is here.0 each described.root_kept.0 described.root_kept.1 described.parts_kept seen_may fit apart one in_range sound_now
            (room_left old new SameTable moments clear here.0.keys (room here.2 here.0 here.3 here.4.files)) cleaned;
      }

-- ---- over a store that was made of a vault and a description

module _ {D : Type 0} (state : D → DiskState) (old : DiskState) (store : Core D) (vault : Vault D) (manifest : Manifest) (at_vault : store.vault ≡ vault) (at_manifest : store.manifest ≡ manifest)
    (moments : LeavesAfter SameTable old (state vault.disk)) (sound : IsSound old) (room : HasRoomForAll old) (clear : LeavesWays old (state vault.disk)) where
  pub moments_at : LeavesAfter SameTable old (state store.vault.disk)
  moments_at = subst (λ (v : Vault D). LeavesAfter SameTable old (state v.disk)) (sym at_vault) moments

  pub clear_at : LeavesWays old (state store.vault.disk)
  clear_at = subst (λ (v : Vault D). LeavesWays old (state v.disk)) (sym at_vault) clear

  pub described_at : IsDescribed (state vault.disk) (root_of manifest) → IsDescribed (state store.vault.disk) (root_of store.manifest)
  described_at is =
      subst (λ (v : Vault D). IsDescribed (state v.disk) (root_of store.manifest)) (sym at_vault)
      (subst (λ (m : Manifest). IsDescribed (state vault.disk) (root_of m)) (sym at_manifest) is)

  pub found_so : TablesAreOne → (o : WriteOptions) → IsStarted o store → PathsAreApart → RootsMeanOneTable → RowsOfPartsFit → (IsOutOfRange o → ⊥) → IsSound (state vault.disk) → IsDescribed (state vault.disk) (root_of manifest)
      → may_leave (state store.vault.disk) (state store.vault.disk).seen → (store.clean ≡ true → IsClean (root_of store.manifest) (state store.vault.disk)) → IsOpened state old o store
  found_so one_table o is apart one fit in_range sound_now described seen_may cleaned =
      opened_so state old store moments_at sound room clear_at one_table o is apart one fit in_range (subst (λ (v : Vault D). IsSound (state v.disk)) (sym at_vault) sound_now) (described_at described) seen_may cleaned

-- ---- whether the cleaning met a fault

pub is_clean : {D : Type 0} (state : D → DiskState) (store : Core D) (vault : Vault D) (manifest : Manifest) (fault : Bool) → store.vault ≡ vault → store.manifest ≡ manifest → store.clean ≡ not fault
    → (fault ≡ false → IsClean (root_of manifest) (state vault.disk)) → store.clean ≡ true → IsClean (root_of store.manifest) (state store.vault.disk)
is_clean {D} state store vault manifest fault at_vault at_manifest at_clean clean told =
    subst (λ (v : Vault D). IsClean (root_of store.manifest) (state v.disk)) (sym at_vault)
    (subst (λ (m : Manifest). IsClean (root_of m) (state vault.disk)) (sym at_manifest) (clean (was_clean fault (sym at_clean ∙ told))))

pub cleans_at : {D : Type 0} (state : D → DiskState) (old : DiskState) (store : Core D) (vault : Vault D) (manifest : Manifest) → store.vault ≡ vault → store.manifest ≡ manifest → Cleans (root_of manifest) old (state vault.disk)
    → Cleans (root_of store.manifest) old (state store.vault.disk)
cleans_at {D} state old store vault manifest at_vault at_manifest cleans =
    subst (λ (v : Vault D). Cleans (root_of store.manifest) old (state v.disk)) (sym at_vault) (subst (λ (m : Manifest). Cleans (root_of m) old (state vault.disk)) (sym at_manifest) cleans)

-- ---- what a refused opening leaves

pub nothing_changed : (disk : DiskState) (e : Refusal) → LeavesAllOrCleans disk disk e
nothing_changed disk e = inl (all_here disk)

module _ {D : Type 0} (state : D → DiskState) (old : DiskState) (vault : Vault D) (manifest : Manifest) (reads : ReadsRootAs old (root_of manifest)) (cleans : Cleans (root_of manifest) old (state vault.disk)) where
  -- memory ran out after the cleaning
  pub cleaned_poor : (d : D) → d ≡ vault.disk → (e : Refusal) → HasCause (λ _. ⊥) e → LeavesAllOrCleans old (state d) e
  cleaned_poor d there e which = inr (memory_only e which, root_of manifest, reads, subst (λ (x : D). Cleans (root_of manifest) old (state x)) (sym there) cleans)

  module _ (new : Core D) (there : new.vault ≡ vault) where
    pub anew_left : (result : Result (Unit {0}) Refusal) → RefusedMemoryOnly result → IfErr result (λ e. LeavesAllOrCleans old (state new.vault.disk) e)
    anew_left (Ok x) which = tt
    anew_left (Err e) which = cleaned_poor new.vault.disk (ap (λ (v : Vault D). v.disk) there) e which

    pub anew_cleans : (result : Result (Unit {0}) Refusal) → OnOk result (new.manifest ≡ manifest) → OnOk result (Cleans (root_of new.manifest) old (state new.vault.disk))
    anew_cleans (Ok x) is = cleans_at state old new vault manifest there is cleans
    anew_cleans (Err e) is = tt

pub anew_shut : {D : Type 0} (mid later : Core D) (result : Result (Unit {0}) Refusal) → OnErr result (later ≡ mid) → mid.closed ≡ true → OnErr result (later.closed ≡ true)
anew_shut mid later (Ok x) same is = tt
anew_shut {D} mid later (Err e) same is = ap (λ (s : Core D). s.closed) same ∙ is

-- ---- nothing is done yet

pub nothing_left : (disk : DiskState) → IsSound disk → HasRoomForAll disk → LeavesTables disk disk
nothing_left disk sound room = leaves_tables disk disk (nothing_yet SameTable disk (λ u t h. h)) sound (λ q clear. stays_clear_here disk q clear) room
