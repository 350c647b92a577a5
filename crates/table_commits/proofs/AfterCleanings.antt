-- Where a store stands after files were removed that nothing needs.
use Rattle.std.proofs.Common.{◌≡◌, ◌<◌, ◌^◌, ℕ, zero, suc, Bool, true, false, not, ◌&&◌, List, [], ◌∷◌, ◌++◌, length, ◌⊎◌, Result, Ok, Err, refl, sym, ◌∙◌, ap, subst, arith, inl, inr, ⊎_elim}
use Rattle.std.specs.Prelude.{OnOk, OnErr}
use Rattle.std.specs.List.{AllByRecursion, slice_index_or}
use Rattle.std.specs.Result.{is_err}
use Rattle.lists.proofs.Lists.{all_append}
use Rattle.std.proofs.lemmas.Bool.{cases_lt}
use Rattle.std.specs.Rc.{rc_value}
use Rattle.std.specs.declared.rc.Rc.{Rc}
use Rattle.std.specs.declared.alloc.Global.{Global}
use Rattle.bits.specs.declared.refusal.Refusal.{Refusal}
use Rattle.schema.specs.Keys.{KeyColumn}
use Rattle.disk.specs.State.{State as DiskState}
use Rattle.vault.specs.declared.vault.Vault.{Vault}
use Rattle.vault.specs.Views.{AllBut, ReadsAs, IsNoFile, root_path}
use Rattle.vault.specs.Calls.{LeavesAll, Forgets}
use Rattle.partition.specs.Folders.{CanPartition, part_path_of}
use Rattle.manifest.specs.declared.group.Group.{Group as CodeGroup}
use Rattle.manifest.specs.Groups.{Group as FileGroup, group_view, handles_view, root_of}
use Rattle.snapshots.specs.declared.state.Snapshots.{Snapshots}
use Rattle.snapshots.specs.State.{State as Versions, File, file_of, files_of, is_among, is_needed, gone, after}
use Rattle.snapshots.specs.Views.{state_of}
use Rattle.table.specs.State.{State}
use Rattle.table_state.specs.declared.standing.Core.{Core}
use Rattle.table_state.specs.Spares.{Spares}
use Rattle.table_state.specs.Stands.{AreFilesBelow, AreTracked, Shows, numbers_at}
use Rattle.table_commits.specs.Writing.{IsSameUse}
use Rattle.table_commits.specs.Cleaning.{AreUnneeded, Clears, TracksNoMore, ReadsNoMore, HasNoPart, AreForgotten, IsTidy}
use Rattle.table_commits.proofs.SparedDisks.{forget_spares, read_spares, spares_here}
use Rattle.table_commits.proofs.StoredStays.{IsFileBelow, InUse, hold_same}
use Rattle.table_commits.proofs.PartFilesWritten.{same_use}
use Rattle.table_commits.proofs.FilesInUse.{all_named}
use Rattle.table_commits.proofs.TrackedFiles.{no_file, none_still, reads_here, reads_on, gone_reads, tracked_on, tracked_as, tracked_read}
use Rattle.table_commits.proofs.NeededFiles.{needed_stays, needed_tracked}
use Rattle.table_commits.proofs.StateCarriedOver.{past_of, past_on, carried, survives_spared, shown}

module _ {D : Type 0} (state : D → DiskState) where
  -- ---- one after another

  pub clears_on : (old mid new : Core D) (s : State) → Clears state old mid s → Clears state mid new s → Clears state old new s
  clears_on old mid new s one two = record {
    shows = two.shows;
    survives = record {
      later = let l = one.survives.later in let m = two.survives.later in omega (arith, l, m);
      each = λ m c lo hi at. ⊎_elim
          (λ late. two.survives.each m c (omega (arith, late)) hi at)
          (λ early. one.survives.each m c lo early (two.past.history m c early at))
          (cases_lt (state mid.vault.disk).moment m);
      ended = two.survives.ended;
    };
    past = past_on (state old.vault.disk) (state mid.vault.disk) (state new.vault.disk) one.past two.past;
  }

  module _ (store : Core D) (s : State) (shows : Shows state store s) (is_open : s.closed ≡ false) where
    abbrev disk : DiskState
    disk = state store.vault.disk

    abbrev keys : List KeyColumn
    keys = s.table.keys

    -- as the store's description has them
    abbrev table_keys : List KeyColumn
    table_keys = (root_of store.manifest).keys

    -- the disk keeps what is needed, and the versions what is in use
    pub still : (vault : Vault D) (snapshots : Snapshots) (clean : Bool) (Needed : List ℕ → Type 0) → Needed root_path
        → ((f : FileGroup) → IsFileBelow keys s.next_group f → InUse (state_of store.snapshots) f → Needed (part_path_of keys f.key f.number))
        → Spares keys Needed disk (state vault.disk) → IsSameUse (state_of store.snapshots) (state_of snapshots) → AreFilesBelow s.next_group (state_of snapshots)
        → (clean ≡ true → AreTracked (state vault.disk) table_keys (state_of snapshots)) → Clears state store (record store { vault = vault; snapshots = snapshots; clean = clean }) s
    still vault snapshots clean Needed at_root covers spares same files tracked = record {
      shows = subst (λ (n : ℕ). Shows state (record store { vault = vault; snapshots = snapshots; clean = clean }) (record s { next_group = n })) shows.next_group
          (carried state store s shows is_open vault snapshots store.next_group (let e = shows.next_group in omega (arith, e)) (let e = shows.next_group in let l = shows.counted in omega (arith, e, l)) Needed at_root covers spares same
          (λ f there. let l = files f there in let e = shows.next_group in omega (arith, l, e)) clean tracked);
      survives = survives_spared state store s shows is_open Needed at_root covers (state vault.disk) spares s refl;
      past = past_of disk (state vault.disk) spares.moments;
    }

    same_here : IsSameUse (state_of store.snapshots) (state_of store.snapshots)
    same_here = same_use (state_of store.snapshots) (state_of store.snapshots) refl

    -- other versions, which differ in their files
    pub versions_still : (snapshots : Snapshots) (clean : Bool) → IsSameUse (state_of store.snapshots) (state_of snapshots) → AreFilesBelow s.next_group (state_of snapshots)
        → (clean ≡ true → AreTracked disk table_keys (state_of snapshots)) → Clears state store (record store { snapshots = snapshots; clean = clean }) s
    versions_still snapshots clean same files tracked = still store.vault snapshots clean (λ q. Unit {0}) tt (λ f low held. tt) (spares_here keys (λ q. Unit {0}) disk) same files tracked

    pub nothing_cleared : Clears state store store s
    nothing_cleared = versions_still store.snapshots store.clean same_here (shown state store s shows is_open).files (shown state store s shows is_open).tracked

    -- the store is clean no more
    pub spoilt : Clears state store (record store { clean = false }) s
    spoilt = versions_still store.snapshots false same_here (shown state store s shows is_open).files (λ e. absurd (bad (sym e)))
      where
        bad : true ≡ false → ⊥
        bad e = cc

    -- a call only reads
    pub read_still : (vault : Vault D) → LeavesAll disk (state vault.disk) → Clears state store (record store { vault = vault }) s
    read_still vault left = still vault store.snapshots store.clean (λ q. Unit {0}) tt (λ f low held. tt) (read_spares keys shows.apart (λ q. Unit {0}) disk (state vault.disk) left) same_here (shown state store s shows is_open).files
        (tracked_read store disk (state vault.disk) left (shown state store s shows is_open).tracked)

    -- a file is let go that nothing needs
    module _ (f : FileGroup) (can : CanPartition keys f.key) (low : f.number < s.next_group) (unneeded : is_needed (state_of store.snapshots) (file_of f) ≡ false) (path : List ℕ) (path_is : path ≡ part_path_of keys f.key f.number) where
      fits : f.number < 2 ^ 64
      fits = let c = shows.counted in omega (arith, c, low)

      at_root : root_path ≡ path → ⊥
      at_root e = (shows.apart.off_roots keys f.key f.number can fits).not_root (sym path_is ∙ sym e)

      bad : true ≡ false → ⊥
      bad e = cc

      covers : (g : FileGroup) → IsFileBelow keys s.next_group g → InUse (state_of store.snapshots) g → part_path_of keys g.key g.number ≡ path → ⊥
      covers g below held e =
          let same = shows.apart.name_parts keys g.key f.key g.number f.number below.0.values can.values (let l = below.1 in let c = shows.counted in omega (arith, l, c)) fits (e ∙ path_is) in
          let file : file_of g ≡ file_of f = cc (same.0, same.1) in
          bad (sym held ∙ ap (is_needed (state_of store.snapshots)) file ∙ unneeded)

      pub forgotten : {T : Type 0} (vault : Vault D) (result : Result T Refusal) (clean : Bool) → Forgets path disk (state vault.disk) result
          → (clean ≡ true → (store.clean ≡ true) × IsNoFile (state vault.disk) path) → Clears state store (record store { vault = vault; clean = clean }) s
      forgotten vault result clean forgets told = still vault store.snapshots clean (λ q. q ≡ path → ⊥) at_root covers
          (forget_spares keys shows.apart (λ q. q ≡ path → ⊥) path disk (state vault.disk) result (λ q n e. n e) forgets)
          same_here (shown state store s shows is_open).files
          (λ is.
          let went = told is in
          tracked_on table_keys (state_of store.snapshots) (state_of store.snapshots) (λ f there. there) disk (state vault.disk) (gone_reads path disk (state vault.disk) forgets.seen went.1)
          ((shown state store s shows is_open).tracked went.0))

    -- what is told to be unneeded is
    pub are_unneeded : (groups : List FileGroup) → ((f : File) → is_among (files_of groups) f ≡ ((state_of store.snapshots).files f && not (is_needed (state_of store.snapshots) f))) → AreUnneeded (state_of store.snapshots) s.next_group groups
    are_unneeded groups told = all_named (λ f. (is_needed (state_of store.snapshots) f ≡ false) × (f.number < s.next_group)) groups
        (λ f named. let both = split ((state_of store.snapshots).files f) (is_needed (state_of store.snapshots) f) (sym (told f) ∙ named) in (both.1, (shown state store s shows is_open).files f both.0))
      where
        split : (a b : Bool) → (a && not b) ≡ true → (a ≡ true) × (b ≡ false)
        split true true e = absurd (cc)
        split true false e = (refl, refl)
        split false b e = absurd (cc)

    -- they are no more tracked, and none of them is read
    pub gone_still : (snapshots : Snapshots) (files : List File) → state_of snapshots ≡ after (state_of store.snapshots) (gone files) → IsTidy state store → Clears state store (record store { snapshots = snapshots }) s
    gone_still snapshots files is tidy = versions_still snapshots store.clean
        (record { current = ap (λ (v : Versions). v.current) is; cursors = ap (λ (v : Versions). v.cursors) is; numbers = ap (λ (v : Versions). numbers_at v.jobs) is; jobs = hold_same (state_of store.snapshots).jobs (state_of snapshots).jobs (ap (λ (v : Versions). v.jobs) is) })
        (λ f there. (shown state store s shows is_open).files f (front ((state_of store.snapshots).files f) _ (sym (ap (λ (v : Versions). v.files f) is) ∙ there)))
        (λ clean. needed_tracked table_keys (state_of store.snapshots) (state_of snapshots) disk files is (tidy clean) ((shown state store s shows is_open).tracked clean))
      where
        front : (a b : Bool) → (a && b) ≡ true → a ≡ true
        front true b e = refl
        front false b e = absurd (cc)

    -- fewer are tracked, each that is needed among them
    pub untracked_still : (snapshots : Snapshots) → TracksNoMore (state_of store.snapshots) (state_of snapshots) → IsTidy state store → Clears state store (record store { snapshots = snapshots }) s
    untracked_still snapshots more tidy = versions_still snapshots store.clean more.in_use
        (λ f there. (shown state store s shows is_open).files f (more.files f there))
        (λ clean key number can fits bytes reads.
        more.needed (record { number = number; key = key }) ((shown state store s shows is_open).tracked clean key number can fits bytes reads) (tidy clean key number can fits bytes reads))

    -- no step was made
    pub unstepped : (snapshots : Snapshots) → state_of snapshots ≡ state_of store.snapshots → Clears state store (record store { snapshots = snapshots }) s
    unstepped snapshots is = versions_still snapshots store.clean
        (same_use (state_of store.snapshots) (state_of snapshots) is)
        (λ f there. (shown state store s shows is_open).files f (sym (ap (λ (v : Versions). v.files f) is) ∙ there))
        (λ clean. tracked_as disk table_keys (state_of store.snapshots) (state_of snapshots) (ap (λ (v : Versions). v.files) is) ((shown state store s shows is_open).tracked clean))

-- ---- which files are gone

-- a path is let go, and nothing failed
pub path_gone : {T : Type 0} (path : List ℕ) (old new : DiskState) (result : Result T Refusal) → Forgets path old new result → is_err result ≡ false → IsNoFile new path
path_gone path old new (Ok x) forgets none = no_file new path forgets.gone
path_gone path old new (Err e) forgets none = absurd (cc)

pub one_forgotten : (keys : List KeyColumn) (f : FileGroup) → CanPartition keys f.key → (path : List ℕ) → path ≡ part_path_of keys f.key f.number → (old new : DiskState) → ReadsAs (AllBut path) old new → IsNoFile new path
    → AreForgotten keys (f ∷ []) old new
one_forgotten ks f can path is old new but none = record {
  fewer = gone_reads path old new but none;
  gone = ((can, subst (λ (q : List ℕ). IsNoFile new q) is none), tt);
}

pub none_forgotten : (keys : List KeyColumn) (disk : DiskState) → AreForgotten keys [] disk disk
none_forgotten ks disk = record { fewer = reads_here disk; gone = tt }

-- what was gone is gone still
gone_still_so : (keys : List KeyColumn) (groups : List FileGroup) (old new : DiskState) → ReadsNoMore old new → AllByRecursion (HasNoPart old keys) groups → AllByRecursion (HasNoPart new keys) groups
gone_still_so ks [] old new fewer h = tt
gone_still_so ks (g ∷ gs) old new fewer h = ((h.0.0, none_still old new (part_path_of ks g.key g.number) fewer h.0.1), gone_still_so ks gs old new fewer h.1)

pub more_forgotten : (keys : List KeyColumn) (groups more : List FileGroup) (old mid new : DiskState) → AreForgotten keys groups old mid → AreForgotten keys more mid new → AreForgotten keys (groups ++ more) old new
more_forgotten ks groups more old mid new one two = record {
  fewer = reads_on old mid new one.fewer two.fewer;
  gone = all_append (HasNoPart new ks) groups more (gone_still_so ks groups mid new two.fewer one.gone) two.gone;
}

-- ---- which files are tracked

-- files are no more tracked, or nothing changed
pub gone_tracks : (old new : Versions) (files : List File) → new ≡ after old (gone files) → TracksNoMore old new
gone_tracks old new files is = record {
  in_use = record { current = ap (λ (v : Versions). v.current) is; cursors = ap (λ (v : Versions). v.cursors) is; numbers = ap (λ (v : Versions). numbers_at v.jobs) is; jobs = hold_same old.jobs new.jobs (ap (λ (v : Versions). v.jobs) is) };
  files = λ f there. front (old.files f) _ (sym (ap (λ (v : Versions). v.files f) is) ∙ there);
  needed = λ f there needed. ap (λ (v : Versions). v.files f) is ∙ needed_stays old files f there needed;
}
  where
    front : (a b : Bool) → (a && b) ≡ true → a ≡ true
    front true b e = refl
    front false b e = absurd (cc)

pub still_tracks : (old new : Versions) → new ≡ old → TracksNoMore old new
still_tracks old new is = record { in_use = same_use old new is; files = λ f there. sym (ap (λ (v : Versions). v.files f) is) ∙ there; needed = λ f there needed. ap (λ (v : Versions). v.files f) is ∙ there }

-- a step was made or not
pub either_way : {T A B : Type 0} (r : Result T Refusal) → OnOk r A → OnErr r B → A ⊎ B
either_way (Ok x) a b = inl a
either_way (Err e) a b = inr b

-- the item of a list of handles
pub unneeded_at : (v : Versions) (count : ℕ) (groups : List (Rc CodeGroup Global)) → AreUnneeded v count (handles_view groups) → (k : ℕ) (g : Rc CodeGroup Global) → k < length groups → g ≡ slice_index_or groups k g
    → (is_needed v (file_of (group_view (rc_value g))) ≡ false) × ((group_view (rc_value g)).number < count)
unneeded_at v count [] h k g l e = absurd (omega (arith, l))
unneeded_at v count (x ∷ xs) h zero g l e = subst (λ (y : Rc CodeGroup Global). (is_needed v (file_of (group_view (rc_value y))) ≡ false) × ((group_view (rc_value y)).number < count)) (sym e) h.0
unneeded_at v count (x ∷ xs) h (suc k) g l e = unneeded_at v count xs h.1 k g (omega (arith, l)) e
