-- A store shows its state still, over whatever spares the files below its counter.
use Rattle.std.proofs.Common.{◌≡◌, ◌≤◌, ◌<◌, ◌^◌, ℕ, Bool, true, false, List, refl, sym, ◌∙◌, ap, subst, arith, inl}
use Rattle.std.specs.List.{AllZip, AllByRecursion}
use Rattle.partition.specs.Folders.{part_path_of}
use Rattle.schema.specs.Keys.{KeyColumn}
use Rattle.disk.specs.State.{Image, State as DiskState}
use Rattle.vault.specs.declared.vault.Vault.{Vault}
use Rattle.vault.specs.Views.{View, LeavesAfter, IsKept, root_path}
use Rattle.snapshots.specs.declared.state.Snapshots.{Snapshots}
use Rattle.manifest.specs.Groups.{Group as FileGroup, Root, root_of}
use Rattle.snapshots.specs.State.{State as Versions}
use Rattle.snapshots.specs.Views.{state_of}
use Rattle.table.specs.State.{State}
use Rattle.table.specs.Stops.{MayHold, Survives}
use Rattle.table_state.specs.declared.standing.Core.{Core}
use Rattle.table_state.specs.OnDisk.{HoldsTable}
use Rattle.table_state.specs.Paths.{IsOlder}
use Rattle.table_state.specs.Spares.{Spares}
use Rattle.table_state.specs.Stands.{AreStored, IsReady, ShowsJobs, ShowsCursor, AreFilesBelow, AreTracked, ShowsOpen, Shows, numbers_at}
use Rattle.table_commits.specs.Writing.{IsSameUse}
use Rattle.table_state.specs.Promises.{KeepsPast}
use Rattle.table_commits.proofs.SparedDisks.{kept_on, rooted_on, room_on, root_older}
use Rattle.table_commits.proofs.StoredStays.{IsFileBelow, file_older, InUse, stored_on, cursors_on, jobs_on}
use Rattle.table_commits.proofs.FilesInUse.{current_in_use}
use Rattle.table_commits.proofs.SoundDisks.{holds_like, sound_for}

pub past_of : {Change : View → View → Type 0} (old new : DiskState) → LeavesAfter Change old new → KeepsPast old new
past_of old new l = record { later = l.later; history = l.history; keeps = l.keeps }

pub past_on : (old mid new : DiskState) → KeepsPast old mid → KeepsPast mid new → KeepsPast old new
past_on old mid new a b = record {
  later = omega (arith, a.later, b.later);
  history = λ m c l at. a.history m c l (b.history m c (omega (arith, l, a.later)) at);
  keeps = λ m c l at. b.keeps m c (omega (arith, l, a.later)) (a.keeps m c l at);
}

-- the root is older than the state, and so is each file under a number that was given
module _ {D : Type 0} (state : D → DiskState) (store : Core D) (s : State) (shows : Shows state store s) where
  pub root_is_older : IsOlder s.table.keys s.next_group root_path
  root_is_older = root_older s.table.keys shows.apart s.next_group

  pub file_is_older : (f : FileGroup) → IsFileBelow s.table.keys s.next_group f → IsOlder s.table.keys s.next_group (part_path_of s.table.keys f.key f.number)
  file_is_older f low = file_older s.table.keys shows.apart s.next_group (let l = shows.counted in omega (arith, l)) f low

module _ {D : Type 0} (state : D → DiskState) (store : Core D) (s : State) (shows : Shows state store s) (is_open : s.closed ≡ false) where
  abbrev disk : DiskState
  disk = state store.vault.disk

  abbrev root : Root
  root = root_of store.manifest

  abbrev pub shown : ShowsOpen disk store s
  shown = shows.shown is_open

  -- the table is described and stored
  pub ready : IsReady disk s.next_group root shown.root s.table
  ready = record { means = shown.means; schema = shows.schema; keys = shows.keys; next = shown.next; stored = shown.version }

  -- the groups of the table are in use
  in_use : AllByRecursion (InUse (state_of store.snapshots)) root.groups
  in_use = subst (λ (gs : List FileGroup). AllByRecursion (InUse (state_of store.snapshots)) gs) shown.current (current_in_use (state_of store.snapshots))

  module _ (Needed : List ℕ → Type 0) (at_root : Needed root_path)
      (covers : (f : FileGroup) → IsFileBelow s.table.keys s.next_group f → InUse (state_of store.snapshots) f → Needed (part_path_of s.table.keys f.key f.number))
      (new : DiskState) (spared : Spares s.table.keys Needed disk new) where
    need_by_root : (f : FileGroup) → IsFileBelow root.keys s.next_group f → InUse (state_of store.snapshots) f → Needed (part_path_of root.keys f.key f.number)
    need_by_root = subst (λ (ks : List KeyColumn). (f : FileGroup) → IsFileBelow ks s.next_group f → InUse (state_of store.snapshots) f → Needed (part_path_of ks f.key f.number)) (sym shows.keys) covers

    -- at every moment the table is there
    pub table_stays : (m : ℕ) (c : Image) → disk.moment ≤ m → m ≤ new.moment → new.images m c → HoldsTable c s.table
    table_stays m c lo hi at =
        let was = spared.moments.each m c lo hi at in
        holds_like disk s.next_group root shown.root s.table ready (InUse (state_of store.snapshots)) in_use was.0 c was.1 (was.2 root_path at_root ∙ shown.root_kept was.0 was.1)
        (λ f low held. was.2 (part_path_of root.keys f.key f.number) (need_by_root f low held))
        (λ path place. spared.clear path place (shows.room path place) m c lo hi at)

    pub survives_spared : (after : State) → after.table ≡ s.table → Survives new.images HoldsTable disk.moment new.moment s after
    survives_spared after same = record {
      later = spared.moments.later;
      each = λ m c lo hi at. (s.table, table_stays m c lo hi at, inl (inl refl));
      ended = λ c at. (s.table, table_stays new.moment c spared.moments.later (omega arith) at, inl (sym same));
    }

  -- the store goes on from there
  module _ (vault : Vault D) (snapshots : Snapshots) (more : ℕ) (grows : s.next_group ≤ more) (fits : more < 2 ^ 64)
      (Needed : List ℕ → Type 0) (at_root : Needed root_path)
      (covers : (f : FileGroup) → IsFileBelow s.table.keys s.next_group f → InUse (state_of store.snapshots) f → Needed (part_path_of s.table.keys f.key f.number))
      (spared : Spares s.table.keys Needed disk (state vault.disk)) (same_use : IsSameUse (state_of store.snapshots) (state_of snapshots))
      (files : AreFilesBelow more (state_of snapshots)) (clean : Bool) (tracked : clean ≡ true → AreTracked (state vault.disk) root.keys (state_of snapshots)) where
    abbrev later : Core D
    later = record store { vault = vault; snapshots = snapshots; next_group = more; clean = clean }

    version_on : AreStored (state vault.disk) s.table.keys s.table.schema more root.groups s.table.groups
    version_on = stored_on s.table.keys s.next_group more grows (InUse (state_of store.snapshots)) Needed covers disk (state vault.disk) spared s.table.schema root.groups s.table.groups in_use shown.version

    ready_here : IsReady (state vault.disk) more root shown.root s.table
    ready_here = record { means = shown.means; schema = shows.schema; keys = shows.keys; next = shown.next; stored = version_on }

    root_here : IsKept (state vault.disk) root_path shown.root
    root_here = kept_on s.table.keys Needed disk (state vault.disk) spared root_path shown.root at_root shown.root_kept

    -- the versions differ in their files only
    abbrev versions : Versions
    versions = state_of snapshots

    jobs_here : ShowsJobs (state vault.disk) versions (record s { next_group = more }) store.jobs.items s.jobs
    jobs_here = jobs_on s.table.keys s.table.schema s.next_group more s.options.group_rows grows s.had s.had (λ n low e. e) (state_of store.snapshots) versions Needed covers disk (state vault.disk) spared
        same_use.jobs store.jobs.items s.jobs shown.jobs

    -- nothing that is open has a file above the old counter
    pub jobs_there : ShowsJobs (state vault.disk) versions s store.jobs.items s.jobs
    jobs_there = jobs_on s.table.keys s.table.schema s.next_group s.next_group s.options.group_rows (omega arith) s.had s.had (λ n low e. e) (state_of store.snapshots) versions Needed covers disk (state vault.disk) spared
        same_use.jobs store.jobs.items s.jobs shown.jobs

    cursors_here : AllZip (ShowsCursor (state vault.disk) versions.cursors s.table.keys more) store.cursors.items s.cursors
    cursors_here = cursors_on s.table.keys s.next_group more grows (state_of store.snapshots) versions Needed covers disk (state vault.disk) spared
        same_use.cursors store.cursors.items s.cursors shown.cursors

    open_on : ShowsOpen (state vault.disk) later (record s { next_group = more })
    open_on = record {
      sure = shown.sure;
      root = shown.root;
      root_kept = root_here;
      means = shown.means;
      next = shown.next;
      current = same_use.current ∙ shown.current;
      version = version_on;
      jobs = jobs_here;
      cursors = cursors_here;
      tracks_jobs = same_use.numbers ∙ shown.tracks_jobs;
      tracks_cursors = ap (λ (cs : List (ℕ × List FileGroup)). numbers_at cs) same_use.cursors ∙ shown.tracks_cursors;
      numbered_jobs = shown.numbered_jobs;
      numbered_cursors = shown.numbered_cursors;
      parted = shown.parted;
      files = files;
      tracked = tracked;
    }

    pub carried : Shows state later (record s { next_group = more })
    carried = record {
      valid = shows.valid;
      apart = shows.apart;
      one_root = shows.one_root;
      options = shows.options;
      in_range = shows.in_range;
      schema = shows.schema;
      keys = shows.keys;
      next_job = shows.next_job;
      next_cursor = shows.next_cursor;
      next_group = refl;
      counted = fits;
      closed = shows.closed;
      room = room_on s.table.keys Needed disk (state vault.disk) spared shows.room;
      sound = sound_for (state vault.disk) more root shown.root s.table ready_here (room_on s.table.keys Needed disk (state vault.disk) spared shows.room) shows.one_root (rooted_on s.table.keys Needed disk (state vault.disk) spared shows.sound.sound.rooted) root_here
          (MayHold (record s { next_group = more })) (inl refl);
      shown = λ o. open_on;
    }
