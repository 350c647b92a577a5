-- A store that has other jobs, cursors and versions in use: its table, its root and its files are the same.
use Rattle.std.proofs.Common.{◌≡◌, ℕ, false, List, sym, ◌∙◌, ap, subst}
use Rattle.std.specs.Prelude.{Vec}
use Rattle.std.specs.List.{AllZip}
use Rattle.std.specs.declared.alloc.Global.{Global}
use Rattle.schema.specs.Keys.{AreDistinct}
use Rattle.disk.specs.State.{State as DiskState}
use Rattle.manifest.specs.Groups.{numbers_of, root_of}
use Rattle.snapshots.specs.declared.state.Snapshots.{Snapshots}
use Rattle.snapshots.specs.State.{State as Versions}
use Rattle.snapshots.specs.Views.{state_of}
use Rattle.table.specs.Cursors.{Cursor}
use Rattle.table.specs.State.{State, Job}
use Rattle.table_state.specs.declared.standing.Core.{Core}
use Rattle.table_state.specs.declared.jobs.OpenJob.{OpenJob}
use Rattle.table_state.specs.declared.jobs.OpenCursor.{OpenCursor}
use Rattle.table_state.specs.Stands.{AreFilesBelow, AreNumbered, TracksJobs, TracksCursors, ShowsJobs, ShowsCursor, ShowsOpen, Shows, numbers_at, written_in}
use Rattle.table_commits.proofs.TrackedFiles.{tracked_as}

-- what is open is shown, tracked and numbered
pub record IsOpenSo (disk : DiskState) (versions : Versions) (s : State) (shown_jobs : List OpenJob) (shown_cursors : List OpenCursor) : Type 0 where
  pub jobs : ShowsJobs disk versions s shown_jobs s.jobs
  pub cursors : AllZip (ShowsCursor disk versions.cursors s.table.keys s.next_group) shown_cursors s.cursors
  pub tracks_jobs : TracksJobs versions.jobs shown_jobs
  pub tracks_cursors : TracksCursors versions.cursors shown_cursors
  pub numbered_jobs : AreNumbered s.next_job (numbers_at s.jobs)
  pub numbered_cursors : AreNumbered s.next_cursor (numbers_at s.cursors)
  pub parted : AreDistinct (numbers_of (written_in shown_jobs))
  pub files : AreFilesBelow s.next_group versions

module _ {D : Type 0} (state : D → DiskState) (store : Core D) (s : State) (shows : Shows state store s) (is_open : s.closed ≡ false) where
  abbrev disk : DiskState
  disk = state store.vault.disk

  shown : ShowsOpen disk store s
  shown = shows.shown is_open

  -- so it is here
  pub open_here : IsOpenSo disk (state_of store.snapshots) s store.jobs.items store.cursors.items
  open_here = record {
    jobs = shown.jobs;
    cursors = shown.cursors;
    tracks_jobs = shown.tracks_jobs;
    tracks_cursors = shown.tracks_cursors;
    numbered_jobs = shown.numbered_jobs;
    numbered_cursors = shown.numbered_cursors;
    parted = shown.parted;
    files = shown.files;
  }

  module _ (snapshots : Snapshots) (jobs : Vec OpenJob Global) (cursors : Vec OpenCursor Global) (next_job next_cursor job_count cursor_count : ℕ) (js : List (ℕ × Job)) (cs : List (ℕ × Cursor))
      (current : (state_of snapshots).current ≡ (state_of store.snapshots).current) (files : (state_of snapshots).files ≡ (state_of store.snapshots).files) (jobs_counted : next_job ≡ job_count) (cursors_counted : next_cursor ≡ cursor_count)
      (is : IsOpenSo disk (state_of snapshots) (record s { jobs = js; cursors = cs; next_job = job_count; next_cursor = cursor_count }) jobs.items cursors.items) where
    pub shows_open : Shows state (record store { snapshots = snapshots; jobs = jobs; cursors = cursors; next_job = next_job; next_cursor = next_cursor })
        (record s { jobs = js; cursors = cs; next_job = job_count; next_cursor = cursor_count })
    shows_open = record {
      valid = shows.valid;
      apart = shows.apart;
      one_root = shows.one_root;
      options = shows.options;
      in_range = shows.in_range;
      schema = shows.schema;
      keys = shows.keys;
      next_job = jobs_counted;
      next_cursor = cursors_counted;
      next_group = shows.next_group;
      counted = shows.counted;
      closed = shows.closed;
      room = shows.room;
      sound = record { tables = shows.sound.tables; sound = shows.sound.sound };
      shown = λ o. record {
        sure = shown.sure;
        root = shown.root;
        root_kept = shown.root_kept;
        means = shown.means;
        next = shown.next;
        current = current ∙ shown.current;
        version = shown.version;
        jobs = is.jobs;
        cursors = is.cursors;
        tracks_jobs = is.tracks_jobs;
        tracks_cursors = is.tracks_cursors;
        numbered_jobs = is.numbered_jobs;
        numbered_cursors = is.numbered_cursors;
        parted = is.parted;
        files = is.files;
        tracked = λ clean. tracked_as disk (root_of store.manifest).keys (state_of store.snapshots) (state_of snapshots) files (shown.tracked clean);
      };
    }

  -- where all this lies in memory shows nothing
  pub shows_moved : (snapshots : Snapshots) (jobs : Vec OpenJob Global) (cursors : Vec OpenCursor Global) → state_of snapshots ≡ state_of store.snapshots → jobs.items ≡ store.jobs.items → cursors.items ≡ store.cursors.items
      → Shows state (record store { snapshots = snapshots; jobs = jobs; cursors = cursors }) s
  shows_moved snapshots jobs cursors d e f = shows_open snapshots jobs cursors store.next_job store.next_cursor s.next_job s.next_cursor s.jobs s.cursors (ap (λ (v : Versions). v.current) d) (ap (λ (v : Versions). v.files) d) shows.next_job shows.next_cursor
      (subst (λ (v : Versions). IsOpenSo disk v s jobs.items cursors.items) (sym d)
      (subst (λ (cs : List OpenCursor). IsOpenSo disk (state_of store.snapshots) s jobs.items cs) (sym f) (subst (λ (js : List OpenJob). IsOpenSo disk (state_of store.snapshots) s js store.cursors.items) (sym e) open_here)))
