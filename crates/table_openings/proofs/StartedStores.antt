-- A store on which nothing is open shows the table that its description finds on the disk.
use Rattle.std.proofs.Common.{◌≡◌, ◌<◌, ◌==◌, ℕ, true, List, [], ◌∷◌, refl, sym, ◌∙◌, ap, subst, arith, inl, ⊎_elim}
use Rattle.std.specs.Prelude.{Contains, reverse}
use Rattle.std.specs.List.{AllZip, AllByRecursion}
use Rattle.std.proofs.lemmas.Bool.{eqb-true, or_cases as either}
use Rattle.lists.proofs.Booleans.{and_first as both}
use Rattle.disk.specs.State.{Image, State as DiskState, content, may_leave}
use Rattle.vault.specs.Views.{IsKept, root_path}
use Rattle.footer.specs.declared.options.WriteOptions.{WriteOptions}
use Rattle.footer.specs.Writing.{IsOutOfRange}
use Rattle.schema.specs.Keys.{KeyColumn, AreDistinct}
use Rattle.manifest.specs.Groups.{Group as FileGroup, Root, root_of, numbers_of}
use Rattle.manifest.specs.Root.{IsDescription}
use Rattle.manifest.specs.Table.{IsTableOf, path_of_group}
use Rattle.manifest.specs.Laws.{RootsMeanOneTable, RowsOfPartsFit}
use Rattle.recovery.specs.Sound.{IsSound}
use Rattle.recovery.specs.Opening.{IsClean}
use Rattle.snapshots.specs.State.{State as Versions, File, file_of, is_same, names}
use Rattle.snapshots.specs.Views.{state_of}
use Rattle.table.specs.Table.{Table, IsTable}
use Rattle.table.specs.State.{State, opened}
use Rattle.table.specs.Refusing.{no_calls}
use Rattle.table_state.specs.declared.standing.Core.{Core}
use Rattle.table_state.specs.declared.jobs.OpenJob.{OpenJob}
use Rattle.table_state.specs.declared.jobs.OpenCursor.{OpenCursor}
use Rattle.table_state.specs.Paths.{PathsAreApart}
use Rattle.table_state.specs.Spares.{HasRoom}
use Rattle.table_state.specs.Stands.{AreStored, ShowsJobs, ShowsCursor, AreFilesBelow, IsTracked, ShowsOpen, Shows, Stands, numbers_at, job_numbers, cursor_numbers, written_in}
use Rattle.table_state.specs.Starting.{IsStarted}
use Rattle.table_commits.proofs.TrackedFiles.{clean_names, current_tracked}
use Rattle.table_openings.proofs.TablesFound as found

-- a version names only files below a number that all its groups are below
names_below : (count : ℕ) (files : List FileGroup) → AllByRecursion (λ (g : FileGroup). g.number < count) files → (f : File) → names files f ≡ true → f.number < count
names_below count [] low f e = absurd (cc)
names_below count (x ∷ xs) low f e = ⊎_elim
    (λ is.
    let n : x.number ≡ f.number = eqb-true x.number f.number (both (x.number == f.number) _ is) in
    let l = low.0 in omega (arith, n, l))
    (λ more. names_below count xs low.1 f more)
    (either (is_same (file_of x) f) (names xs f) e)

module _ {D : Type 0} (state : D → DiskState) (store : Core D) (o : WriteOptions) (is : IsStarted o store) (t : Table)
    (each : (c : Image) → may_leave (state store.vault.disk) c → IsTableOf (content c) (root_of store.manifest) t)
    (bytes : List ℕ) (kept : IsKept (state store.vault.disk) root_path bytes)
    (parts_kept : (g : FileGroup) → Contains (root_of store.manifest).groups g → (b : List ℕ) × IsKept (state store.vault.disk) (path_of_group (root_of store.manifest) g) b)
    (seen_may : may_leave (state store.vault.disk) (state store.vault.disk).seen) (fit : RowsOfPartsFit) where
  abbrev disk : DiskState
  disk = state store.vault.disk

  abbrev root : Root
  root = root_of store.manifest

  there : IsTableOf (content disk.seen) root t
  there = found.found disk root t each bytes kept parts_kept seen_may fit

  described : IsDescription root
  described = found.described disk root t each bytes kept parts_kept seen_may fit

  abbrev now : State
  now = opened o t

  files_below : AreFilesBelow t.next (state_of store.snapshots)
  files_below f tracked =
      let low = names_below root.next root.groups described.below f (sym (ap (λ (v : Versions). v.files f) is.versions) ∙ tracked) in
      let e = there.next in omega (arith, low, e)

  valid : IsTable t
  valid = found.valid disk root t each bytes kept parts_kept seen_may fit

  stored_here : AreStored disk t.keys t.schema t.next root.groups t.groups
  stored_here = found.stored disk root t each bytes kept parts_kept seen_may fit

  -- only what the root names is there, and that is tracked
  tracked_here : PathsAreApart → (store.clean ≡ true → IsClean root disk) → IsTracked disk store
  tracked_here apart cleaned clean key number can fits file reads =
      current_tracked store.snapshots (record { number = number; key = key })
      (subst (λ (gs : List FileGroup). names gs (record { number = number; key = key }) ≡ true) (sym (ap (λ (v : Versions). v.current) is.versions))
      (clean_names root disk disk t.schema t.next t.groups apart (let below = described.fits in let e = there.next in omega (arith, below, e))
      (subst (λ (ks : List KeyColumn). AreStored disk ks t.schema t.next root.groups t.groups) there.keys stored_here) (cleaned clean) key number can fits file reads))

  shows_open : PathsAreApart → (store.clean ≡ true → IsClean root disk) → ShowsOpen disk store now
  shows_open apart cleaned = record {
    sure = refl;
    root = bytes;
    root_kept = kept;
    means = found.means disk root t each bytes kept parts_kept seen_may fit;
    next = sym there.next;
    current = ap (λ (v : Versions). v.current) is.versions;
    version = stored_here;
    jobs = subst (λ (js : List OpenJob). ShowsJobs disk (state_of store.snapshots) now js []) (sym is.jobs) tt;
    cursors = subst (λ (cs : List OpenCursor). AllZip (ShowsCursor disk (state_of store.snapshots).cursors t.keys t.next) cs []) (sym is.cursors) tt;
    tracks_jobs = ap (λ (v : Versions). numbers_at v.jobs) is.versions ∙ ap (λ (js : List OpenJob). reverse (job_numbers js)) (sym is.jobs);
    tracks_cursors = ap (λ (v : Versions). numbers_at v.cursors) is.versions ∙ ap (λ (cs : List OpenCursor). reverse (cursor_numbers cs)) (sym is.cursors);
    numbered_jobs = record { below = tt; distinct = tt };
    numbered_cursors = record { below = tt; distinct = tt };
    parted = subst (λ (js : List OpenJob). AreDistinct (numbers_of (written_in js))) (sym is.jobs) tt;
    files = files_below;
    tracked = tracked_here apart cleaned;
  }

  module _ (apart : PathsAreApart) (one : RootsMeanOneTable) (in_range : IsOutOfRange o → ⊥) (sound : IsSound disk) (room : HasRoom t.keys disk) (cleaned : store.clean ≡ true → IsClean root disk) where
    pub shows : Shows state store now
    shows = record {
      valid = valid;
      apart = apart;
      one_root = one;
      options = is.options;
      in_range = λ out. in_range (subst (λ (x : WriteOptions). IsOutOfRange x) is.options out);
      schema = sym there.schema;
      keys = sym there.keys;
      next_job = is.next_job;
      next_cursor = is.next_cursor;
      next_group = is.next_group ∙ sym there.next;
      counted = let fits = described.fits in let e = there.next in omega (arith, fits, e);
      closed = is.closed;
      room = room;
      sound = record { tables = λ c may. record { table = t; held = record { files = (root, each c may); room = λ path place. room path place c may }; allowed = inl refl }; sound = sound };
      shown = λ is_open. shows_open apart cleaned;
    }

    pub stands : Stands state store now
    stands = record {
      reached = record { options = o; table = t; is_table = valid; calls = []; answers = []; run = no_calls };
      shows = shows;
    }
