-- Where a store stands after its root was to be swapped.
use Rattle.std.proofs.Common.{◌≡◌, ◌≢◌, ◌≤◌, ◌<◌, ◌^◌, ◌⊎◌, ◌==◌, ℕ, true, false, List, [], ◌∷◌, Some, Result, Ok, refl, sym, ◌∙◌, ap, subst, arith, inl, inr, ⊎_elim}
use Rattle.std.specs.List.{AllZip}
use Rattle.std.proofs.lemmas.Bool.{eqb-true, or_cases as either}
use Rattle.bits.specs.declared.refusal.Refusal.{Refusal}
use Rattle.bits.specs.declared.refusal.Refusal.TheVariants.{Device, InDoubt}
use Rattle.bits.specs.Refusals.{HasCause, RefusedOnly}
use Rattle.schema.specs.Shape.{Fields}
use Rattle.schema.specs.Keys.{KeyColumn, AreDistinct}
use Rattle.disk.specs.State.{Image, State as DiskState, content, may_leave}
use Rattle.vault.specs.declared.vault.Vault.{Vault}
use Rattle.vault.specs.Views.{LeavesAfter, AllBut, Swaps, IsKept, WasKept, IsRooted, root_path, next_path}
use Rattle.vault.specs.Calls.{HasFailed, SwapsRoot}
use Rattle.vault.proofs.Moments.{widens}
use Rattle.partition.specs.Folders.{part_path_of}
use Rattle.manifest.specs.Groups.{Group as FileGroup, root_of, numbers_of}
use Rattle.snapshots.specs.declared.state.Snapshots.{Snapshots}
use Rattle.snapshots.specs.State.{State as Versions, File, file_of, is_same, names, committed, after, jobs_without}
use Rattle.snapshots.specs.Views.{state_of, prepared_of}
use Rattle.table.specs.Table.{Group, Table}
use Rattle.table.specs.State.{State, Job, had_with}
use Rattle.table.specs.Stops.{MayHold, Survives}
use Rattle.table_state.specs.declared.standing.Core.{Core}
use Rattle.table_commits.specs.declared.turn.Turn.{Turn}
use Rattle.table_state.specs.declared.jobs.OpenJob.{OpenJob}
use Rattle.std.specs.Prelude.{Vec, reverse, IfErr}
use Rattle.std.specs.declared.alloc.Global.{Global}
use Rattle.lists.proofs.Booleans.{and_first as both}
use Rattle.table_state.specs.Paths.{IsPartBelow, IsOlder}
use Rattle.table_state.specs.OnDisk.{HoldsTable}
use Rattle.table_state.specs.Spares.{Agrees, IsPlace, Spares, HasRoom}
use Rattle.table_state.specs.Lookups.{jobs_left}
use Rattle.table_state.specs.Stands.{AreStored, IsReady, ShowsJob, ShowsJobs, ShowsCursor, AreFilesBelow, AreNumbered, AreTracked, TracksJobs, ShowsOpen, Shows, numbers_at, job_numbers, written_in}
use Rattle.table_commits.specs.Committing.{turned, doubted, TurnsInto, IsTurnTo, Turns}
use Rattle.table_commits.proofs.SparedDisks.{rooted_on, room_on, swap_spares, off_place}
use Rattle.table_commits.proofs.OpenNumbers.{tracks_left, numbered_left, numbers_shown}
use Rattle.table_commits.proofs.NumbersOfJobs.{parted_left}
use Rattle.table_commits.proofs.StoredStays.{part_below, Any, all_any, stored_on, cursors_on, jobs_on, hold_same}
use Rattle.table_commits.proofs.SoundDisks.{holds_like, sound_for, sound_for_either}
use Rattle.table_commits.proofs.PartFilesWritten.{failed, cause_at, same_use}
use Rattle.table_commits.proofs.StateCarriedOver.{root_is_older, file_is_older, past_of, carried, survives_spared, shown, ready}
use Rattle.table_commits.proofs.OlderFiles.{kept_spared, kept_swapped}
use Rattle.table_commits.proofs.TrackedFiles.{tracked_after_swap, tracked_committed}

-- a version whose groups are stored names only files below the count
names_below : (disk : DiskState) (keys : List KeyColumn) (schema : Fields) (count : ℕ) (files : List FileGroup) (groups : List Group) → AreStored disk keys schema count files groups
    → (f : File) → names files f ≡ true → f.number < count
names_below disk keys schema count [] groups z f e = absurd (cc)
names_below disk keys schema count (x ∷ xs) (g ∷ gs) z f e = ⊎_elim
    (λ is.
    let n : x.number ≡ f.number = eqb-true x.number f.number (both (x.number == f.number) _ is) in
    let l = z.0.below in omega (arith, n, l))
    (λ more. names_below disk keys schema count xs gs z.1 f more)
    (either (is_same (file_of x) f) (names xs f) e)
names_below disk keys schema count (x ∷ xs) [] z f e = absurd z

module _ {D : Type 0} (state : D → DiskState) (store : Core D) (s : State) (t : Table) (jobs : List (ℕ × Job)) (shows : Shows state store s) (is_open : s.closed ≡ false)
    (turn : Turn) (is_turn : IsTurnTo (state store.vault.disk) store s t jobs turn) where
  abbrev disk : DiskState
  disk = state store.vault.disk

  abbrev keys : List KeyColumn
  keys = s.table.keys

  abbrev here : ShowsOpen disk store s
  here = shown state store s shows is_open

  module _ {T : Type 0} (vault : Vault D) (result : Result T Refusal) (swaps : SwapsRoot turn.root.items disk (state vault.disk) result) where
    -- a refusal that is not out of memory comes only where the disk failed
    failed_by : (e : Refusal) → result ≡ failed T e → HasCause (λ _. HasFailed disk (state vault.disk)) e
    failed_by e is = subst (λ (r : Result T Refusal). RefusedOnly (λ _. HasFailed disk (state vault.disk)) r) is
        (swaps.cause (record { root = shows.room root_path (inl refl); next = shows.room next_path (inr (inl refl)) }))

    abbrev new : DiskState
    new = state vault.disk

    -- a part file is at neither of the root's names
    part_off : (q : List ℕ) → IsPartBelow keys s.next_group q → (q ≢ root_path) × (q ≢ next_path)
    part_off q low =
        let fits : low.number < 2 ^ 64 = let l = low.below in let c = shows.counted in omega (arith, l, c) in
        let off = shows.apart.off_roots keys low.key low.number low.can fits in
        (λ e. off.not_root (sym low.is ∙ e), λ e. off.not_next (sym low.is ∙ e))

    -- the part files stay
    parts_spare : Spares keys (IsPartBelow keys s.next_group) disk new
    parts_spare = record {
      moments = widens (Swaps turn.root.items) (Agrees (IsPartBelow keys s.next_group)) disk new (λ u v change q low. let off = part_off q low in change.others q off.0 off.1) swaps.moments;
      seen = λ q low other. let off = part_off q low in swaps.seen.others q off.0 off.1;
      rooted = swaps.rooted;
      clear = λ q place. swaps.clear q (off_place keys shows.apart q place);
    }

    rooted_here : IsRooted new
    rooted_here = rooted_on keys (IsPartBelow keys s.next_group) disk new parts_spare shows.sound.sound.rooted

    -- ---- the swap did nothing

    pub turn_refused : (e : Refusal) → result ≡ failed T e → e ≢ InDoubt → LeavesAfter (AllBut next_path) disk new → Turns state store (record store { vault = vault }) s t jobs (failed T e)
    turn_refused e result_is other left =
        let spares = swap_spares keys shows.apart (IsOlder keys s.next_group) turn.root.items disk new result (λ q older. older.not_next) swaps left in
        record {
          after_it = s;
          is = is_same e other;
          shows = subst (λ (n : ℕ). Shows state (record store { vault = vault }) (record s { next_group = n })) shows.next_group
              (carried state store s shows is_open vault store.snapshots store.next_group (let e = shows.next_group in omega (arith, e)) (let e = shows.next_group in let l = shows.counted in omega (arith, e, l)) (IsOlder keys s.next_group) (root_is_older state store s shows) (λ f low held. file_is_older state store s shows f low) spares
              (same_use (state_of store.snapshots) (state_of store.snapshots) refl) (λ f there. let l = here.files f there in let e = shows.next_group in omega (arith, l, e))
              store.clean (λ clean. tracked_after_swap (root_of store.manifest).keys (state_of store.snapshots) (state_of store.snapshots) (λ f there. there) shows.apart turn.root.items disk new swaps.seen (here.tracked clean)));
          survives = survives_spared state store s shows is_open (IsOlder keys s.next_group) (root_is_older state store s shows) (λ f low held. file_is_older state store s shows f low) new spares s refl;
          past = past_of disk new left;
          cause = ⊎_elim (λ is. cause_at _ Device e (λ h. h) (failed_by e result_is) is) (λ is. absurd (other is));
          doubt = λ is. absurd (other is);
          kept = λ keeps. kept_spared state store (record store { vault = vault }) s keeps spares;
        }
      where
        is_same : (f : Refusal) → f ≢ InDoubt → TurnsInto (failed T f) s t jobs s
        is_same InDoubt n = absurd (n refl)
        is_same f n = refl

    -- ---- it is done, or in doubt

    new_stored : AreStored new t.keys t.schema s.next_group (root_of turn.manifest).groups t.groups
    new_stored =
        subst (λ (ks : List KeyColumn). AreStored new ks t.schema s.next_group (root_of turn.manifest).groups t.groups) (sym is_turn.keys)
        (stored_on keys s.next_group s.next_group (omega arith) Any (IsPartBelow keys s.next_group) (λ f low held. part_below keys s.next_group f low) disk new parts_spare t.schema (root_of turn.manifest).groups t.groups (all_any (root_of turn.manifest).groups)
        (subst (λ (ks : List KeyColumn). AreStored disk ks t.schema s.next_group (root_of turn.manifest).groups t.groups) is_turn.keys is_turn.ready.stored))

    new_ready : IsReady new s.next_group (root_of turn.manifest) turn.root.items t
    new_ready = record { means = is_turn.ready.means; schema = is_turn.ready.schema; keys = is_turn.ready.keys; next = is_turn.ready.next; stored = new_stored }

    old_ready : IsReady new s.next_group (root_of store.manifest) here.root s.table
    old_ready = record {
      means = here.means;
      schema = shows.schema;
      keys = shows.keys;
      next = here.next;
      stored = stored_on keys s.next_group s.next_group (omega arith) Any (IsPartBelow keys s.next_group) (λ f low held. part_below keys s.next_group f low) disk new parts_spare s.table.schema (root_of store.manifest).groups s.table.groups (all_any (root_of store.manifest).groups) here.version;
    }

    -- each image has the one table or the other
    either_table : (m : ℕ) (c : Image) → disk.moment ≤ m → m ≤ new.moment → new.images m c → HoldsTable c s.table ⊎ HoldsTable c t
    either_table m c lo hi at =
        let was = swaps.moments.each m c lo hi at in
        ⊎_elim
        (λ same. inl (holds_like disk s.next_group (root_of store.manifest) here.root s.table (ready state store s shows is_open) Any (all_any (root_of store.manifest).groups) was.0 c was.1 (same ∙ here.root_kept was.0 was.1)
        (λ f low held. let path = part_path_of (root_of store.manifest).keys f.key f.number in let off = part_off path (subst (λ (ks : List KeyColumn). IsPartBelow ks s.next_group path) shows.keys (part_below (root_of store.manifest).keys s.next_group f low)) in was.2.others path off.0 off.1)
        (λ path place. parts_spare.clear path place (shows.room path place) m c lo hi at)))
        (λ is. inr (holds_like disk s.next_group (root_of turn.manifest) turn.root.items t is_turn.ready Any (all_any (root_of turn.manifest).groups) was.0 c was.1 is
        (λ f low held. let path = part_path_of (root_of turn.manifest).keys f.key f.number in let off = part_off path (subst (λ (ks : List KeyColumn). IsPartBelow ks s.next_group path) (is_turn.ready.keys ∙ is_turn.keys) (part_below (root_of turn.manifest).keys s.next_group f low)) in was.2.others path off.0 off.1)
        (λ path place. let own = subst (λ (ks : List KeyColumn). IsPlace ks path) is_turn.keys place in parts_spare.clear path own (shows.room path own) m c lo hi at)))
        was.2.either

    survives_to : (next : State) → MayHold next t → ((c : Image) → may_leave new c → (table : Table) × HoldsTable c table × MayHold next table) → Survives new.images HoldsTable disk.moment new.moment s next
    survives_to next may ends = record {
      later = swaps.moments.later;
      each = λ m c lo hi at. ⊎_elim (λ h. (s.table, h, inl (inl refl))) (λ h. (t, h, inr may)) (either_table m c lo hi at);
      ended = ends;
    }

    room_here : HasRoom keys new
    room_here = room_on keys (IsPartBelow keys s.next_group) disk new parts_spare shows.room

    room_too : HasRoom t.keys new
    room_too = subst (λ (ks : List KeyColumn). HasRoom ks new) (sym is_turn.keys) room_here

    module _ (snapshots : Snapshots) (published : state_of snapshots ≡ prepared_of turn.prepared) (left : Vec OpenJob Global) (left_is : left.items ≡ jobs_left turn.job store.jobs.items) (kept : IsKept new root_path turn.root.items) where
      abbrev versions : Versions
      versions = state_of snapshots

      is_after : versions ≡ after (state_of store.snapshots) (committed (root_of turn.manifest).groups turn.job)
      is_after = published ∙ is_turn.prepared

      abbrev next : State
      next = turned s t jobs

      -- the versions of then, with the jobs that are left
      abbrev between : Versions
      between = record (state_of store.snapshots) { jobs = jobs_without turn.job (state_of store.snapshots).jobs }

      jobs_next : ShowsJobs new versions next left.items jobs
      jobs_next =
          subst (λ (ks : List KeyColumn). AllZip (ShowsJob new ks t.schema s.next_group s.options.group_rows (had_with t s.had) versions.jobs) left.items jobs) (sym is_turn.keys)
          (jobs_on keys t.schema s.next_group s.next_group s.options.group_rows (omega arith) (had_with t s.had) (had_with t s.had) (λ n low e. e) between versions (IsPartBelow keys s.next_group) (λ f low held. part_below keys s.next_group f low) disk new parts_spare
          (hold_same between.jobs versions.jobs (ap (λ (v : Versions). v.jobs) is_after)) left.items jobs
          (subst (λ (ks : List KeyColumn). AllZip (ShowsJob disk ks t.schema s.next_group s.options.group_rows (had_with t s.had) between.jobs) left.items jobs) is_turn.keys
          (subst (λ (js : List OpenJob). AllZip (ShowsJob disk t.keys t.schema s.next_group s.options.group_rows (had_with t s.had) between.jobs) js jobs) (sym left_is) is_turn.jobs_are)))

      cursors_next : AllZip (ShowsCursor new versions.cursors t.keys s.next_group) store.cursors.items s.cursors
      cursors_next =
          subst (λ (ks : List KeyColumn). AllZip (ShowsCursor new versions.cursors ks s.next_group) store.cursors.items s.cursors) (sym is_turn.keys)
          (cursors_on keys s.next_group s.next_group (omega arith) (state_of store.snapshots) versions (IsPartBelow keys s.next_group) (λ f low held. part_below keys s.next_group f low) disk new parts_spare (ap (λ (v : Versions). v.cursors) is_after) store.cursors.items s.cursors here.cursors)

      -- the jobs that are left are tracked, and numbered
      tracks_next : TracksJobs versions.jobs left.items
      tracks_next = ap (λ (v : Versions). numbers_at v.jobs) is_after ∙ tracks_left turn.job (state_of store.snapshots).jobs store.jobs.items here.tracks_jobs ∙ ap (λ (js : List OpenJob). reverse (job_numbers js)) (sym left_is)

      numbered_next : AreNumbered s.next_job (numbers_at jobs)
      numbered_next = subst (λ (ns : List ℕ). AreNumbered s.next_job ns)
          (ap (λ (js : List OpenJob). job_numbers js) (sym left_is) ∙ numbers_shown new t.keys t.schema s.next_group s.options.group_rows (had_with t s.had) versions.jobs left.items jobs jobs_next)
          (numbered_left s.next_job turn.job store.jobs.items
          (subst (λ (ns : List ℕ). AreNumbered s.next_job ns) (sym (numbers_shown disk keys s.table.schema s.next_group s.options.group_rows s.had (state_of store.snapshots).jobs store.jobs.items s.jobs here.jobs)) here.numbered_jobs))

      files_next : AreFilesBelow s.next_group versions
      files_next f there = ⊎_elim
          (λ is. names_below new t.keys t.schema s.next_group (root_of turn.manifest).groups t.groups new_stored f is)
          (λ was. here.files f was)
          (either (names (root_of turn.manifest).groups f) ((state_of store.snapshots).files f) (sym (ap (λ (v : Versions). v.files f) is_after) ∙ there))

      keys_stay : (root_of turn.manifest).keys ≡ (root_of store.manifest).keys
      keys_stay = is_turn.ready.keys ∙ is_turn.keys ∙ sym shows.keys

      tracked_next : store.clean ≡ true → AreTracked new (root_of turn.manifest).keys versions
      tracked_next clean = tracked_committed store turn.manifest versions turn.job is_after keys_stay shows.apart turn.root.items disk new swaps.seen (here.tracked clean)

      open_next : ShowsOpen new (record store { vault = vault; manifest = turn.manifest; snapshots = snapshots; jobs = left }) next
      open_next = record {
        sure = here.sure;
        root = turn.root.items;
        root_kept = kept;
        means = is_turn.ready.means;
        next = is_turn.ready.next;
        current = ap (λ (v : Versions). v.current) is_after;
        version = new_stored;
        jobs = jobs_next;
        cursors = cursors_next;
        tracks_jobs = tracks_next;
        tracks_cursors = ap (λ (v : Versions). numbers_at v.cursors) is_after ∙ here.tracks_cursors;
        numbered_jobs = numbered_next;
        numbered_cursors = here.numbered_cursors;
        parted = subst (λ (js : List OpenJob). AreDistinct (numbers_of (written_in js))) (sym left_is) (parted_left turn.job store.jobs.items here.parted);
        files = files_next;
        tracked = tracked_next;
      }

      pub turn_done : (x : T) → Turns state store (record store { vault = vault; manifest = turn.manifest; snapshots = snapshots; jobs = left }) s t jobs (Ok x)
      turn_done x = record {
        after_it = next;
        is = refl;
        shows = record {
          valid = is_turn.valid;
          apart = shows.apart;
          one_root = shows.one_root;
          options = shows.options;
          in_range = shows.in_range;
          schema = is_turn.ready.schema;
          keys = is_turn.ready.keys;
          next_job = shows.next_job;
          next_cursor = shows.next_cursor;
          next_group = shows.next_group;
          counted = shows.counted;
          closed = shows.closed;
          room = room_too;
          sound = sound_for new s.next_group (root_of turn.manifest) turn.root.items t new_ready room_too shows.one_root rooted_here kept (MayHold next) (inl refl);
          shown = λ o. open_next;
        };
        survives = survives_to next (inl refl) (λ c may. (t, holds_like new s.next_group (root_of turn.manifest) turn.root.items t new_ready Any (all_any (root_of turn.manifest).groups) c c may (kept c may) (λ f low held. refl) (λ path place. room_too path place c may), inl refl));
        past = past_of disk new swaps.moments;
        cause = tt;
        doubt = tt;
        kept = λ keeps. kept_swapped state store (record store { vault = vault; manifest = turn.manifest; snapshots = snapshots; jobs = left }) s turn.root.items result keeps swaps;
      }

    each_root : (c : Image) → may_leave new c → (content c root_path ≡ Some here.root) ⊎ (content c root_path ≡ Some turn.root.items)
    each_root c may =
        let was = swaps.moments.each new.moment c swaps.moments.later (omega arith) may in
        ⊎_elim (λ same. inl (same ∙ here.root_kept was.0 was.1)) (λ is. inr is) was.2.either

    -- in doubt only after this next root was whole
    next_kept : (e : Refusal) → result ≡ failed T e → e ≡ InDoubt → WasKept next_path turn.root.items disk new
    next_kept e is = subst (λ (r : Result T Refusal). IfErr r (λ f. f ≡ InDoubt → WasKept next_path turn.root.items disk new)) is swaps.in_doubt

    pub turn_doubted : (e : Refusal) → result ≡ failed T e → e ≡ InDoubt → Turns state store (record store { vault = vault; closed = true }) s t jobs (failed T InDoubt)
    turn_doubted e result_is doubt =
        let sound = sound_for_either new s.next_group (root_of store.manifest) (root_of turn.manifest) here.root turn.root.items s.table t old_ready new_ready each_root room_here room_too shows.one_root rooted_here (MayHold (doubted s t)) (inl refl) (inr refl) in
        record {
          after_it = doubted s t;
          is = refl;
          shows = record {
            valid = shows.valid;
            apart = shows.apart;
            one_root = shows.one_root;
            options = shows.options;
            in_range = shows.in_range;
            schema = shows.schema;
            keys = shows.keys;
            next_job = shows.next_job;
            next_cursor = shows.next_cursor;
            next_group = shows.next_group;
            counted = shows.counted;
            closed = refl;
            room = room_here;
            sound = sound;
            shown = λ o. absurd (cc);
          };
          survives = survives_to (doubted s t) (inr refl) (λ c may. let h = sound.tables c may in (h.table, h.held, h.allowed));
          past = past_of disk new swaps.moments;
          cause = λ is. cause_at _ InDoubt e (λ h. h) (failed_by e result_is) doubt;
          doubt = λ is. (turn.root.items, next_kept e result_is doubt);
          kept = λ keeps. kept_swapped state store (record store { vault = vault; closed = true }) s turn.root.items result keeps swaps;
        }
