-- Something that is open ends: where the store stands then, and after what it needed was removed.
use Rattle.std.proofs.Common.{◌≡◌, ℕ, Bool, true, false, not, ◌||◌, ◌==◌, if◌then◌else◌, List, [], ◌∷◌, option_map, Option, Some, None, refl, sym, ◌∙◌, ap, subst, arith, inl, inr, ⊎_elim}
use Rattle.std.specs.Prelude.{Vec, is_some, IsTrue}
use Rattle.std.specs.List.{AllZip}
use Rattle.std.specs.declared.alloc.Global.{Global}
use Rattle.bits.specs.declared.refusal.Refusal.TheVariants.{Memory, NoJob, NoCursor}
use Rattle.disk.specs.State.{State as DiskState}
use Rattle.manifest.specs.Groups.{Group as FileGroup}
use Rattle.snapshots.specs.declared.state.Snapshots.{Snapshots}
use Rattle.snapshots.specs.State.{State as Versions, Pins, is_open as is_among_open, open_at, ended_at as ended_in, ended, closed, after, fault_of, unless as unless_so}
use Rattle.snapshots.specs.Views.{state_of}
use Rattle.table.specs.State.{State, ended_at}
use Rattle.table.specs.Calls.{Call, Answer, refused}
use Rattle.table.specs.Refusing.{Happens, gets_on, needs_memory, no_memory}
use Rattle.table.proofs.Steady.{is_other, stays}
use Rattle.table_state.specs.declared.standing.Core.{Core}
use Rattle.table_state.specs.declared.jobs.OpenJob.{OpenJob}
use Rattle.table_state.specs.declared.jobs.OpenCursor.{OpenCursor}
use Rattle.table_state.specs.Lookups.{jobs_left, cursors_left}
use Rattle.table_state.specs.Stands.{AreNumbered, ShowsJob, ShowsCursor, ShowsOpen, Shows, Stands, numbers_at, job_numbers, cursor_numbers}
use Rattle.table_commits.specs.Cleaning.{Clears}
use Rattle.table_state.specs.Promises.{IsOlderFile, KeepsFiles, ActsFrom}
use Rattle.table_commits.proofs.OpenNumbers.{numbers_shown, cursor_numbers_shown, tracks_left, tracks_cursors_left, numbered_left, numbered_cursors_left}
use Rattle.table_reads.proofs.AfterEvents.{jobs_left_shown, cursors_left_shown}
use Rattle.table_commits.proofs.NumbersOfJobs.{parted_left}
use Rattle.table_commits.proofs.OtherJobsAndCursors.{IsOpenSo, shows_open, shows_moved}
use Rattle.table_commits.proofs.OneCallMore.{reached_on}
use Rattle.table_commits.proofs.DisksLeftAlone.{all_here}
use Rattle.table_commits.proofs.DoubtCloses.{no_doubt}
use Rattle.table_commits.proofs.OlderFiles.{kept_read}
use Rattle.table_commits.proofs.UnchangedRefusals.{survived, same_past}

-- ---- look-ups

-- whether it is there
pub not_there : {X Y : Type 0} (view : X → Y) (r : Option X) (o : Option Y) (b : Bool) → is_some r ≡ not b → b ≡ true → option_map view r ≡ o → o ≡ None
not_there view None o b e f g = sym g
not_there view (Some x) o true e f g = absurd (cc)
not_there view (Some x) o false e f g = absurd (cc)

pub is_there : {X Y : Type 0} (view : X → Y) (r : Option X) (o : Option Y) (b : Bool) → is_some r ≡ not b → b ≡ false → option_map view r ≡ o → (y : Y) × (o ≡ Some y)
is_there view (Some x) o b e f g = (view x, sym g)
is_there view None o true e f g = absurd (cc)
is_there view None o false e f g = absurd (cc)

-- what is found is open
pub found_open : {A : Type 0} (n : ℕ) (xs : List (ℕ × A)) (a : A) → open_at n xs ≡ Some a → is_among_open n xs ≡ true
found_open n [] a e = absurd (cc)
found_open n (x ∷ xs) a e = by (x.0 == n) (found_open n xs a) e
  where
    by : (b : Bool) → (open_at n xs ≡ Some a → is_among_open n xs ≡ true) → (if b then Some x.1 else open_at n xs) ≡ Some a → (b || is_among_open n xs) ≡ true
    by true r f = refl
    by false r f = r f

module _ {D : Type 0} (state : D → DiskState) (store : Core D) (s : State) (stands : Stands state store s) (is_open : s.closed ≡ false) where
  abbrev disk : DiskState
  disk = state store.vault.disk

  abbrev versions : Versions
  versions = state_of store.snapshots

  here : ShowsOpen disk store s
  here = stands.shows.shown is_open

  -- ---- a refusal for memory, which leaves what is open elsewhere in memory

  pub refused_poor : (call : Call) → is_other call ≡ true → IsTrue (gets_on s call) → IsTrue (needs_memory s call) → (snapshots : Snapshots) (jobs : Vec OpenJob Global) (cursors : Vec OpenCursor Global)
      → state_of snapshots ≡ versions → jobs.items ≡ store.jobs.items → cursors.items ≡ store.cursors.items → ActsFrom state store (record store { snapshots = snapshots; jobs = jobs; cursors = cursors }) call (refused Memory) s
  refused_poor call other on needs snapshots jobs cursors d e f = record {
    after = s;
    happens = no_memory refl on needs (stays s call other);
    survives = survived state store s stands.shows;
    stands = record { reached = stands.reached; shows = shows_moved state store s stands.shows is_open snapshots jobs cursors d e f };
    past = same_past state store;
    doubt = λ is. absurd (cc);
    kept = λ keeps. kept_read state store (record store { snapshots = snapshots; jobs = jobs; cursors = cursors }) (IsOlderFile s) keeps (all_here disk);
  }

  -- ---- a call that opens or ends something

  module _ (call : Call) (answer : Answer) (next : State) (happens : Happens s call answer next) where
    pub opens : (snapshots : Snapshots) (jobs : Vec OpenJob Global) (cursors : Vec OpenCursor Global) (next_job next_cursor : ℕ)
        → Shows state (record store { snapshots = snapshots; jobs = jobs; cursors = cursors; next_job = next_job; next_cursor = next_cursor }) next
        → ActsFrom state store (record store { snapshots = snapshots; jobs = jobs; cursors = cursors; next_job = next_job; next_cursor = next_cursor }) call answer s
    opens snapshots jobs cursors next_job next_cursor shows = record {
      after = next;
      happens = happens;
      survives = record {
        later = omega arith;
        each = λ m c lo hi at.
            let now : m ≡ disk.moment = omega (arith, lo, hi) in
            let h = stands.shows.sound.tables c (subst (λ (k : ℕ). disk.images k c) now at) in
            (h.table, h.held, inl h.allowed);
        ended = λ c at. let h = shows.sound.tables c at in (h.table, h.held, h.allowed);
      };
      stands = record { reached = reached_on s stands.reached call answer next happens; shows = shows };
      past = same_past state store;
      doubt = no_doubt s call answer next happens (sym shows.closed ∙ stands.shows.closed);
      kept = λ keeps. kept_read state store (record store { snapshots = snapshots; jobs = jobs; cursors = cursors; next_job = next_job; next_cursor = next_cursor }) (IsOlderFile s) keeps (all_here disk);
    }

    -- and then removes what nothing needs, unless the store keeps what is replaced
    pub ends : next.closed ≡ s.closed → (snapshots : Snapshots) (jobs : Vec OpenJob Global) (cursors : Vec OpenCursor Global) (new : Core D)
        → Clears state (record store { snapshots = snapshots; jobs = jobs; cursors = cursors }) new next
        → (store.keeps ≡ true → new ≡ record store { snapshots = snapshots; jobs = jobs; cursors = cursors }) → ActsFrom state store new call answer s
    ends same snapshots jobs cursors new clears still = record {
      after = next;
      happens = happens;
      survives = record {
        later = clears.survives.later;
        each = λ m c lo hi at. let h = clears.survives.each m c lo hi at in (h.0, h.1, inr (⊎_elim (λ a. a) (λ a. a) h.2));
        ended = clears.survives.ended;
      };
      stands = record { reached = reached_on s stands.reached call answer next happens; shows = clears.shows };
      past = clears.past;
      doubt = no_doubt s call answer next happens same;
      kept = λ keeps. subst (λ (st : Core D). KeepsFiles state store st (IsOlderFile s)) (sym (still keeps))
          (kept_read state store (record store { snapshots = snapshots; jobs = jobs; cursors = cursors }) (IsOlderFile s) keeps (all_here disk));
    }

  -- ---- the end of a job

  job_numbers_are : job_numbers store.jobs.items ≡ numbers_at s.jobs
  job_numbers_are = numbers_shown disk s.table.keys s.table.schema s.next_group s.options.group_rows s.had versions.jobs store.jobs.items s.jobs here.jobs

  pub job_unrefused : (n : ℕ) (pins : Pins) → open_at n versions.jobs ≡ Some pins → fault_of versions (ended n) ≡ None
  job_unrefused n pins e = ap (λ (b : Bool). unless_so b NoJob) (found_open n versions.jobs pins e)

  module _ (n : ℕ) (snapshots : Snapshots) (steps : state_of snapshots ≡ after versions (ended n)) (jobs : Vec OpenJob Global) (left : jobs.items ≡ jobs_left (Some n) store.jobs.items) where
    abbrev without_job : State
    without_job = record s { jobs = ended_at n s.jobs }

    shown_left : AllZip (ShowsJob disk s.table.keys s.table.schema s.next_group s.options.group_rows s.had (ended_in n versions.jobs)) (jobs_left (Some n) store.jobs.items) (ended_at n s.jobs)
    shown_left = jobs_left_shown disk s.table.keys s.table.schema s.next_group s.options.group_rows s.had n versions.jobs store.jobs.items s.jobs here.jobs

    left_so : IsOpenSo disk (after versions (ended n)) without_job (jobs_left (Some n) store.jobs.items) store.cursors.items
    left_so = record {
      jobs = shown_left;
      cursors = here.cursors;
      tracks_jobs = tracks_left (Some n) versions.jobs store.jobs.items here.tracks_jobs;
      tracks_cursors = here.tracks_cursors;
      numbered_jobs = subst (λ (ns : List ℕ). AreNumbered s.next_job ns)
          (numbers_shown disk s.table.keys s.table.schema s.next_group s.options.group_rows s.had (ended_in n versions.jobs) (jobs_left (Some n) store.jobs.items) (ended_at n s.jobs) shown_left)
          (numbered_left s.next_job (Some n) store.jobs.items (subst (λ (ns : List ℕ). AreNumbered s.next_job ns) (sym job_numbers_are) here.numbered_jobs));
      numbered_cursors = here.numbered_cursors;
      parted = parted_left (Some n) store.jobs.items here.parted;
      files = here.files;
    }

    pub job_ended : Shows state (record store { snapshots = snapshots; jobs = jobs }) without_job
    job_ended = shows_open state store s stands.shows is_open snapshots jobs store.cursors store.next_job store.next_cursor s.next_job s.next_cursor (ended_at n s.jobs) s.cursors
        (ap (λ (v : Versions). v.current) steps) (ap (λ (v : Versions). v.files) steps) stands.shows.next_job stands.shows.next_cursor
        (subst (λ (js : List OpenJob). IsOpenSo disk (state_of snapshots) without_job js store.cursors.items) (sym left)
        (subst (λ (v : Versions). IsOpenSo disk v without_job (jobs_left (Some n) store.jobs.items) store.cursors.items) (sym steps) left_so))

  -- ---- the end of a cursor

  cursor_numbers_are : cursor_numbers store.cursors.items ≡ numbers_at s.cursors
  cursor_numbers_are = cursor_numbers_shown disk versions.cursors s.table.keys s.next_group store.cursors.items s.cursors here.cursors

  pub cursor_unrefused : (n : ℕ) (version : List FileGroup) → open_at n versions.cursors ≡ Some version → fault_of versions (closed n) ≡ None
  cursor_unrefused n version e = ap (λ (b : Bool). unless_so b NoCursor) (found_open n versions.cursors version e)

  module _ (n : ℕ) (snapshots : Snapshots) (steps : state_of snapshots ≡ after versions (closed n)) (cursors : Vec OpenCursor Global) (left : cursors.items ≡ cursors_left n store.cursors.items) where
    abbrev without_cursor : State
    without_cursor = record s { cursors = ended_at n s.cursors }

    seen_left : AllZip (ShowsCursor disk (ended_in n versions.cursors) s.table.keys s.next_group) (cursors_left n store.cursors.items) (ended_at n s.cursors)
    seen_left = cursors_left_shown disk s.table.keys s.next_group n versions.cursors store.cursors.items s.cursors here.cursors

    closed_so : IsOpenSo disk (after versions (closed n)) without_cursor store.jobs.items (cursors_left n store.cursors.items)
    closed_so = record {
      jobs = here.jobs;
      cursors = seen_left;
      tracks_jobs = here.tracks_jobs;
      tracks_cursors = tracks_cursors_left n versions.cursors store.cursors.items here.tracks_cursors;
      numbered_jobs = here.numbered_jobs;
      numbered_cursors = subst (λ (ns : List ℕ). AreNumbered s.next_cursor ns)
          (cursor_numbers_shown disk (ended_in n versions.cursors) s.table.keys s.next_group (cursors_left n store.cursors.items) (ended_at n s.cursors) seen_left)
          (numbered_cursors_left s.next_cursor n store.cursors.items (subst (λ (ns : List ℕ). AreNumbered s.next_cursor ns) (sym cursor_numbers_are) here.numbered_cursors));
      parted = here.parted;
      files = here.files;
    }

    pub cursor_ended : Shows state (record store { snapshots = snapshots; cursors = cursors }) without_cursor
    cursor_ended = shows_open state store s stands.shows is_open snapshots store.jobs cursors store.next_job store.next_cursor s.next_job s.next_cursor s.jobs (ended_at n s.cursors)
        (ap (λ (v : Versions). v.current) steps) (ap (λ (v : Versions). v.files) steps) stands.shows.next_job stands.shows.next_cursor
        (subst (λ (cs : List OpenCursor). IsOpenSo disk (state_of snapshots) without_cursor store.jobs.items cs) (sym left)
        (subst (λ (v : Versions). IsOpenSo disk v without_cursor store.jobs.items (cursors_left n store.cursors.items)) (sym steps) closed_so))
