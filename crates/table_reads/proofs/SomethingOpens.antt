-- Something is opened: why it is not, and where the store stands then.
use Rattle.std.proofs.Common.{◌≡◌, ◌<◌, ◌+◌, ℕ, Bool, true, false, not, ◌&&◌, ◌||◌, ◌==◌, nat_lt, if◌then◌else◌, List, [], ◌∷◌, ◌++◌, length, reverse, Option, Some, None, refl, sym, ◌∙◌, ap, subst, arith, eq-eqb}
use Rattle.std.specs.Prelude.{Vec}
use Rattle.std.specs.declared.alloc.Global.{Global}
use Rattle.std.specs.List.{AllByRecursion}
use Rattle.std.proofs.lemmas.Bool.{eqb-true}
use Rattle.std.proofs.lemmas.List.{reverse-append, length-reverse, length-map, map-append}
use Rattle.bits.specs.declared.refusal.Refusal.{Refusal}
use Rattle.bits.specs.declared.refusal.Refusal.TheVariants.{Memory, Full, NoJob, NoCursor, NoGroup}
use Rattle.bits.specs.Refusals.{HasCause}
use Rattle.disk.specs.State.{State as DiskState}
use Rattle.manifest.specs.Groups.{Group as FileGroup}
use Rattle.snapshots.specs.declared.state.Snapshots.{Snapshots}
use Rattle.snapshots.specs.State.{State as Versions, Pins, is_open as is_among_open, began, opened, after, fault_of, first_of, has_sources, pins_at_start, unless as unless_so, open_at}
use Rattle.snapshots.specs.Views.{state_of}
use Rattle.table.specs.State.{State, Job}
use Rattle.table.specs.Cursors.{Cursor, Batch}
use Rattle.table.specs.Faults.{unless}
use Rattle.table.specs.Checks.{can_count, new_job_fault, new_cursor_fault}
use Rattle.table.specs.Calls.{refused}
use Rattle.table.specs.Refusing.{is_failure}
use Rattle.table.specs.History.{with_job, with_cursor}
use Rattle.table_state.specs.declared.standing.Core.{Core}
use Rattle.table_state.specs.declared.jobs.OpenJob.{OpenJob}
use Rattle.table_state.specs.declared.jobs.OpenCursor.{OpenCursor}
use Rattle.table_state.specs.declared.jobs.Work.{Work}
use Rattle.table_state.specs.Stands.{AreNumbered, ShowsJob, ShowsCursor, ShowsWork, ShowsOpen, Shows, numbers_at, job_numbers, cursor_numbers, written_of}
use Rattle.table_commits.proofs.OpenNumbers.{numbers_shown, cursor_numbers_shown}
use Rattle.table_commits.proofs.NumbersOfJobs.{parted_more}
use Rattle.table_reads.proofs.AfterEvents.{zip_more, numbered_more, tracks_more, tracks_cursors_more, jobs_beside, cursors_beside}
use Rattle.table_commits.proofs.OtherJobsAndCursors.{IsOpenSo, shows_open}

-- ---- numbers

unlike : (m n : ℕ) → m < n → (m == n) ≡ false
unlike m n low = by (m == n) refl
  where
    by : (b : Bool) → (m == n) ≡ b → (m == n) ≡ false
    by true e = let same = eqb-true m n e in absurd (omega (arith, same, low))
    by false e = e

-- a number that the counter has still to give is not open
none_open : {A : Type 0} (n : ℕ) (xs : List (ℕ × A)) → AllByRecursion (λ m. m < n) (numbers_at xs) → is_among_open n xs ≡ false
none_open n [] h = refl
none_open n (x ∷ xs) h = ap (λ (b : Bool). b || is_among_open n xs) (unlike x.0 n h.0) ∙ none_open n xs h.1

all_on : (P : ℕ → Type 0) (ms ns : List ℕ) → AllByRecursion P ms → AllByRecursion P ns → AllByRecursion P (ms ++ ns)
all_on P [] ns h k = k
all_on P (m ∷ ms) ns h k = (h.0, all_on P ms ns h.1 k)

all_back : (P : ℕ → Type 0) (ns : List ℕ) → AllByRecursion P ns → AllByRecursion P (reverse ns)
all_back P [] h = tt
all_back P (n ∷ ns) h = subst (λ (ms : List ℕ). AllByRecursion P ms) (sym (reverse-append (n ∷ []) ns)) (all_on P (reverse ns) (n ∷ []) (all_back P ns h.1) (h.0, tt))

pub found_newest : {A : Type 0} (n : ℕ) (a : A) (xs : List (ℕ × A)) → open_at n ((n, a) ∷ xs) ≡ Some a
found_newest n a xs = ap (λ (b : Bool). if b then Some a else open_at n xs) (eq-eqb n n refl)

-- what is refused for nothing is refused for memory
pub only_memory : (o : Option Refusal) → o ≡ None → (e : Refusal) → HasCause (λ f. o ≡ Some f) e → e ≡ Memory
only_memory o none Memory cause = refl
only_memory o none e cause = absurd (let c : None ≡ Some e = sym none ∙ cause in cc)

pub only_poor : (o : Option Refusal) → o ≡ None → (e : Refusal) → HasCause (λ f. o ≡ Some f) e → is_failure (refused e) ≡ true → ⊥
only_poor o none e cause h = let is = only_memory o none e cause in let c : false ≡ true = sym (ap (λ (f : Refusal). is_failure (refused f)) is) ∙ h in cc

module _ {D : Type 0} (state : D → DiskState) (store : Core D) (s : State) (shows : Shows state store s) (is_open : s.closed ≡ false) where
  abbrev disk : DiskState
  disk = state store.vault.disk

  abbrev versions : Versions
  versions = state_of store.snapshots

  here : ShowsOpen disk store s
  here = shows.shown is_open

  -- ---- jobs

  abbrev Shown : List (ℕ × Pins) → OpenJob → ℕ × Job → Type 0
  Shown held x j = ShowsJob disk s.table.keys s.table.schema s.next_group s.options.group_rows s.had held x j

  pub job_numbers_are : job_numbers store.jobs.items ≡ numbers_at s.jobs
  job_numbers_are = numbers_shown disk s.table.keys s.table.schema s.next_group s.options.group_rows s.had versions.jobs store.jobs.items s.jobs here.jobs

  low_jobs : AllByRecursion (λ m. m < store.next_job) (job_numbers store.jobs.items)
  low_jobs = subst (λ (ns : List ℕ). AllByRecursion (λ m. m < store.next_job) ns) (sym job_numbers_are) (subst (λ (n : ℕ). AllByRecursion (λ m. m < n) (numbers_at s.jobs)) (sym shows.next_job) here.numbered_jobs.below)

  new_job : is_among_open store.next_job versions.jobs ≡ false
  new_job = none_open store.next_job versions.jobs
      (subst (λ (ns : List ℕ). AllByRecursion (λ m. m < store.next_job) ns) (sym here.tracks_jobs) (all_back (λ m. m < store.next_job) (job_numbers store.jobs.items) low_jobs))

  pub as_many_jobs : length store.jobs.items ≡ length s.jobs
  as_many_jobs = sym (length-map store.jobs.items (λ (j : OpenJob). j.number)) ∙ ap (λ (ns : List ℕ). length ns) job_numbers_are ∙ length-map s.jobs (λ (j : ℕ × Job). j.0)

  held_jobs : length versions.jobs ≡ length store.jobs.items
  held_jobs = sym (length-map versions.jobs (λ (j : ℕ × Pins). j.0)) ∙ ap (λ (ns : List ℕ). length ns) here.tracks_jobs ∙ length-reverse (job_numbers store.jobs.items) ∙ length-map store.jobs.items (λ (j : OpenJob). j.number)

  -- the test is the state's
  pub job_test : (b : Bool) → (nat_lt (length store.jobs.items) 16 && can_count store.next_job) ≡ b → new_job_fault s ≡ unless b Full
  job_test b e = ap (λ (m : ℕ). unless (nat_lt m 16 && can_count s.next_job) Full) (sym as_many_jobs) ∙ ap (λ (n : ℕ). unless (nat_lt (length store.jobs.items) 16 && can_count n) Full) (sym shows.next_job)
      ∙ ap (λ (c : Bool). unless c Full) e

  pub job_unrefused : (sources : Option (List ℕ)) → nat_lt (length store.jobs.items) 16 ≡ true → has_sources versions.current sources ≡ true → fault_of versions (began store.next_job sources) ≡ None
  job_unrefused sources room has =
      ap (λ (b : Bool). first_of (unless_so (not b) NoJob ∷ unless_so (nat_lt (length versions.jobs) 16) Full ∷ unless_so (has_sources versions.current sources) NoGroup ∷ [])) new_job
      ∙ ap (λ (m : ℕ). first_of (None ∷ unless_so (nat_lt m 16) Full ∷ unless_so (has_sources versions.current sources) NoGroup ∷ [])) held_jobs
      ∙ ap (λ (b : Bool). first_of (None ∷ unless_so b Full ∷ unless_so (has_sources versions.current sources) NoGroup ∷ [])) room
      ∙ ap (λ (b : Bool). first_of (None ∷ None ∷ unless_so b NoGroup ∷ [])) has

  module _ (sources : Option (List ℕ)) (work : Work) (j : Job) (nothing : written_of work ≡ []) (shows_work : ShowsWork disk s.table.keys s.table.schema s.next_group s.options.group_rows s.had (pins_at_start versions.current sources) work j)
      (snapshots : Snapshots) (steps : state_of snapshots ≡ after versions (began store.next_job sources)) (jobs : Vec OpenJob Global) (pushed : jobs.items ≡ store.jobs.items ++ record { number = store.next_job; work = work } ∷ []) where
    abbrev x : OpenJob
    x = record { number = store.next_job; work = work }

    abbrev pins : Pins
    pins = pins_at_start versions.current sources

    begun_so : IsOpenSo disk (after versions (began store.next_job sources)) (with_job s j) (store.jobs.items ++ x ∷ []) store.cursors.items
    begun_so = record {
      jobs = zip_more (Shown ((store.next_job, pins) ∷ versions.jobs)) store.jobs.items s.jobs x (s.next_job, j)
          (jobs_beside disk s.table.keys s.table.schema s.next_group s.options.group_rows s.had store.next_job pins versions.jobs store.jobs.items s.jobs low_jobs here.jobs)
          (record { number = shows.next_job; pins = pins; pinned = found_newest store.next_job pins versions.jobs; work = shows_work });
      cursors = here.cursors;
      tracks_jobs = tracks_more versions.jobs store.jobs.items pins x here.tracks_jobs;
      tracks_cursors = here.tracks_cursors;
      numbered_jobs = subst (λ (ns : List ℕ). AreNumbered (s.next_job + 1) ns) (sym (map-append (λ (y : ℕ × Job). y.0) s.jobs ((s.next_job, j) ∷ []))) (numbered_more s.next_job (numbers_at s.jobs) here.numbered_jobs);
      numbered_cursors = here.numbered_cursors;
      parted = parted_more x nothing store.jobs.items here.parted;
      files = here.files;
    }

    pub job_begun : Shows state (record store { snapshots = snapshots; jobs = jobs; next_job = store.next_job + 1 }) (with_job s j)
    job_begun = shows_open state store s shows is_open snapshots jobs store.cursors (store.next_job + 1) store.next_cursor (s.next_job + 1) s.next_cursor (s.jobs ++ (s.next_job, j) ∷ []) s.cursors
        (ap (λ (v : Versions). v.current) steps) (ap (λ (v : Versions). v.files) steps) (ap (λ (n : ℕ). n + 1) shows.next_job) shows.next_cursor
        (subst (λ (js : List OpenJob). IsOpenSo disk (state_of snapshots) (with_job s j) js store.cursors.items) (sym pushed)
        (subst (λ (v : Versions). IsOpenSo disk v (with_job s j) (store.jobs.items ++ x ∷ []) store.cursors.items) (sym steps) begun_so))

  -- ---- cursors

  pub cursor_numbers_are : cursor_numbers store.cursors.items ≡ numbers_at s.cursors
  cursor_numbers_are = cursor_numbers_shown disk versions.cursors s.table.keys s.next_group store.cursors.items s.cursors here.cursors

  low_cursors : AllByRecursion (λ m. m < store.next_cursor) (cursor_numbers store.cursors.items)
  low_cursors = subst (λ (ns : List ℕ). AllByRecursion (λ m. m < store.next_cursor) ns) (sym cursor_numbers_are) (subst (λ (n : ℕ). AllByRecursion (λ m. m < n) (numbers_at s.cursors)) (sym shows.next_cursor) here.numbered_cursors.below)

  new_cursor : is_among_open store.next_cursor versions.cursors ≡ false
  new_cursor = none_open store.next_cursor versions.cursors
      (subst (λ (ns : List ℕ). AllByRecursion (λ m. m < store.next_cursor) ns) (sym here.tracks_cursors) (all_back (λ m. m < store.next_cursor) (cursor_numbers store.cursors.items) low_cursors))

  pub as_many_cursors : length store.cursors.items ≡ length s.cursors
  as_many_cursors = sym (length-map store.cursors.items (λ (c : OpenCursor). c.number)) ∙ ap (λ (ns : List ℕ). length ns) cursor_numbers_are ∙ length-map s.cursors (λ (c : ℕ × Cursor). c.0)

  held_cursors : length versions.cursors ≡ length store.cursors.items
  held_cursors = sym (length-map versions.cursors (λ (c : ℕ × List FileGroup). c.0)) ∙ ap (λ (ns : List ℕ). length ns) here.tracks_cursors ∙ length-reverse (cursor_numbers store.cursors.items)
      ∙ length-map store.cursors.items (λ (c : OpenCursor). c.number)

  pub cursor_test : (b : Bool) → (nat_lt (length store.cursors.items) 64 && can_count store.next_cursor) ≡ b → new_cursor_fault s ≡ unless b Full
  cursor_test b e = ap (λ (m : ℕ). unless (nat_lt m 64 && can_count s.next_cursor) Full) (sym as_many_cursors)
      ∙ ap (λ (n : ℕ). unless (nat_lt (length store.cursors.items) 64 && can_count n) Full) (sym shows.next_cursor) ∙ ap (λ (c : Bool). unless c Full) e

  pub cursor_unrefused : nat_lt (length store.cursors.items) 64 ≡ true → fault_of versions (opened store.next_cursor) ≡ None
  cursor_unrefused room =
      ap (λ (b : Bool). first_of (unless_so (not b) NoCursor ∷ unless_so (nat_lt (length versions.cursors) 64) Full ∷ [])) new_cursor
      ∙ ap (λ (m : ℕ). first_of (None ∷ unless_so (nat_lt m 64) Full ∷ [])) held_cursors
      ∙ ap (λ (b : Bool). first_of (None ∷ unless_so b Full ∷ [])) room

  module _ (x : OpenCursor) (number : x.number ≡ store.next_cursor) (bs : List Batch)
      (shown : (held : List (ℕ × List FileGroup)) → open_at x.number held ≡ Some versions.current → ShowsCursor disk held s.table.keys s.next_group x (s.next_cursor, record { batches = bs; ended = false }))
      (snapshots : Snapshots) (steps : state_of snapshots ≡ after versions (opened x.number)) (cursors : Vec OpenCursor Global) (pushed : cursors.items ≡ store.cursors.items ++ x ∷ []) where
    abbrev c : ℕ × Cursor
    c = (s.next_cursor, record { batches = bs; ended = false })

    opened_so : IsOpenSo disk (after versions (opened x.number)) (with_cursor s bs) store.jobs.items (store.cursors.items ++ x ∷ [])
    opened_so = record {
      jobs = here.jobs;
      cursors = zip_more (λ (y : OpenCursor) (d : ℕ × Cursor). ShowsCursor disk ((x.number, versions.current) ∷ versions.cursors) s.table.keys s.next_group y d) store.cursors.items s.cursors x c
          (cursors_beside disk s.table.keys s.next_group x.number versions.current versions.cursors store.cursors.items s.cursors
          (subst (λ (n : ℕ). AllByRecursion (λ m. m < n) (cursor_numbers store.cursors.items)) (sym number) low_cursors) here.cursors)
          (shown ((x.number, versions.current) ∷ versions.cursors) (found_newest x.number versions.current versions.cursors));
      tracks_jobs = here.tracks_jobs;
      tracks_cursors = tracks_cursors_more versions.cursors store.cursors.items versions.current x here.tracks_cursors;
      numbered_jobs = here.numbered_jobs;
      numbered_cursors = subst (λ (ns : List ℕ). AreNumbered (s.next_cursor + 1) ns) (sym (map-append (λ (y : ℕ × Cursor). y.0) s.cursors (c ∷ []))) (numbered_more s.next_cursor (numbers_at s.cursors) here.numbered_cursors);
      parted = here.parted;
      files = here.files;
    }

    pub cursor_opened : Shows state (record store { snapshots = snapshots; cursors = cursors; next_cursor = store.next_cursor + 1 }) (with_cursor s bs)
    cursor_opened = shows_open state store s shows is_open snapshots store.jobs cursors store.next_job (store.next_cursor + 1) s.next_job (s.next_cursor + 1) s.jobs (s.cursors ++ c ∷ [])
        (ap (λ (v : Versions). v.current) steps) (ap (λ (v : Versions). v.files) steps) shows.next_job (ap (λ (n : ℕ). n + 1) shows.next_cursor)
        (subst (λ (cs : List OpenCursor). IsOpenSo disk (state_of snapshots) (with_cursor s bs) store.jobs.items cs) (sym pushed)
        (subst (λ (v : Versions). IsOpenSo disk v (with_cursor s bs) store.jobs.items (store.cursors.items ++ x ∷ [])) (sym steps) opened_so))
