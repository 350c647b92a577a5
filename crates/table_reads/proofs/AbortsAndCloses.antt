-- A job that is aborted, and a cursor that is closed.
use Rattle.std.proofs.Common.{◌≡◌, ℕ, true, false, not, [], ◌∷◌, Option, Some, None, refl, sym, ◌∙◌, ap, subst}
use Rattle.std.specs.Prelude.{Vec}
use Rattle.std.specs.declared.alloc.Global.{Global}
use Rattle.bits.specs.declared.refusal.Refusal.{Refusal}
use Rattle.bits.specs.declared.refusal.Refusal.TheVariants.{Closed, NoJob, NoCursor}
use Rattle.bits.specs.Refusals.{HasCause}
use Rattle.disk.specs.State.{State as DiskState}
use Rattle.snapshots.specs.declared.state.Snapshots.{Snapshots}
use Rattle.manifest.specs.Groups.{root_of}
use Rattle.snapshots.specs.State.{ended, closed, after, fault_of, open_at as pinned_at}
use Rattle.snapshots.specs.Views.{state_of}
use Rattle.table.specs.State.{State, Job, open_at, ended_at}
use Rattle.table.specs.Cursors.{Cursor}
use Rattle.table.specs.Faults.{first, unless}
use Rattle.table.specs.Checks.{fault, job_fault, cursor_fault}
use Rattle.table.specs.Calls.{abort, close, accepted, refused}
use Rattle.table.specs.Refusing.{Happens, checked}
use Rattle.table.proofs.Steady.{stays}
use Rattle.table_state.specs.declared.standing.Core.{Core}
use Rattle.table_state.specs.declared.jobs.OpenJob.{OpenJob}
use Rattle.table_state.specs.declared.jobs.OpenCursor.{OpenCursor}
use Rattle.table_state.specs.Lookups.{job_at, cursor_at, jobs_left, cursors_left}
use Rattle.table_state.specs.Stands.{ShowsOpen, Shows, Stands}
use Rattle.table_commits.specs.Cleaning.{Clears}
use Rattle.table_state.specs.Promises.{ActsFrom}
use Rattle.table_reads.proofs.AfterEvents.{job_found, job_not_found}
use Rattle.table_reads.proofs.FetchesWithoutCursor.{cursor_found, cursor_not_found}
use Rattle.table_reads.proofs.SomethingOpens.{only_memory}
use Rattle.table_reads.proofs.SomethingEnds.{job_unrefused, job_ended, cursor_unrefused, cursor_ended, ends, refused_poor}
use Rattle.table_commits.proofs.UnchangedRefusals.{changes_nothing}

module _ {D : Type 0} (state : D → DiskState) (store : Core D) (s : State) (stands : Stands state store s) (is_open : s.closed ≡ false) (n : ℕ) where
  abbrev disk : DiskState
  disk = state store.vault.disk

  here : ShowsOpen disk store s
  here = stands.shows.shown is_open

  -- ---- a job

  job_fault_is : (there : Option Job) → open_at n s.jobs ≡ there → fault s (abort n) ≡ first (None ∷ job_fault there ∷ [])
  job_fault_is there e = ap (λ b. first (unless (not b) Closed ∷ job_fault (open_at n s.jobs) ∷ [])) is_open ∙ ap (λ o. first (None ∷ job_fault o ∷ [])) e

  pub no_job : job_at n store.jobs.items ≡ None → ActsFrom state store store (abort n) (refused NoJob) s
  no_job e =
      let none = job_not_found disk s.table.keys s.table.schema s.next_group s.options.group_rows s.had n (state_of store.snapshots).jobs store.jobs.items s.jobs here.jobs e in
      changes_nothing state store (abort n) (refused NoJob) s stands (checked (job_fault_is None none) (λ b. cc) (stays s (abort n) refl))

  module _ (x : OpenJob) (found : job_at n store.jobs.items ≡ Some x) where
    job_unfaulted : fault s (abort n) ≡ None
    job_unfaulted = let is = job_found disk s.table.keys s.table.schema s.next_group s.options.group_rows s.had n (state_of store.snapshots).jobs store.jobs.items s.jobs here.jobs x found in job_fault_is (Some is.0) is.1

    no_fault : fault_of (state_of store.snapshots) (ended n) ≡ None
    no_fault =
        let is = job_found disk s.table.keys s.table.schema s.next_group s.options.group_rows s.had n (state_of store.snapshots).jobs store.jobs.items s.jobs here.jobs x found in
        job_unrefused state store s stands is_open n is.2.pins (ap (λ (m : ℕ). pinned_at m (state_of store.snapshots).jobs) (sym is.2.number) ∙ is.2.pinned)

    pub abort_refused : (e : Refusal) → HasCause (λ f. fault_of (state_of store.snapshots) (ended n) ≡ Some f) e → (snapshots : Snapshots) → state_of snapshots ≡ state_of store.snapshots
        → ActsFrom state store (record store { snapshots = snapshots }) (abort n) (refused e) s
    abort_refused e cause snapshots same = subst (λ (f : Refusal). ActsFrom state store (record store { snapshots = snapshots }) (abort n) (refused f) s) (sym (only_memory (fault_of (state_of store.snapshots) (ended n)) no_fault e cause))
        (refused_poor state store s stands is_open (abort n) refl (ap not is_open) refl snapshots store.jobs store.cursors same refl refl)

    pub aborted : (snapshots : Snapshots) → state_of snapshots ≡ after (state_of store.snapshots) (ended n) → (jobs : Vec OpenJob Global) → jobs.items ≡ jobs_left (Some n) store.jobs.items → (new : Core D)
        → ((t : State) → Shows state (record store { snapshots = snapshots; jobs = jobs }) t → t.closed ≡ false → Clears state (record store { snapshots = snapshots; jobs = jobs }) new t)
        → (store.keeps ≡ true → new ≡ record store { snapshots = snapshots; jobs = jobs }) → ActsFrom state store new (abort n) accepted s
    aborted snapshots steps jobs left new clears still =
        let next = record s { jobs = ended_at n s.jobs } in
        let happens : Happens s (abort n) accepted next = (job_unfaulted, (refl, refl)) in
        ends state store s stands is_open (abort n) accepted next happens refl snapshots jobs store.cursors new (clears next (job_ended state store s stands is_open n snapshots steps jobs left) is_open) still

  -- ---- a cursor

  cursor_fault_is : (there : Option Cursor) → open_at n s.cursors ≡ there → fault s (close n) ≡ first (None ∷ cursor_fault there ∷ [])
  cursor_fault_is there e = ap (λ b. first (unless (not b) Closed ∷ cursor_fault (open_at n s.cursors) ∷ [])) is_open ∙ ap (λ o. first (None ∷ cursor_fault o ∷ [])) e

  pub no_cursor : cursor_at n store.cursors.items ≡ None → ActsFrom state store store (close n) (refused NoCursor) s
  no_cursor e =
      let none = cursor_not_found disk (state_of store.snapshots).cursors s.table.keys s.next_group n store.cursors.items s.cursors here.cursors e in
      changes_nothing state store (close n) (refused NoCursor) s stands (checked (cursor_fault_is None none) (λ b. cc) (stays s (close n) refl))

  module _ (x : OpenCursor) (found : cursor_at n store.cursors.items ≡ Some x) where
    cursor_unfaulted : fault s (close n) ≡ None
    cursor_unfaulted = let is = cursor_found disk (state_of store.snapshots).cursors s.table.keys s.next_group n store.cursors.items s.cursors here.cursors x found in cursor_fault_is (Some is.0) is.1

    unfaulted : fault_of (state_of store.snapshots) (closed n) ≡ None
    unfaulted =
        let is = cursor_found disk (state_of store.snapshots).cursors s.table.keys s.next_group n store.cursors.items s.cursors here.cursors x found in
        cursor_unrefused state store s stands is_open n (root_of x.table).groups (ap (λ (m : ℕ). pinned_at m (state_of store.snapshots).cursors) (sym is.2.number) ∙ is.2.pinned)

    pub close_refused : (e : Refusal) → HasCause (λ f. fault_of (state_of store.snapshots) (closed n) ≡ Some f) e → (snapshots : Snapshots) → state_of snapshots ≡ state_of store.snapshots
        → ActsFrom state store (record store { snapshots = snapshots }) (close n) (refused e) s
    close_refused e cause snapshots same = subst (λ (f : Refusal). ActsFrom state store (record store { snapshots = snapshots }) (close n) (refused f) s) (sym (only_memory (fault_of (state_of store.snapshots) (closed n)) unfaulted e cause))
        (refused_poor state store s stands is_open (close n) refl (ap not is_open) refl snapshots store.jobs store.cursors same refl refl)

    pub is_closed : (snapshots : Snapshots) → state_of snapshots ≡ after (state_of store.snapshots) (closed n) → (cursors : Vec OpenCursor Global) → cursors.items ≡ cursors_left n store.cursors.items → (new : Core D)
        → ((t : State) → Shows state (record store { snapshots = snapshots; cursors = cursors }) t → t.closed ≡ false → Clears state (record store { snapshots = snapshots; cursors = cursors }) new t)
        → (store.keeps ≡ true → new ≡ record store { snapshots = snapshots; cursors = cursors }) → ActsFrom state store new (close n) accepted s
    is_closed snapshots steps cursors left new clears still =
        let next = record s { cursors = ended_at n s.cursors } in
        let happens : Happens s (close n) accepted next = (cursor_unfaulted, (refl, refl)) in
        ends state store s stands is_open (close n) accepted next happens refl snapshots store.jobs cursors new (clears next (cursor_ended state store s stands is_open n snapshots steps cursors left) is_open) still
