-- An append that is opened.
use Rattle.std.proofs.Common.{◌≡◌, ◌+◌, ℕ, Bool, true, false, not, ◌&&◌, nat_lt, List, [], ◌∷◌, ◌++◌, length, map, Option, Some, None, refl, sym, ◌∙◌, ap, subst}
use Rattle.std.specs.List.{AllZip, AllByRecursion}
use Rattle.std.specs.declared.rc.Rc.{Rc}
use Rattle.std.specs.declared.alloc.Global.{Global}
use Rattle.std.proofs.lemmas.Bool.{and_parts}
use Rattle.bits.specs.declared.refusal.Refusal.{Refusal}
use Rattle.bits.specs.declared.refusal.Refusal.TheVariants.{Memory, Full, Closed}
use Rattle.bits.specs.Refusals.{HasCause}
use Rattle.disk.specs.State.{State as DiskState}
use Rattle.partition.specs.declared.splitting.KeyRows.{KeyRows}
use Rattle.partition.specs.Splitting.{key_rows_view}
use Rattle.manifest.specs.declared.group.Group.{Group as CodeGroup}
use Rattle.schema.specs.Keys.{without_keys}
use Rattle.manifest.specs.Groups.{Group as FileGroup, handles_view}
use Rattle.manifest.specs.Records.{IsGroup}
use Rattle.snapshots.specs.State.{began, after, fault_of, is_among, file_of, pins_at_start}
use Rattle.snapshots.specs.Views.{state_of}
use Rattle.table.specs.State.{State, appending}
use Rattle.table.specs.Faults.{first, unless}
use Rattle.table.specs.Checks.{fault, can_count, new_job_fault}
use Rattle.table.specs.Calls.{Call, begin_append, job, refused}
use Rattle.table.specs.History.{with_job}
use Rattle.table.specs.Refusing.{Happens, checked, gets_on, needs_memory}
use Rattle.table.proofs.Steady.{is_other, stays}
use Rattle.table_state.specs.declared.standing.Core.{Core}
use Rattle.table_state.specs.declared.jobs.Work.TheVariants.{Append}
use Rattle.table_state.specs.declared.jobs.Appending.{Appending}
use Rattle.table_state.specs.Buffers.{keys_in, IsRising}
use Rattle.table_state.specs.Stands.{AreStored, AreWaiting, ShowsAppend, Stands}
use Rattle.table_state.specs.Promises.{ActsFrom}
use Rattle.table_reads.proofs.SomethingOpens.{job_test, job_unrefused, job_begun, only_memory}
use Rattle.table_reads.proofs.SomethingEnds.{opens, refused_poor}
use Rattle.table_commits.proofs.UnchangedRefusals.{changes_nothing}

-- what was tested
pub asked : {A : Type 0} (most next : ℕ) (lent items : List A) (r b : Bool) → lent ≡ items → r ≡ (nat_lt (length lent) most && can_count next) → r ≡ b → (nat_lt (length items) most && can_count next) ≡ b
asked most next lent items r b e f g = ap (λ (xs : List _). nat_lt (length xs) most && can_count next) (sym e) ∙ sym f ∙ g

-- what the test of room tells
pub room_in : (count most next : ℕ) → (nat_lt count most && can_count next) ≡ true → (nat_lt count most ≡ true) × (can_count next ≡ true)
room_in count most next e = and_parts (nat_lt count most) (can_count next) e

module _ {D : Type 0} (state : D → DiskState) (store : Core D) (s : State) (stands : Stands state store s) (is_open : s.closed ≡ false) where
  -- a job is not opened, for memory
  pub job_refused : (call : Call) → is_other call ≡ true → gets_on s call ≡ true → needs_memory s call ≡ true → (o : Option Refusal) → o ≡ None → (e : Refusal) → HasCause (λ f. o ≡ Some f) e
      → (new : Core D) → new ≡ record store { jobs = new.jobs } → new.jobs.items ≡ store.jobs.items → ActsFrom state store new call (refused e) s
  job_refused call other on needs o none e cause new same items =
      subst (λ (f : Refusal). ActsFrom state store new call (refused f) s) (sym (only_memory o none e cause))
      (subst (λ (x : Core D). ActsFrom state store x call (refused Memory) s) (sym same) (refused_poor state store s stands is_open call other on needs store.snapshots new.jobs store.cursors refl items refl))

  fault_is : (o : Option Refusal) → new_job_fault s ≡ o → fault s begin_append ≡ first (None ∷ o ∷ [])
  fault_is o e = ap (λ (c : Bool). first (unless (not c) Closed ∷ new_job_fault s ∷ [])) is_open ∙ ap (λ (p : Option Refusal). first (None ∷ p ∷ [])) e

  pub append_full : (nat_lt (length store.jobs.items) 16 && can_count store.next_job) ≡ false → ActsFrom state store store begin_append (refused Full) s
  append_full e = changes_nothing state store begin_append (refused Full) s stands
      (checked (fault_is (Some Full) (job_test state store s stands.shows is_open false e)) (λ b. cc) (stays s begin_append refl))

  module _ (room : (nat_lt (length store.jobs.items) 16 && can_count store.next_job) ≡ true) where
    pub append_unrefused : fault_of (state_of store.snapshots) (began store.next_job None) ≡ None
    append_unrefused = job_unrefused state store s stands.shows is_open None (room_in (length store.jobs.items) 16 store.next_job room).0 refl

    nothing_staged : (shown : Appending) → shown.written.items ≡ [] → shown.waiting.items ≡ []
        → ShowsAppend (state store.vault.disk) s.table.keys s.table.schema s.next_group s.options.group_rows s.had (pins_at_start (state_of store.snapshots).current None) shown []
    nothing_staged shown none empty = record {
      groups = [];
      are_written = record {
        stored = subst (λ (gs : List (Rc CodeGroup Global)). AreStored (state store.vault.disk) s.table.keys s.table.schema s.next_group (handles_view gs) []) (sym none) tt;
        described = subst (λ (gs : List (Rc CodeGroup Global)). AllByRecursion (IsGroup s.table.keys (without_keys s.table.keys s.table.schema)) (handles_view gs)) (sym none) tt;
        held = subst (λ (gs : List (Rc CodeGroup Global)). AllByRecursion (λ (g : FileGroup). is_among [] (file_of g) ≡ true) (handles_view gs)) (sym none) tt;
        full = refl;
        fresh = refl;
      };
      waiting = [];
      are_waiting = subst (λ (ks : List KeyRows). AllZip (AreWaiting (state store.vault.disk) s.table.keys s.table.schema s.next_group s.options.group_rows s.had) (map key_rows_view ks) []) (sym empty) tt;
      rising = subst (λ (ks : List KeyRows). IsRising (keys_in (map key_rows_view ks))) (sym empty) tt;
      free = refl;
      all = refl;
    }

    pub append_begun : (shown : Appending) → shown.written.items ≡ [] → shown.waiting.items ≡ [] → (new : Core D) → state_of new.snapshots ≡ after (state_of store.snapshots) (began store.next_job None)
        → new.jobs.items ≡ store.jobs.items ++ record { number = store.next_job; work = Append shown } ∷ [] → (n : ℕ) → n ≡ store.next_job
        → new ≡ record store { snapshots = new.snapshots; jobs = new.jobs; next_job = store.next_job + 1 } → ActsFrom state store new begin_append (job n) s
    append_begun shown none empty new steps pushed n number same =
        let next = with_job s (appending []) in
        let happens : Happens s begin_append (job n) next = (fault_is None (job_test state store s stands.shows is_open true room), (ap (λ (m : ℕ). job m) (number ∙ stands.shows.next_job), refl)) in
        subst (λ (x : Core D). ActsFrom state store x begin_append (job n) s) (sym same)
        (opens state store s stands is_open begin_append (job n) next happens new.snapshots new.jobs store.cursors (store.next_job + 1) store.next_cursor
        (job_begun state store s stands.shows is_open None (Append shown) (appending []) (ap (λ (gs : List (Rc CodeGroup Global)). handles_view gs) none) (nothing_staged shown none empty) new.snapshots steps new.jobs pushed))
