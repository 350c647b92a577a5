-- What a stage and a commit of a job are refused for before they write.
use Rattle.std.proofs.Common.{◌≡◌, ◌≢◌, ◌≤◌, ◌<◌, ◌⊎◌, ℕ, Bool, true, false, not, nat_lt, List, [], ◌∷◌, Option, Some, None, refl, sym, ◌∙◌, ap, arith, ⊎_elim}
use Rattle.std.proofs.lemmas.Bool.{ltb-true, lt-ltb}
use Rattle.bits.specs.declared.refusal.Refusal.{Refusal}
use Rattle.bits.specs.declared.refusal.Refusal.TheVariants.{Closed, Full, NoJob, RowShape, Key, Stale, Memory}
use Rattle.disk.specs.State.{State as DiskState}
use Rattle.snapshots.specs.State.{Pins}
use Rattle.snapshots.specs.Views.{state_of}
use Rattle.partition.specs.Folders.{AreKeyColumns}
use Rattle.partition.proofs.KeyColumns.{keys_can}
use Rattle.table.specs.Table.{Row, Table}
use Rattle.table.specs.State.{State, Job, appending, rewriting, open_at}
use Rattle.table.specs.Faults.{first, unless}
use Rattle.table.specs.Checks.{fault, append_fault, job_fault, rows_fault, stale_fault, can_count}
use Rattle.table.specs.Calls.{stage, commit, refused}
use Rattle.table.specs.Refusing.{checked, no_memory}
use Rattle.table.proofs.Steady.{stays}
use Rattle.table_state.specs.declared.standing.Core.{Core}
use Rattle.table_state.specs.declared.jobs.OpenJob.{OpenJob}
use Rattle.table_state.specs.declared.jobs.Work.{Work}
use Rattle.table_state.specs.declared.jobs.Work.TheVariants.{Append, Rewrite}
use Rattle.table_state.specs.Lookups.{job_at}
use Rattle.table_jobs.specs.Staging.{is_append, finds_append}
use Rattle.table_state.specs.Stands.{ShowsWork, ShowsOpen, Stands}
use Rattle.table_state.specs.Promises.{ActsFrom}
use Rattle.table_reads.proofs.AfterEvents.{job_found, job_not_found}
use Rattle.table_commits.proofs.UnchangedRefusals.{changes_nothing}

of_rows : (e : Refusal) → (e ≡ RowShape) ⊎ (e ≡ Key) → e ≢ Stale
of_rows e cause is = ⊎_elim (λ a. let c : RowShape ≡ Stale = sym a ∙ is in cc) (λ a. let c : Key ≡ Stale = sym a ∙ is in cc) cause

only_append : (t : Table) (o : Option Job) → append_fault o ≡ None → (job_fault o ≡ None) × (stale_fault t o ≡ None)
only_append t None e = absurd (cc)
only_append t (Some (appending staged)) e = (refl, refl)
only_append t (Some (rewriting runs unread)) e = absurd (cc)

pub not_low : (n : ℕ) → 9223372036854775808 ≤ n → can_count n ≡ false
not_low n high = by (nat_lt n 9223372036854775808) refl
  where
    by : (b : Bool) → nat_lt n 9223372036854775808 ≡ b → nat_lt n 9223372036854775808 ≡ false
    by true e = let low = ltb-true n 9223372036854775808 e in absurd (omega (arith, low, high))
    by false e = e

module _ {D : Type 0} (state : D → DiskState) (store : Core D) (s : State) (stands : Stands state store s) (is_open : s.closed ≡ false) (n : ℕ) where
  abbrev disk : DiskState
  disk = state store.vault.disk

  here : ShowsOpen disk store s
  here = stands.shows.shown is_open

  -- ---- which job is open

  work_told : (pins : Pins) (w : Work) (j : Job) (c : Bool) → is_append w ≡ c → ShowsWork disk s.table.keys s.table.schema s.next_group s.options.group_rows s.had pins w j → append_fault (Some j) ≡ unless c NoJob
  work_told pins (Append a) (appending staged) true e is = refl
  work_told pins (Append a) (appending staged) false e is = absurd (cc)
  work_told pins (Rewrite r) (rewriting runs unread) false e is = refl
  work_told pins (Rewrite r) (rewriting runs unread) true e is = absurd (cc)
  work_told pins (Append a) (rewriting runs unread) c e is = absurd is
  work_told pins (Rewrite r) (appending staged) c e is = absurd is

  append_told : (b : Bool) → finds_append (job_at n store.jobs.items) ≡ b → append_fault (open_at n s.jobs) ≡ unless b NoJob
  append_told b e = by (job_at n store.jobs.items) refl e
    where
      by : (o : Option OpenJob) → job_at n store.jobs.items ≡ o → finds_append o ≡ b → append_fault (open_at n s.jobs) ≡ unless b NoJob
      by None none f = ap append_fault (job_not_found disk s.table.keys s.table.schema s.next_group s.options.group_rows s.had n (state_of store.snapshots).jobs store.jobs.items s.jobs here.jobs none) ∙ ap (λ (c : Bool). unless c NoJob) f
      by (Some x) some f =
          let is = job_found disk s.table.keys s.table.schema s.next_group s.options.group_rows s.had n (state_of store.snapshots).jobs store.jobs.items s.jobs here.jobs x some in
          ap append_fault is.1 ∙ work_told is.2.pins x.work is.0 b f is.2.work

  -- ---- a stage

  module _ (given : List Row) where
    pub columns : AreKeyColumns s.table.keys
    columns = keys_can s.table.keys s.table.schema stands.shows.valid.schema.0.differ stands.shows.valid.keys

    stage_fault : (o : Option Refusal) (b : Bool) → append_fault (open_at n s.jobs) ≡ o → can_count s.next_group ≡ b → fault s (stage n given) ≡ first (None ∷ o ∷ unless b Full ∷ rows_fault s.table given ∷ [])
    stage_fault o b e f =
        ap (λ (c : Bool). first (unless (not c) Closed ∷ append_fault (open_at n s.jobs) ∷ unless (can_count s.next_group) Full ∷ rows_fault s.table given ∷ [])) is_open
        ∙ ap (λ (p : Option Refusal). first (None ∷ p ∷ unless (can_count s.next_group) Full ∷ rows_fault s.table given ∷ [])) e
        ∙ ap (λ (c : Bool). first (None ∷ o ∷ unless c Full ∷ rows_fault s.table given ∷ [])) f

    pub stage_no_job : finds_append (job_at n store.jobs.items) ≡ false → ActsFrom state store store (stage n given) (refused NoJob) s
    stage_no_job e = changes_nothing state store (stage n given) (refused NoJob) s stands (checked (stage_fault (Some NoJob) (can_count s.next_group) (append_told false e) refl) (λ b. cc) (stays s (stage n given) refl))

    module _ (there : finds_append (job_at n store.jobs.items) ≡ true) where
      pub stage_full : 9223372036854775808 ≤ s.next_group → ActsFrom state store store (stage n given) (refused Full) s
      stage_full high = changes_nothing state store (stage n given) (refused Full) s stands (checked (stage_fault None false (append_told true there) (not_low s.next_group high)) (λ b. cc) (stays s (stage n given) refl))

      module _ (low : s.next_group < 9223372036854775808) where
        rows_told : (o : Option Refusal) → rows_fault s.table given ≡ o → fault s (stage n given) ≡ first (o ∷ [])
        rows_told o e = stage_fault None true (append_told true there) (lt-ltb s.next_group 9223372036854775808 low) ∙ ap (λ (p : Option Refusal). first (p ∷ [])) e

        pub stage_row_fault : (e : Refusal) → (e ≡ RowShape) ⊎ (e ≡ Key) → rows_fault s.table given ≡ Some e → ActsFrom state store store (stage n given) (refused e) s
        stage_row_fault e cause is = changes_nothing state store (stage n given) (refused e) s stands (checked (rows_told (Some e) is) (of_rows e cause) (stays s (stage n given) refl))

        pub stage_fine : rows_fault s.table given ≡ None → fault s (stage n given) ≡ None
        stage_fine is = rows_told None is

    pub stage_poor : ActsFrom state store store (stage n given) (refused Memory) s
    stage_poor = changes_nothing state store (stage n given) (refused Memory) s stands (no_memory refl (ap not is_open) refl (stays s (stage n given) refl))

  -- ---- a commit

  pub commit_fault : (o : Option Refusal) (b : Bool) → job_fault (open_at n s.jobs) ≡ o → can_count s.next_group ≡ b → fault s (commit n) ≡ first (None ∷ o ∷ unless b Full ∷ stale_fault s.table (open_at n s.jobs) ∷ [])
  commit_fault o b e f =
      ap (λ (c : Bool). first (unless (not c) Closed ∷ job_fault (open_at n s.jobs) ∷ unless (can_count s.next_group) Full ∷ stale_fault s.table (open_at n s.jobs) ∷ [])) is_open
      ∙ ap (λ (p : Option Refusal). first (None ∷ p ∷ unless (can_count s.next_group) Full ∷ stale_fault s.table (open_at n s.jobs) ∷ [])) e
      ∙ ap (λ (c : Bool). first (None ∷ o ∷ unless c Full ∷ stale_fault s.table (open_at n s.jobs) ∷ [])) f

  pub commit_no_job : job_at n store.jobs.items ≡ None → ActsFrom state store store (commit n) (refused NoJob) s
  commit_no_job e =
      let none = job_not_found disk s.table.keys s.table.schema s.next_group s.options.group_rows s.had n (state_of store.snapshots).jobs store.jobs.items s.jobs here.jobs e in
      changes_nothing state store (commit n) (refused NoJob) s stands (checked (commit_fault (Some NoJob) (can_count s.next_group) (ap job_fault none) refl) (λ b. cc) (stays s (commit n) refl))

  pub commit_full : (x : OpenJob) → job_at n store.jobs.items ≡ Some x → 9223372036854775808 ≤ s.next_group → ActsFrom state store store (commit n) (refused Full) s
  commit_full x some high =
      let is = job_found disk s.table.keys s.table.schema s.next_group s.options.group_rows s.had n (state_of store.snapshots).jobs store.jobs.items s.jobs here.jobs x some in
      changes_nothing state store (commit n) (refused Full) s stands (checked (commit_fault None false (ap job_fault is.1) (not_low s.next_group high)) (λ b. cc) (stays s (commit n) refl))

  -- a commit of an append is refused for nothing else
  pub commit_fine : finds_append (job_at n store.jobs.items) ≡ true → s.next_group < 9223372036854775808 → fault s (commit n) ≡ None
  commit_fine there low =
      let told = only_append s.table (open_at n s.jobs) (append_told true there) in
      commit_fault None true told.0 (lt-ltb s.next_group 9223372036854775808 low) ∙ ap (λ (o : Option Refusal). first (None ∷ None ∷ unless true Full ∷ o ∷ [])) told.1
