-- A rewrite that is opened, from its checks to its end.
use Rattle.std.proofs.Common.{◌≡◌, ◌≤◌, ◌+◌, ℕ, Bool, true, false, not, ◌&&◌, nat_lt, List, [], ◌∷◌, ◌++◌, length, take, drop, Option, Some, None, refl, sym, ◌∙◌, ap, subst, arith}
use Rattle.std.specs.List.{AllByRecursion, AllZip, list_all}
use Rattle.std.specs.declared.vec.Vec.{Vec}
use Rattle.std.specs.declared.alloc.Global.{Global}
use Rattle.bits.specs.declared.refusal.Refusal.{Refusal}
use Rattle.bits.specs.declared.refusal.Refusal.TheVariants.{Full, Closed, NoGroup}
use Rattle.schema.specs.Shape.{Fields}
use Rattle.schema.specs.declared.row.Row.{Row as CodeRow}
use Rattle.schema.specs.Keys.{KeyColumn, without_keys}
use Rattle.manifest.specs.Records.{IsGroup}
use Rattle.schema.specs.Cutting.{is_among}
use Rattle.disk.specs.State.{State as DiskState}
use Rattle.manifest.specs.Groups.{Group as FileGroup, root_of, numbers_of}
use Rattle.planning.specs.Runs.{runs_in as file_runs, sources_view}
use Rattle.snapshots.specs.State.{State as Versions, Pins, began, after, fault_of, pins_at_start, file_of, names}
use Rattle.snapshots.specs.Views.{state_of}
use Rattle.table.specs.Table.{numbers}
use Rattle.table.specs.State.{State, sources}
use Rattle.table.specs.Faults.{first, unless}
use Rattle.table.specs.Checks.{fault, can_count, new_job_fault, numbers_fault}
use Rattle.table.specs.Calls.{Call, begin_rewrite, job, refused}
use Rattle.table.specs.History.{with_job, begun, runs_in}
use Rattle.table.specs.Refusing.{Happens, checked}
use Rattle.table.proofs.Steady.{stays}
use Rattle.table_state.specs.declared.standing.Core.{Core}
use Rattle.table_state.specs.declared.jobs.Work.TheVariants.{Rewrite}
use Rattle.table_state.specs.declared.jobs.Rewriting.{Rewriting}
use Rattle.table_state.specs.Stands.{AreReadOf, ShowsRewrite, ShowsOpen, Stands}
use Rattle.table_state.specs.Promises.{ActsFrom}
use Rattle.table_commits.proofs.FilesInUse.{all_named}
use Rattle.table_commits.proofs.SomeGroups.{same_numbers}
use Rattle.table_reads.proofs.SomethingOpens.{job_test, job_unrefused, job_begun}
use Rattle.table_reads.proofs.SomethingEnds.{opens}
use Rattle.table_reads.proofs.AppendsOpen.{room_in}
use Rattle.table_jobs.proofs.RewritesOpen.{runs_stored, each_run, all_begun, one_key_each, sources_there}
use Rattle.table_commits.proofs.UnchangedRefusals.{changes_nothing}

module _ {D : Type 0} (state : D → DiskState) (store : Core D) (s : State) (stands : Stands state store s) (is_open : s.closed ≡ false) (ns : List ℕ) where
  abbrev call : Call
  call = begin_rewrite ns

  abbrev disk : DiskState
  disk = state store.vault.disk

  abbrev versions : Versions
  versions = state_of store.snapshots

  abbrev files : List FileGroup
  files = (root_of store.manifest).groups

  here : ShowsOpen disk store s
  here = stands.shows.shown is_open

  fault_is : (a b : Option Refusal) → new_job_fault s ≡ a → numbers_fault s.table ns ≡ b → fault s call ≡ first (None ∷ a ∷ b ∷ [])
  fault_is a b e f =
      ap (λ (c : Bool). first (unless (not c) Closed ∷ new_job_fault s ∷ numbers_fault s.table ns ∷ [])) is_open
      ∙ ap (λ (x : Option Refusal). first (None ∷ x ∷ numbers_fault s.table ns ∷ [])) e
      ∙ ap (λ (x : Option Refusal). first (None ∷ a ∷ x ∷ [])) f

  numbers_told : (b : Bool) → list_all (is_among (numbers_of files)) ns ≡ b → numbers_fault s.table ns ≡ unless b NoGroup
  numbers_told b e =
      ap (λ (ms : List ℕ). unless (list_all (is_among ms) ns) NoGroup) (sym (same_numbers disk s.table.keys s.table.schema s.next_group files s.table.groups here.version)) ∙ ap (λ (c : Bool). unless c NoGroup) e

  pub rewrite_full : (nat_lt (length store.jobs.items) 16 && can_count store.next_job) ≡ false → ActsFrom state store store call (refused Full) s
  rewrite_full e = changes_nothing state store call (refused Full) s stands
      (checked (fault_is (Some Full) (numbers_fault s.table ns) (job_test state store s stands.shows is_open false e) refl) (λ b. cc) (stays s call refl))

  module _ (room : (nat_lt (length store.jobs.items) 16 && can_count store.next_job) ≡ true) where
    tested : new_job_fault s ≡ None
    tested = job_test state store s stands.shows is_open true room

    pub rewrite_no_group : list_all (is_among (numbers_of files)) ns ≡ false → ActsFrom state store store call (refused NoGroup) s
    rewrite_no_group e = changes_nothing state store call (refused NoGroup) s stands (checked (fault_is None (Some NoGroup) tested (numbers_told false e)) (λ b. cc) (stays s call refl))

    module _ (there : list_all (is_among (numbers_of files)) ns ≡ true) where
      pub rewrite_unrefused : fault_of versions (began store.next_job (Some ns)) ≡ None
      rewrite_unrefused = job_unrefused state store s stands.shows is_open (Some ns) (room_in (length store.jobs.items) 16 store.next_job room).0
          (ap (λ (gs : List FileGroup). list_all (is_among (numbers_of gs)) ns) here.current ∙ there)

      abbrev pins : Pins
      pins = pins_at_start versions.current (Some ns)

      named : AllByRecursion (λ (f : FileGroup). names pins.version (file_of f) ≡ true) files
      named = subst (λ (gs : List FileGroup). AllByRecursion (λ (f : FileGroup). names pins.version (file_of f) ≡ true) gs) here.current (all_named (λ f. names versions.current f ≡ true) versions.current (λ f n. n))

      of_table : AllByRecursion (IsGroup s.table.keys (without_keys s.table.keys s.table.schema)) files
      of_table = subst (λ (ks : List KeyColumn). AllByRecursion (IsGroup ks (without_keys ks s.table.schema)) files) stands.shows.keys
          (subst (λ (fs : Fields). AllByRecursion (IsGroup (root_of store.manifest).keys (without_keys (root_of store.manifest).keys fs)) files) stands.shows.schema here.means.described.each)

      there_in : list_all (is_among (numbers s.table.groups)) ns ≡ true
      there_in = ap (λ (ms : List ℕ). list_all (is_among ms) ns) (sym (same_numbers disk s.table.keys s.table.schema s.next_group files s.table.groups here.version)) ∙ there

      shows_rewrite : (w : Rewriting) → sources_view w.runs.items ≡ file_runs ns files → w.read.items ≡ []
          → ShowsRewrite disk s.table.keys s.table.schema s.next_group s.options.group_rows s.had pins w (runs_in ns s.table.groups) (numbers (sources (runs_in ns s.table.groups)))
      shows_rewrite w told none =
          let runs = runs_in ns s.table.groups in
          record {
            each = all_begun disk s.table.keys s.table.schema s.next_group s.options.group_rows s.had pins w.runs.items (file_runs ns files) runs told
                (runs_stored disk s.table.keys s.table.schema s.next_group ns files s.table.groups here.version)
                (each_run (IsGroup s.table.keys (without_keys s.table.keys s.table.schema)) ns files of_table)
                (each_run (λ (f : FileGroup). names pins.version (file_of f) ≡ true) ns files named) (one_key_each ns s.table.groups);
            as_many = subst (λ (xs : List (Vec CodeRow Global)). length xs ≤ length (sources runs)) (sym none) (omega arith);
            read = subst (λ (xs : List (Vec CodeRow Global)). AllZip (AreReadOf disk s.table.keys s.table.schema s.next_group s.options.group_rows s.had) xs (take (length xs) (sources runs))) (sym none) tt;
            left = ap (λ (xs : List (Vec CodeRow Global)). numbers (drop (length xs) (sources runs))) (sym none);
            pinned = sources_there ns s.table.groups there_in;
          }

      pub rewrite_begun : (w : Rewriting) → sources_view w.runs.items ≡ file_runs ns files → w.read.items ≡ [] → (new : Core D) → state_of new.snapshots ≡ after versions (began store.next_job (Some ns))
          → new.jobs.items ≡ store.jobs.items ++ record { number = store.next_job; work = Rewrite w } ∷ [] → (n : ℕ) → n ≡ store.next_job
          → new ≡ record store { snapshots = new.snapshots; jobs = new.jobs; next_job = store.next_job + 1 } → ActsFrom state store new call (job n) s
      rewrite_begun w told none new steps pushed n number same =
          let next = with_job s (begun (runs_in ns s.table.groups)) in
          let happens : Happens s call (job n) next = (fault_is None None tested (numbers_told true there), (ap (λ (m : ℕ). job m) (number ∙ stands.shows.next_job), refl)) in
          subst (λ (x : Core D). ActsFrom state store x call (job n) s) (sym same)
          (opens state store s stands is_open call (job n) next happens new.snapshots new.jobs store.cursors (store.next_job + 1) store.next_cursor
          (job_begun state store s stands.shows is_open (Some ns) (Rewrite w) (begun (runs_in ns s.table.groups)) refl (shows_rewrite w told none) new.snapshots steps new.jobs pushed))
