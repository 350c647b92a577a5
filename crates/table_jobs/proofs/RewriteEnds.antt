-- How the commit of a rewrite ends.
use Rattle.std.proofs.Common.{◌≡◌, ◌≢◌, ◌≤◌, ◌<◌, ◌+◌, ◌⊎◌, ℕ, true, false, not, List, [], length, Some, None, Ok, Err, refl, sym, ◌∙◌, ap, subst}
use Rattle.std.specs.Prelude.{Vec}
use Rattle.std.specs.List.{AllByRecursion}
use Rattle.std.specs.declared.alloc.Global.{Global}
use Rattle.bits.specs.declared.refusal.Refusal.{Refusal}
use Rattle.bits.specs.declared.refusal.Refusal.TheVariants.{Limit, Device, Memory, Stale}
use Rattle.bits.specs.Refusals.{HasCause}
use Rattle.schema.specs.Cutting.{is_among}
use Rattle.disk.specs.State.{State as DiskState}
use Rattle.vault.specs.Calls.{HasFailed}
use Rattle.manifest.specs.Groups.{Group as FileGroup, root_of}
use Rattle.manifest.specs.Laid.{IsRootTooHeavy}
use Rattle.planning.specs.Told.{IsNextOf}
use Rattle.planning.specs.Replaced.{Run, changes_of, replaced}
use Rattle.snapshots.specs.declared.state.Snapshots.{Snapshots}
use Rattle.snapshots.specs.State.{Pins, ended, after, fault_of, open_at as pinned_at}
use Rattle.snapshots.specs.Views.{state_of}
use Rattle.table.specs.Table.{Group, Table, rows, numbers}
use Rattle.table.specs.State.{State, Job, appending, rewriting, sources, open_at, ended_at}
use Rattle.table.specs.Checks.{fault, stale_fault}
use Rattle.table.specs.Calls.{commit, done, refused}
use Rattle.table.specs.Leading.{Rises, job_rows}
use Rattle.table.specs.Limits.{IsOver, IsOfRun, group as over_group}
use Rattle.table.specs.Refusing.{Happens, Stays, is_failure, no_memory, over as refused_over, failed as refused_failed, stale as refused_stale}
use Rattle.table.proofs.Steady.{stays}
use Rattle.table_state.specs.declared.standing.Core.{Core}
use Rattle.table_state.specs.declared.jobs.OpenJob.{OpenJob}
use Rattle.table_state.specs.declared.jobs.Rewriting.{Rewriting}
use Rattle.table_state.specs.declared.jobs.Work.{Work}
use Rattle.table_state.specs.declared.jobs.Work.TheVariants.{Rewrite}
use Rattle.table_state.specs.Lookups.{job_at, jobs_left}
use Rattle.table_state.specs.Stands.{ShowsWork, Shows, Stands}
use Rattle.table_commits.specs.Acting.{AsksCommit}
use Rattle.table_commits.specs.Cleaning.{Clears}
use Rattle.table_commits.specs.Writing.{counted}
use Rattle.table_commits.specs.Committing.{with_version, IsPlanned, Turns}
use Rattle.table_commits.specs.Causes.{IsCommitRefusal}
use Rattle.table_commits.specs.Dropping.{rows_in}
use Rattle.table_state.specs.Promises.{ActsFrom}
use Rattle.table_jobs.specs.Rewritten.{IsRewriteAt, WhyHalted, IsHalted, HasRewritten}
use Rattle.table_commits.proofs.CommitsFromParts.{commits_act, refusals_act}
use Rattle.table_reads.proofs.SomethingOpens.{only_memory}
use Rattle.table_commits.proofs.GroupRemovals.{has_reason}
use Rattle.table_reads.proofs.SomethingEnds.{job_unrefused, job_ended, ends, refused_poor}
use Rattle.table_reads.proofs.AfterEvents.{job_found}
use Rattle.table_commits.proofs.SomeGroups.{rows_counted}
use Rattle.table_commits.proofs.UnchangedRefusals.{changes_nothing}
use Rattle.table_jobs.proofs.RewriteSources.{HeldRewrite, held, runs, not_stale, some_runs}
use Rattle.table_jobs.proofs.RewriteCommits.{table_then, planned as planned_so, asks, over as over_so, rows_same}

module _ {D : Type 0} (state : D → DiskState) (old : Core D) (s : State) (stands : Stands state old s) (is_open : s.closed ≡ false) (n : ℕ) where
  -- out of memory before anything is done
  pub poor_first : ActsFrom state old old (commit n) (refused Memory) s
  poor_first = changes_nothing state old (commit n) (refused Memory) s stands (no_memory refl (ap not is_open) refl (stays s (commit n) refl))

  module _ (r : Rewriting) (at : IsRewriteAt n old.jobs.items r) where
    abbrev here_held : HeldRewrite state old s stands is_open n r
    here_held = held state old s stands is_open n r at

    abbrev gss : List (List Group)
    gss = runs state old s stands is_open n r at

    -- ---- a source is gone

    no_fault : fault_of (state_of old.snapshots) (ended n) ≡ None
    no_fault = job_unrefused state old s stands is_open n here_held.pins here_held.pinned

    pub stale_poor : (e : Refusal) → HasCause (λ f. fault_of (state_of old.snapshots) (ended n) ≡ Some f) e → (snapshots : Snapshots) → state_of snapshots ≡ state_of old.snapshots
        → ActsFrom state old (record old { snapshots = snapshots }) (commit n) (refused e) s
    stale_poor e cause snapshots same = subst (λ (f : Refusal). ActsFrom state old (record old { snapshots = snapshots }) (commit n) (refused f) s) (sym (only_memory (fault_of (state_of old.snapshots) (ended n)) no_fault e cause))
        (refused_poor state old s stands is_open (commit n) refl (ap not is_open) refl snapshots old.jobs old.cursors same refl refl)

    pub is_poor : (e : Refusal) → HasCause (λ f. fault_of (state_of old.snapshots) (ended n) ≡ Some f) e → e ≡ Memory
    is_poor e cause = only_memory (fault_of (state_of old.snapshots) (ended n)) no_fault e cause

    pub stale_done : fault s (commit n) ≡ Some Stale → (snapshots : Snapshots) → state_of snapshots ≡ after (state_of old.snapshots) (ended n) → (jobs : Vec OpenJob Global) → jobs.items ≡ jobs_left (Some n) old.jobs.items → (new : Core D)
        → ((t : State) → Shows state (record old { snapshots = snapshots; jobs = jobs }) t → t.closed ≡ false → Clears state (record old { snapshots = snapshots; jobs = jobs }) new t)
        → (old.keeps ≡ true → new ≡ record old { snapshots = snapshots; jobs = jobs }) → ActsFrom state old new (commit n) (refused Stale) s
    stale_done gone snapshots steps jobs left new clears still =
        let next = record s { jobs = ended_at n s.jobs } in
        let happens : Happens s (commit n) (refused Stale) next = refused_stale gone refl refl in
        ends state old s stands is_open (commit n) (refused Stale) next happens refl snapshots jobs old.cursors new (clears next (job_ended state old s stands is_open n snapshots steps jobs left) is_open) still

    -- ---- all are there

    module _ (fine : fault s (commit n) ≡ None) where
      rises : (mid : Core D) → s.next_group ≤ mid.next_group → mid.next_group ≤ s.next_group + length (rows (sources gss)) → Rises s (commit n) mid.next_group
      rises mid low high = record { most = length (rows (sources gss)); work = sym (ap job_rows here_held.there); no_less = low; no_more = high }

      pub halted : (mid : Core D) (e : Refusal) → IsHalted state old mid s (IsOfRun s gss) (s.next_group + length (rows (sources gss))) e → ActsFrom state old mid (commit n) (refused e) s
      halted mid e h = refusals_act state old mid s (commit n) mid.next_group e stands is_open h.wrote (why e h.why)
        where
          same : Stays s (commit n) (counted s mid.next_group)
          same = record { counter = mid.next_group; rises = rises mid h.wrote.rises h.no_more; is = refl }

          why : (f : Refusal) → WhyHalted state old mid s (IsOfRun s gss) f → Happens s (commit n) (refused f) (counted s mid.next_group)
          why Device w = refused_failed refl (ap not is_open) refl same
          why Limit w = refused_over refl fine (over_group w.0 (rewriting gss here_held.unread, here_held.there, w.1) w.2) same
          why Memory w = no_memory refl (ap not is_open) refl same
          why f w = absurd w

      pub halted_cause : (mid : Core D) (e : Refusal) → IsHalted state old mid s (IsOfRun s gss) (s.next_group + length (rows (sources gss))) e → is_failure (refused e) ≡ true → HasFailed (state old.vault.disk) (state mid.vault.disk)
      halted_cause mid e h is = by e h.why is
        where
          by : (f : Refusal) → WhyHalted state old mid s (IsOfRun s gss) f → is_failure (refused f) ≡ true → HasFailed (state old.vault.disk) (state mid.vault.disk)
          by Device w i = w
          by Limit w i = absurd (cc)
          by Memory w i = absurd (cc)
          by f w i = absurd w

      -- out of memory then
      pub poor_then : (mid : Core D) (files : List FileGroup) (made : List Run) → HasRewritten state old mid s (Some n) files made gss → ActsFrom state old mid (commit n) (refused Memory) s
      poor_then mid files made h = halted mid Memory (record { wrote = h.written.wrote; no_more = h.no_more; why = tt })

      module _ (some : r.runs.items ≡ [] → ⊥) (mid : Core D) (files : List FileGroup) (made : List Run) (h : HasRewritten state old mid s (Some n) files made gss) (jobs_same : mid.jobs ≡ old.jobs) where
        -- what it holds is held still
        pub then_held : (pins : Pins) × (pinned_at n (state_of mid.snapshots).jobs ≡ Some pins) × AllByRecursion (λ m. is_among (numbers (sources gss)) m ≡ true) pins.sources
        then_held =
            let found = job_found (state mid.vault.disk) s.table.keys s.table.schema s.next_group s.options.group_rows s.had n (state_of mid.snapshots).jobs mid.jobs.items s.jobs h.written.wrote.jobs at.0 (ap (λ (js : Vec OpenJob Global). job_at n js.items) jobs_same ∙ at.1) in
            by found.2.pins (ap (λ (m : ℕ). pinned_at m (state_of mid.snapshots).jobs) (sym found.2.number) ∙ found.2.pinned) found.0 found.1
            (subst (λ (w : Work). ShowsWork (state mid.vault.disk) s.table.keys s.table.schema s.next_group s.options.group_rows s.had found.2.pins w found.0) at.2 found.2.work)
          where
            one : (a b : List (List Group)) (ns ms : List ℕ) → open_at n s.jobs ≡ Some (rewriting a ns) → open_at n s.jobs ≡ Some (rewriting b ms) → a ≡ b
            one a b ns ms e f = let both : Some (rewriting a ns) ≡ Some (rewriting b ms) = sym e ∙ f in cc

            by : (pins : Pins) → pinned_at n (state_of mid.snapshots).jobs ≡ Some pins → (j : Job) → open_at n s.jobs ≡ Some j → ShowsWork (state mid.vault.disk) s.table.keys s.table.schema s.next_group s.options.group_rows s.had pins (Rewrite r) j
                → (pins : Pins) × (pinned_at n (state_of mid.snapshots).jobs ≡ Some pins) × AllByRecursion (λ m. is_among (numbers (sources gss)) m ≡ true) pins.sources
            by pins pinned (rewriting qss unread) e w = (pins, pinned, subst (λ (xss : List (List Group)). AllByRecursion (λ m. is_among (numbers (sources xss)) m ≡ true) pins.sources) (one qss gss unread here_held.unread e here_held.there) w.pinned)
            by pins pinned (appending staged) e w = absurd w

        abbrev good : stale_fault s.table (Some (rewriting gss here_held.unread)) ≡ None
        good = not_stale state old s stands is_open n r at fine

        abbrev some_gss : gss ≢ []
        some_gss = some_runs state old s stands is_open n r at fine some

        pub count_is : (m : ℕ) → m ≡ rows_in files → m ≡ length (rows (sources gss))
        count_is m e = e ∙ rows_counted (state mid.vault.disk) s.table.keys s.table.schema mid.next_group files (sources h.groups) h.written.stored
            ∙ rows_same state old mid s stands is_open n gss here_held.unread here_held.there good some_gss files made h then_held.0 then_held.1 then_held.2

        module _ (next : ℕ) (falls : s.table.next ≤ next) (above : AllByRecursion (λ (g : FileGroup). g.number < next) files) (least : (next ≡ s.table.next) ⊎ IsNextOf next files) (gs : List FileGroup) (are : gs ≡ replaced (changes_of made) (root_of mid.manifest).groups) where
          abbrev pub table_so : Table
          table_so = table_then state old mid s stands is_open n gss here_held.unread here_held.there good some_gss files made h then_held.0 then_held.1 then_held.2 next falls above least

          pub planned : IsPlanned (state mid.vault.disk) mid (counted s mid.next_group) table_so (ended_at n s.jobs) (Some n) (with_version (root_of mid.manifest) gs next)
          planned = subst (λ (hs : List FileGroup). IsPlanned (state mid.vault.disk) mid (counted s mid.next_group) table_so (ended_at n s.jobs) (Some n) (with_version (root_of mid.manifest) hs next)) (sym are)
              (planned_so state old mid s stands is_open n gss here_held.unread here_held.there good some_gss files made h then_held.0 then_held.1 then_held.2 next falls above least)

          pub too_heavy : IsRootTooHeavy (with_version (root_of mid.manifest) gs next) → IsOver s (commit n)
          too_heavy heavy = over_so state old mid s stands is_open n gss here_held.unread here_held.there good some_gss files made h then_held.0 then_held.1 then_held.2 next falls above least
              (subst (λ (hs : List FileGroup). IsRootTooHeavy (with_version (root_of mid.manifest) hs next)) are heavy)

          asked : AsksCommit s (commit n) (length (rows (sources gss))) table_so mid.next_group
          asked = asks state old mid s stands is_open n gss here_held.unread here_held.there good some_gss files made h then_held.0 then_held.1 then_held.2 next falls above least fine

          pub done_so : (new : Core D) → Turns {T = Unit {0}} state mid new (counted s mid.next_group) table_so (ended_at n s.jobs) (Ok tt) → ActsFrom state old new (commit n) (done (length (rows (sources gss)))) s
          done_so new turns = commits_act state old mid new s (commit n) (length (rows (sources gss))) table_so mid.next_group (Ok tt) stands is_open asked h.written.wrote tt turns

          pub refused_so : (new : Core D) (e : Refusal) → HasCause IsCommitRefusal e → (e ≡ Limit → IsOver s (commit n)) → Turns {T = Unit {0}} state mid new (counted s mid.next_group) table_so (ended_at n s.jobs) (Err e) → ActsFrom state old new (commit n) (refused e) s
          refused_so new e cause limit turns = commits_act state old mid new s (commit n) (length (rows (sources gss))) table_so mid.next_group (Err e) stands is_open asked h.written.wrote (has_reason (Unit {0}) s (commit n) e cause fine limit) turns
