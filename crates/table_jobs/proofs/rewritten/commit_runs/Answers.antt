use Rattle.std.proofs.Common.{◌≡◌, ◌<◌, ◌≤◌, ◌⊎◌, ◌+◌, ◌++◌, ℕ, true, List, Err, ap, sym, ◌∙◌, subst, arith, refl}
use Rattle.std.specs.Prelude.{Result}
use Rattle.std.specs.List.{AllByRecursion}
use Rattle.std.specs.declared.rc.Rc.{Rc}
use Rattle.std.specs.declared.alloc.Global.{Global}
use Rattle.bits.specs.declared.refusal.Refusal.{Refusal}
use Rattle.vault.specs.Calls.{HasFailed}
use Rattle.vault.proofs.Chained.{refused}
use Rattle.manifest.specs.declared.group.Group.{Group as CodeGroup}
use Rattle.manifest.specs.Groups.{Group as FileGroup, Root, root_of, groups_in, handles_view}
use Rattle.manifest.specs.Root.{CanHave}
use Rattle.planning.specs.declared.change.Run.{Run as CodeRun}
use Rattle.planning.specs.Replaced.{runs_view, changes_of, replaced}
use Rattle.planning.specs.Numbered.{brought_by}
use Rattle.planning.specs.Runs.{sources_view}
use Rattle.planning.specs.Told.{IsNextOf}
use Rattle.table.specs.State.{ended_at}
use Rattle.table.specs.Calls.{commit, done}
use Rattle.table.specs.Refusing.{is_failure}
use Rattle.table.specs.Views.{answered}
use Rattle.table_state.specs.declared.standing.Core.{Core}
use Rattle.table_commits.specs.Dropping.{rows_in}
use Rattle.table_state.specs.Promises.{ActsFrom}
use Rattle.table_commits.proofs.OneFileMore.{failed_since}
use Rattle.table_commits.proofs.GroupRemovals.{failure_of, memory_so}
use Rattle.table_jobs.proofs.RewriteSources.{starts, held, all_runs}
use Rattle.table_jobs.proofs.RewriteEnds.{halted, halted_cause, poor_then, planned, too_heavy, count_is, done_so, refused_so}
use Rattle.table_jobs.proofs.rewritten.commit_runs.Goals as goal

pub commit_version-requires : goal.commit_version-requires
commit_version-requires g c =
    let files = handles_view c.rewrite_all.new.written.items in
    let next = c.next_after-next.result in
    let mid = c.rewrite_all.new.store in
    let was = c.next.ensures in
    let seen : handles_view c.as_slice-3.result.now ≡ files = ap handles_view c.as_slice-3.ensures.value in
    let above = subst (λ (fs : List FileGroup). AllByRecursion (λ (f : FileGroup). f.number < next) fs) seen c.next_after-next.ensures.above in
    let come : files ≡ brought_by (runs_view c.as_slice-2.result.now)
    = c.in_ok-made.ensures.come ∙ ap (λ (xs : List (Rc CodeGroup Global)). handles_view xs ++ brought_by (runs_view c.in_ok-made.made.items)) c.new-written.ensures.items ∙ ap (λ (xs : List CodeRun). brought_by (runs_view xs)) (sym c.as_slice-2.ensures.value) in
    let root = root_of c.args.store.now.manifest in
    let same = ap (λ (st : Core g.row.D.Denot). root_of st.manifest) c.in_ok-made.ensures.same in
    let fit = c.in_ok-made.ensures.fit (subst (λ (xs : List (Rc CodeGroup Global)). CanHave root (handles_view xs)) (sym c.new-written.ensures.items) tt) in
    record {
      below = c.in_ok-groups.ensures.below next (subst (λ (k : ℕ). k ≤ next) was c.next_after-next.ensures.never_falls) (subst (λ (fs : List FileGroup). AllByRecursion (λ (f : FileGroup). f.number < next) fs) come above);
      each = c.in_ok-groups.ensures.each (subst (λ (r : Root). CanHave r (brought_by (runs_view c.as_slice-2.result.now))) (sym same) (subst (λ (fs : List FileGroup). CanHave root fs) come fit));
    }

none_and : (k : ℕ) → 0 + k ≡ k
none_and k = omega arith

pub returns-in_err-made-clause-acts : goal.returns-in_err-made-clause-acts
returns-in_err-made-clause-acts g c honest s r stands is_open at some told fine =
    let old = c.args.store.now in
    let n = c.args.job in
    let state = g.D.Disk.state in
    let mid = c.rewrite_all.new.store in
    let has = starts state old s stands is_open n r (held state old s stands is_open n r at) in
    let are = all_runs state old s stands is_open n r at fine (sources_view c.args.runs.now) told in
    let failed = c.in_err-made in
    let stop = failed.ensures.rewrites honest old s _ is_open refl stands.shows.next_group c.new-written.ensures.items has are in
    refused (λ (o : Result ℕ Refusal). ActsFrom state old mid (commit n) (answered {T = ℕ} (λ x. done x) o) s) c.from_residual.result _ c.from_residual.ensures.1
    (halted state old s stands is_open n r at fine mid failed.field-0.0 stop)

pub returns-in_err-made-clause-cause : goal.returns-in_err-made-clause-cause
returns-in_err-made-clause-cause g c honest s r stands is_open at some told fine =
    let old = c.args.store.now in
    let n = c.args.job in
    let state = g.D.Disk.state in
    let mid = c.rewrite_all.new.store in
    let has = starts state old s stands is_open n r (held state old s stands is_open n r at) in
    let are = all_runs state old s stands is_open n r at fine (sources_view c.args.runs.now) told in
    let failed = c.in_err-made in
    let stop = failed.ensures.rewrites honest old s _ is_open refl stands.shows.next_group c.new-written.ensures.items has are in
    refused (λ (o : Result ℕ Refusal). is_failure (answered {T = ℕ} (λ x. done x) o) ≡ true → HasFailed (state old.vault.disk) (state mid.vault.disk)) c.from_residual.result _ c.from_residual.ensures.1
    (halted_cause state old s stands is_open n r at fine mid failed.field-0.0 stop)

pub returns-in_err-count-clause-acts : goal.returns-in_err-count-clause-acts
returns-in_err-count-clause-acts g c honest s r stands is_open at some told fine =
    let old = c.args.store.now in
    let n = c.args.job in
    let state = g.D.Disk.state in
    let mid = c.rewrite_all.new.store in
    let has = starts state old s stands is_open n r (held state old s stands is_open n r at) in
    let are = all_runs state old s stands is_open n r at fine (sources_view c.args.runs.now) told in
    let h = c.in_ok-made.ensures.rewrites honest old s _ is_open refl stands.shows.next_group c.new-written.ensures.items has are in
    let files = handles_view c.rewrite_all.new.written.items in
    let made = runs_view c.in_ok-made.made.items in
    let same = ap (λ (x : Core g.row.D.Denot). x.jobs) c.in_ok-made.ensures.same in
    refused (λ (o : Result ℕ Refusal). ActsFrom state old mid (commit n) (answered {T = ℕ} (λ x. done x) o) s) c.from_residual-in_err-count.result _ c.from_residual-in_err-count.ensures.1
    (memory_so c.in_err-count.field-0.0 c.in_err-count.ensures.which (λ e. ActsFrom state old mid (commit n) (answered {T = ℕ} (λ x. done x) (Err e)) s) (poor_then state old s stands is_open n r at fine mid files made h))

pub returns-in_err-count-clause-cause : goal.returns-in_err-count-clause-cause
returns-in_err-count-clause-cause g c honest s r stands is_open at some told fine =
    let old = c.args.store.now in
    let state = g.D.Disk.state in
    let mid = c.rewrite_all.new.store in
    refused (λ (o : Result ℕ Refusal). is_failure (answered {T = ℕ} (λ x. done x) o) ≡ true → HasFailed (state old.vault.disk) (state mid.vault.disk)) c.from_residual-in_err-count.result _ c.from_residual-in_err-count.ensures.1
    (memory_so c.in_err-count.field-0.0 c.in_err-count.ensures.which (λ e. is_failure (answered {T = ℕ} (λ x. done x) (Err e)) ≡ true → HasFailed (state old.vault.disk) (state mid.vault.disk)) (λ k. absurd (cc)))

pub returns-in_err-groups-clause-acts : goal.returns-in_err-groups-clause-acts
returns-in_err-groups-clause-acts g c honest s r stands is_open at some told fine =
    let old = c.args.store.now in
    let n = c.args.job in
    let state = g.D.Disk.state in
    let mid = c.rewrite_all.new.store in
    let has = starts state old s stands is_open n r (held state old s stands is_open n r at) in
    let are = all_runs state old s stands is_open n r at fine (sources_view c.args.runs.now) told in
    let h = c.in_ok-made.ensures.rewrites honest old s _ is_open refl stands.shows.next_group c.new-written.ensures.items has are in
    let files = handles_view c.rewrite_all.new.written.items in
    let made = runs_view c.in_ok-made.made.items in
    let same = ap (λ (x : Core g.row.D.Denot). x.jobs) c.in_ok-made.ensures.same in
    refused (λ (o : Result ℕ Refusal). ActsFrom state old mid (commit n) (answered {T = ℕ} (λ x. done x) o) s) c.from_residual-in_err-groups.result _ c.from_residual-in_err-groups.ensures.1
    (memory_so c.in_err-groups.field-0.0 c.in_err-groups.ensures.which (λ e. ActsFrom state old mid (commit n) (answered {T = ℕ} (λ x. done x) (Err e)) s) (poor_then state old s stands is_open n r at fine mid files made h))

pub returns-in_err-groups-clause-cause : goal.returns-in_err-groups-clause-cause
returns-in_err-groups-clause-cause g c honest s r stands is_open at some told fine =
    let old = c.args.store.now in
    let state = g.D.Disk.state in
    let mid = c.rewrite_all.new.store in
    refused (λ (o : Result ℕ Refusal). is_failure (answered {T = ℕ} (λ x. done x) o) ≡ true → HasFailed (state old.vault.disk) (state mid.vault.disk)) c.from_residual-in_err-groups.result _ c.from_residual-in_err-groups.ensures.1
    (memory_so c.in_err-groups.field-0.0 c.in_err-groups.ensures.which (λ e. is_failure (answered {T = ℕ} (λ x. done x) (Err e)) ≡ true → HasFailed (state old.vault.disk) (state mid.vault.disk)) (λ k. absurd (cc)))

pub returns-in_err-commit_version-clause-acts : goal.returns-in_err-commit_version-clause-acts
returns-in_err-commit_version-clause-acts g c honest s r stands is_open at some told fine =
    let old = c.args.store.now in
    let n = c.args.job in
    let state = g.D.Disk.state in
    let mid = c.rewrite_all.new.store in
    let has = starts state old s stands is_open n r (held state old s stands is_open n r at) in
    let are = all_runs state old s stands is_open n r at fine (sources_view c.args.runs.now) told in
    let h = c.in_ok-made.ensures.rewrites honest old s _ is_open refl stands.shows.next_group c.new-written.ensures.items has are in
    let files = handles_view c.rewrite_all.new.written.items in
    let made = runs_view c.in_ok-made.made.items in
    let same = ap (λ (x : Core g.row.D.Denot). x.jobs) c.in_ok-made.ensures.same in
    let next = c.next_after-next.result in
    let was : c.next.result ≡ s.table.next = c.next.ensures ∙ (h.written.wrote.shows.shown is_open).next in
    let falls = subst (λ (k : ℕ). k ≤ next) was c.next_after-next.ensures.never_falls in
    let seen : handles_view c.as_slice-3.result.now ≡ files = ap handles_view c.as_slice-3.ensures.value in
    let above = subst (λ (fs : List FileGroup). AllByRecursion (λ (f : FileGroup). f.number < next) fs) seen c.next_after-next.ensures.above in
    let least = subst (λ (k : ℕ). (next ≡ k) ⊎ IsNextOf next files) was (subst (λ (fs : List FileGroup). (next ≡ c.next.result) ⊎ IsNextOf next fs) seen c.next_after-next.ensures.least) in
    let gs = groups_in c.in_ok-groups.groups in
    let placed = c.in_ok-groups.ensures.replaced ∙ ap (λ (xs : List CodeRun). replaced (changes_of (runs_view xs)) (root_of mid.manifest).groups) c.as_slice-2.ensures.value in
    let plan = planned state old s stands is_open n r at fine some mid files made h same next falls above least gs placed in
    let new = c.commit_version.new.store in
    let failed = c.in_err-commit_version in
    refused (λ (o : Result ℕ Refusal). ActsFrom state old new (commit n) (answered {T = ℕ} (λ x. done x) o) s) c.from_residual-in_err-commit_version.result _ c.from_residual-in_err-commit_version.ensures.1
    (refused_so state old s stands is_open n r at fine some mid files made h same next falls above least gs placed new failed.field-0.0 (failed.ensures.which _ _ (ended_at n s.jobs) plan)
    (λ e. too_heavy state old s stands is_open n r at fine some mid files made h same next falls above least gs placed (failed.ensures.limit (ap (λ (x : Refusal). Err x) e) _ _ (ended_at n s.jobs) plan))
    (failed.ensures.turns (c.in_ok-made.ensures.honest.0 honest) _ _ (ended_at n s.jobs) h.written.wrote.shows is_open plan))

pub returns-in_err-commit_version-clause-cause : goal.returns-in_err-commit_version-clause-cause
returns-in_err-commit_version-clause-cause g c honest s r stands is_open at some told fine =
    let old = c.args.store.now in
    let n = c.args.job in
    let state = g.D.Disk.state in
    let mid = c.rewrite_all.new.store in
    let has = starts state old s stands is_open n r (held state old s stands is_open n r at) in
    let are = all_runs state old s stands is_open n r at fine (sources_view c.args.runs.now) told in
    let h = c.in_ok-made.ensures.rewrites honest old s _ is_open refl stands.shows.next_group c.new-written.ensures.items has are in
    let files = handles_view c.rewrite_all.new.written.items in
    let made = runs_view c.in_ok-made.made.items in
    let same = ap (λ (x : Core g.row.D.Denot). x.jobs) c.in_ok-made.ensures.same in
    let next = c.next_after-next.result in
    let was : c.next.result ≡ s.table.next = c.next.ensures ∙ (h.written.wrote.shows.shown is_open).next in
    let falls = subst (λ (k : ℕ). k ≤ next) was c.next_after-next.ensures.never_falls in
    let seen : handles_view c.as_slice-3.result.now ≡ files = ap handles_view c.as_slice-3.ensures.value in
    let above = subst (λ (fs : List FileGroup). AllByRecursion (λ (f : FileGroup). f.number < next) fs) seen c.next_after-next.ensures.above in
    let least = subst (λ (k : ℕ). (next ≡ k) ⊎ IsNextOf next files) was (subst (λ (fs : List FileGroup). (next ≡ c.next.result) ⊎ IsNextOf next fs) seen c.next_after-next.ensures.least) in
    let gs = groups_in c.in_ok-groups.groups in
    let placed = c.in_ok-groups.ensures.replaced ∙ ap (λ (xs : List CodeRun). replaced (changes_of (runs_view xs)) (root_of mid.manifest).groups) c.as_slice-2.ensures.value in
    let plan = planned state old s stands is_open n r at fine some mid files made h same next falls above least gs placed in
    let new = c.commit_version.new.store in
    let failed = c.in_err-commit_version in
    refused (λ (o : Result ℕ Refusal). is_failure (answered {T = ℕ} (λ x. done x) o) ≡ true → HasFailed (state old.vault.disk) (state new.vault.disk)) c.from_residual-in_err-commit_version.result _ c.from_residual-in_err-commit_version.ensures.1
    (λ k. failed_since (state old.vault.disk) (state mid.vault.disk) (state new.vault.disk) h.written.no_less failed.ensures.counts
    ((failed.ensures.turns (c.in_ok-made.ensures.honest.0 honest) _ _ (ended_at n s.jobs) h.written.wrote.shows is_open plan).cause (failure_of failed.field-0.0 k)))

pub returns-clause-acts : goal.returns-clause-acts
returns-clause-acts g c honest s r stands is_open at some told fine =
    let old = c.args.store.now in
    let n = c.args.job in
    let state = g.D.Disk.state in
    let mid = c.rewrite_all.new.store in
    let has = starts state old s stands is_open n r (held state old s stands is_open n r at) in
    let are = all_runs state old s stands is_open n r at fine (sources_view c.args.runs.now) told in
    let h = c.in_ok-made.ensures.rewrites honest old s _ is_open refl stands.shows.next_group c.new-written.ensures.items has are in
    let files = handles_view c.rewrite_all.new.written.items in
    let made = runs_view c.in_ok-made.made.items in
    let same = ap (λ (x : Core g.row.D.Denot). x.jobs) c.in_ok-made.ensures.same in
    let next = c.next_after-next.result in
    let was : c.next.result ≡ s.table.next = c.next.ensures ∙ (h.written.wrote.shows.shown is_open).next in
    let falls = subst (λ (k : ℕ). k ≤ next) was c.next_after-next.ensures.never_falls in
    let seen : handles_view c.as_slice-3.result.now ≡ files = ap handles_view c.as_slice-3.ensures.value in
    let above = subst (λ (fs : List FileGroup). AllByRecursion (λ (f : FileGroup). f.number < next) fs) seen c.next_after-next.ensures.above in
    let least = subst (λ (k : ℕ). (next ≡ k) ⊎ IsNextOf next files) was (subst (λ (fs : List FileGroup). (next ≡ c.next.result) ⊎ IsNextOf next fs) seen c.next_after-next.ensures.least) in
    let gs = groups_in c.in_ok-groups.groups in
    let placed = c.in_ok-groups.ensures.replaced ∙ ap (λ (xs : List CodeRun). replaced (changes_of (runs_view xs)) (root_of mid.manifest).groups) c.as_slice-2.ensures.value in
    let plan = planned state old s stands is_open n r at fine some mid files made h same next falls above least gs placed in
    let new = c.commit_version.new.store in
    let counted = count_is state old s stands is_open n r at fine some mid files made h same c.in_ok-count.count (c.in_ok-count.ensures.counted ∙ none_and (rows_in (handles_view c.as_slice.result.now)) ∙ ap rows_in (ap handles_view c.as_slice.ensures.value)) in
    subst (λ (k : ℕ). ActsFrom state old new (commit n) (done k) s) (sym counted)
    (done_so state old s stands is_open n r at fine some mid files made h same next falls above least gs placed new
    (c.in_ok-commit_version.ensures.turns (c.in_ok-made.ensures.honest.0 honest) _ _ (ended_at n s.jobs) h.written.wrote.shows is_open plan))

pub returns-clause-tidy : goal.returns-clause-tidy
returns-clause-tidy g c honest s r stands is_open at some told fine keeps =
    let old = c.args.store.now in
    let state = g.D.Disk.state in
    let has = starts state old s stands is_open c.args.job r (held state old s stands is_open c.args.job r at) in
    let are = all_runs state old s stands is_open c.args.job r at fine (sources_view c.args.runs.now) told in
    let h = c.in_ok-made.ensures.rewrites honest old s _ is_open refl stands.shows.next_group c.new-written.ensures.items has are in
    c.in_ok-commit_version.ensures.tidy (c.in_ok-made.ensures.honest.0 honest) _ h.written.wrote.shows is_open (ap (λ (x : Core g.row.D.Denot). x.keeps) c.in_ok-made.ensures.same ∙ keeps)
