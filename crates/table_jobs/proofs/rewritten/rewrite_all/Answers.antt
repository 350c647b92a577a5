use Rattle.std.proofs.Common.{◌≡◌, ◌+◌, ◌++◌, [], ℕ, List, Result, length, drop, refl, ap, sym, ◌∙◌, subst, arith, append_assoc}
use Rattle.std.specs.Prelude.{Some, Vec}
use Rattle.std.specs.declared.rc.Rc.{Rc}
use Rattle.std.specs.declared.alloc.Global.{Global}
use Rattle.std.proofs.lemmas.List.{append-nil, map_push}
use Rattle.lists.proofs.Slices.{drop_here as drop_item, drop_past as drop_all}
use Rattle.lists.proofs.Booleans.{iff_through as both}
use Rattle.bits.specs.declared.refusal.Refusal.{Refusal}
use Rattle.bits.specs.declared.refusal.Refusal.TheVariants.{Memory}
use Rattle.vault.proofs.Chained.{refused}
use Rattle.manifest.specs.declared.group.Group.{Group as CodeGroup}
use Rattle.manifest.specs.Groups.{Group as FileGroup, Root, handles_view, root_of}
use Rattle.manifest.specs.Root.{CanHave}
use Rattle.planning.specs.declared.change.Run.{Run as CodeRun}
use Rattle.planning.specs.declared.change.Sources.{Sources}
use Rattle.planning.specs.Replaced.{Run, run_view, runs_view}
use Rattle.planning.specs.Numbered.{brought_by}
use Rattle.planning.specs.Runs.{sources_view}
use Rattle.table.specs.Table.{rows}
use Rattle.table.specs.State.{sources}
use Rattle.table.specs.Limits.{IsPart, IsOfRun}
use Rattle.table_state.specs.declared.standing.Core.{Core}
use Rattle.table_state.specs.Lookups.{job_at}
use Rattle.table_jobs.specs.Rewritten.{IsHalted, RewritesAll}
use Rattle.table_commits.proofs.GroupRemovals.{memory_so}
use Rattle.table_jobs.proofs.GroupsOfRuns.{poor_here}
use Rattle.table_jobs.proofs.RunByRun.{SoFar, one_stops, next_run, none_done, low_enough, of_runs, run_more, poor_more, all_done, brought_two, many_in}
use Rattle.table_jobs.proofs.rewritten.rewrite_all.Goals as goal

pub loop-run-init : goal.loop-run-init
loop-run-init g c = record {
  same = refl;
  failures = omega arith;
  honest = (λ h. h, λ h. h);
  come = sym (append-nil (handles_view c.args.written.now.items)) ∙ ap (λ (xs : List CodeRun). handles_view c.args.written.now.items ++ brought_by (runs_view xs)) (sym c.new-made.ensures.items);
  fit = λ were. were;
  fills = λ honest start s given is_open same counter none has are. subst (λ (rs : List CodeRun). SoFar g.D.Disk.state start c.args.store.now s c.args.job (handles_view c.args.written.now.items) (runs_view rs) given 0 (sources_view c.args.runs.now)) (sym c.new-made.ensures.items)
      (subst (λ (xs : List (Rc CodeGroup Global)). SoFar g.D.Disk.state start c.args.store.now s c.args.job (handles_view xs) [] given 0 (sources_view c.args.runs.now)) (sym none) (none_done g.D.Disk.state start s c.args.job given c.args.store.now (sources_view c.args.runs.now) has counter are));
}

pub returns-in_err-table-clause-rewrites : goal.returns-in_err-table-clause-rewrites
returns-in_err-table-clause-rewrites g c honest start s given is_open same counter none has are =
    let state = g.D.Disk.state in
    let old = c.args.store.now in
    refused (λ (o : Result (Vec CodeRun Global) Refusal). RewritesAll state start old s (Some c.args.job) (handles_view c.args.written.now.items) given o) c.from_residual.result _ c.from_residual.ensures.1
    (memory_so c.in_err-table.field-0.0 c.in_err-table.ensures.which (λ e. IsHalted state start old s (IsOfRun s given) (s.next_group + length (rows (sources given))) e)
    (poor_here state start old s c.args.job [] [] has (IsOfRun s given) (s.next_group + length (rows (sources given))) (omega (arith, counter))))

pub returns-in_err-one-clause-rewrites : goal.returns-in_err-one-clause-rewrites
returns-in_err-one-clause-rewrites g c honest start s given is_open same counter none has are =
    let so_far = c.loop-run.invariant in
    let state = g.D.Disk.state in
    let n = c.args.job in
    let mid = c.loop-run.store in
    let new = c.rewrite_one.new.store in
    let i = c.loop-run.run-index in
    let files = handles_view c.loop-run.written.items in
    let more = handles_view c.rewrite_one.new.written.items in
    let made = runs_view c.loop-run.made.items in
    let fs = handles_view c.run-item.result.groups.items in
    let fss = sources_view (drop (i + 1) c.args.runs.now) in
    let left = ap (λ (xs : List Sources). sources_view xs) (drop_item c.args.runs.now i c.run-item.result c.loop-run-test.true c.run-item.is) in
    let f = subst (λ (xs : List (List FileGroup)). SoFar state start mid s n files made given c.loop-run.place xs) left (so_far.fills honest start s given is_open same counter none has are) in
    let next = next_run (state start.vault.disk) s (job_at n start.jobs.items) c.loop-run.place fs fss f.left f.are in
    let same_mid = ap (λ (st : Core g.row.D.Denot). st.jobs) so_far.same ∙ same in
    let described = c.in_ok-table.ensures.same ∙ sym (ap (λ (st : Core g.row.D.Denot). root_of st.manifest) so_far.same) in
    let stop = c.in_err-one.ensures.rewrites (so_far.honest.0 honest) start s (sources f.has.groups) next.run is_open same_mid described f.has.written next.sources next.run_in in
    refused (λ (o : Result (Vec CodeRun Global) Refusal). RewritesAll state start new s (Some n) more given o) c.from_residual-in_err-one.result _ c.from_residual-in_err-one.ensures.1
    (one_stops state start s n new (IsPart s.options.group_rows (rows next.run)) (IsOfRun s given) (of_runs state start s n given mid files made c.loop-run.place fs fss f next) (mid.next_group + length (rows next.run)) (s.next_group + length (rows (sources given)))
    (low_enough state start s n given mid files made c.loop-run.place fs fss f next) c.in_err-one.field-0.0 stop)

pub returns-in_err-push-clause-rewrites : goal.returns-in_err-push-clause-rewrites
returns-in_err-push-clause-rewrites g c honest start s given is_open same counter none has are =
    let so_far = c.loop-run.invariant in
    let state = g.D.Disk.state in
    let n = c.args.job in
    let mid = c.loop-run.store in
    let new = c.rewrite_one.new.store in
    let i = c.loop-run.run-index in
    let files = handles_view c.loop-run.written.items in
    let more = handles_view c.rewrite_one.new.written.items in
    let made = runs_view c.loop-run.made.items in
    let fs = handles_view c.run-item.result.groups.items in
    let fss = sources_view (drop (i + 1) c.args.runs.now) in
    let left = ap (λ (xs : List Sources). sources_view xs) (drop_item c.args.runs.now i c.run-item.result c.loop-run-test.true c.run-item.is) in
    let f = subst (λ (xs : List (List FileGroup)). SoFar state start mid s n files made given c.loop-run.place xs) left (so_far.fills honest start s given is_open same counter none has are) in
    let next = next_run (state start.vault.disk) s (job_at n start.jobs.items) c.loop-run.place fs fss f.left f.are in
    let same_mid = ap (λ (st : Core g.row.D.Denot). st.jobs) so_far.same ∙ same in
    let described = c.in_ok-table.ensures.same ∙ sym (ap (λ (st : Core g.row.D.Denot). root_of st.manifest) so_far.same) in
    let one = c.in_ok-one.ensures.rewrites (so_far.honest.0 honest) start s (sources f.has.groups) next.run is_open same_mid described f.has.written next.sources next.run_in in
    refused (λ (o : Result (Vec CodeRun Global) Refusal). RewritesAll state start new s (Some n) more given o) c.from_residual-in_err-push.result Memory c.from_residual-in_err-push.ensures.1
    (poor_more state start s n given mid files made c.loop-run.place fs fss f next new more (run_view c.in_ok-one.one) one)

pub returns-in_err-behind-clause-rewrites : goal.returns-in_err-behind-clause-rewrites
returns-in_err-behind-clause-rewrites g c honest start s given is_open same counter none has are =
    let so_far = c.loop-run.invariant in
    let state = g.D.Disk.state in
    let n = c.args.job in
    let mid = c.loop-run.store in
    let new = c.rewrite_one.new.store in
    let i = c.loop-run.run-index in
    let files = handles_view c.loop-run.written.items in
    let more = handles_view c.rewrite_one.new.written.items in
    let made = runs_view c.loop-run.made.items in
    let fs = handles_view c.run-item.result.groups.items in
    let fss = sources_view (drop (i + 1) c.args.runs.now) in
    let left = ap (λ (xs : List Sources). sources_view xs) (drop_item c.args.runs.now i c.run-item.result c.loop-run-test.true c.run-item.is) in
    let f = subst (λ (xs : List (List FileGroup)). SoFar state start mid s n files made given c.loop-run.place xs) left (so_far.fills honest start s given is_open same counter none has are) in
    let next = next_run (state start.vault.disk) s (job_at n start.jobs.items) c.loop-run.place fs fss f.left f.are in
    let same_mid = ap (λ (st : Core g.row.D.Denot). st.jobs) so_far.same ∙ same in
    let described = c.in_ok-table.ensures.same ∙ sym (ap (λ (st : Core g.row.D.Denot). root_of st.manifest) so_far.same) in
    let one = c.in_ok-one.ensures.rewrites (so_far.honest.0 honest) start s (sources f.has.groups) next.run is_open same_mid described f.has.written next.sources next.run_in in
    refused (λ (o : Result (Vec CodeRun Global) Refusal). RewritesAll state start new s (Some n) more given o) c.from_residual-in_err-behind.result _ c.from_residual-in_err-behind.ensures.1
    (memory_so c.in_err-behind.field-0.0 c.in_err-behind.ensures.which (λ e. IsHalted state start new s (IsOfRun s given) (s.next_group + length (rows (sources given))) e) (poor_more state start s n given mid files made c.loop-run.place fs fss f next new more (run_view c.in_ok-one.one) one))

pub loop-run-preserved : goal.loop-run-preserved
loop-run-preserved g c =
    let so_far = c.loop-run.invariant in
    let state = g.D.Disk.state in
    let n = c.args.job in
    let mid = c.loop-run.store in
    let new = c.rewrite_one.new.store in
    let i = c.loop-run.run-index in
    let files = handles_view c.loop-run.written.items in
    let more = handles_view c.rewrite_one.new.written.items in
    let made = runs_view c.loop-run.made.items in
    let fs = handles_view c.run-item.result.groups.items in
    let fss = sources_view (drop (i + 1) c.args.runs.now) in
    let left = ap (λ (xs : List Sources). sources_view xs) (drop_item c.args.runs.now i c.run-item.result c.loop-run-test.true c.run-item.is) in
    let done = c.in_ok-one in
    let pushed = ap runs_view c.in_ok-push.ensures.items ∙ map_push run_view c.loop-run.made.items c.in_ok-one.one in
    let step : c.in_ok-behind.behind ≡ c.loop-run.place + length fs = c.in_ok-behind.ensures.is ∙ ap (λ (k : ℕ). c.loop-run.place + k) (many_in c.as_slice.result.now c.run-item.result.groups.items c.as_slice.ensures.value) in
    record {
      same = done.ensures.same ∙ ap (λ (st : Core g.row.D.Denot). record st { vault = new.vault; snapshots = new.snapshots; next_group = new.next_group }) so_far.same;
      failures = omega (arith, so_far.failures, done.ensures.counts);
      honest = both so_far.honest done.ensures.honest;
      come = done.ensures.come ∙ ap (λ (gs : List FileGroup). gs ++ (run_view c.in_ok-one.one).come) so_far.come ∙ append_assoc (handles_view c.args.written.now.items) (brought_by made) (run_view c.in_ok-one.one).come
          ∙ ap (λ (gs : List FileGroup). handles_view c.args.written.now.items ++ gs) (sym (brought_two made (run_view c.in_ok-one.one)) ∙ ap brought_by (sym pushed));
      fit = λ were. subst (λ (r : Root). CanHave r files → CanHave r more) (ap (λ (st : Core g.row.D.Denot). root_of st.manifest) so_far.same) done.ensures.fit (so_far.fit were);
      fills = λ honest start s given is_open same counter none has are.
          let f = subst (λ (xs : List (List FileGroup)). SoFar state start mid s n files made given c.loop-run.place xs) left (so_far.fills honest start s given is_open same counter none has are) in
          let next = next_run (state start.vault.disk) s (job_at n start.jobs.items) c.loop-run.place fs fss f.left f.are in
          let same_mid = ap (λ (st : Core g.row.D.Denot). st.jobs) so_far.same ∙ same in
          let described = c.in_ok-table.ensures.same ∙ sym (ap (λ (st : Core g.row.D.Denot). root_of st.manifest) so_far.same) in
          let one = done.ensures.rewrites (so_far.honest.0 honest) start s (sources f.has.groups) next.run is_open same_mid described f.has.written next.sources next.run_in in
          subst (λ (rs : List Run). SoFar state start new s n more rs given c.in_ok-behind.behind fss) (sym pushed)
          (run_more state start s n given mid files made c.loop-run.place fs fss f next new more (run_view c.in_ok-one.one) one c.in_ok-behind.behind step);
    }

pub returns-clause-rewrites : goal.returns-clause-rewrites
returns-clause-rewrites g c honest start s given is_open same counter none has are =
    let so_far = c.loop-run.invariant in
    let state = g.D.Disk.state in
    let n = c.args.job in
    let mid = c.loop-run.store in
    let empty = ap (λ (xs : List Sources). sources_view xs) (drop_all c.args.runs.now c.loop-run.run-index c.loop-run-test.false) in
    let f = subst (λ (xs : List (List FileGroup)). SoFar state start mid s n (handles_view c.loop-run.written.items) (runs_view c.loop-run.made.items) given c.loop-run.place xs) empty (so_far.fills honest start s given is_open same counter none has are) in
    all_done state start s n given mid (handles_view c.loop-run.written.items) (runs_view c.loop-run.made.items) c.loop-run.place f
