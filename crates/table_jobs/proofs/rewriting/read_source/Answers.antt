use Rattle.std.proofs.Common.{◌≡◌, Bool, Some, None, Err, sym, ◌∙◌, ap, subst}
use Rattle.std.specs.Prelude.{is_some}
use Rattle.std.specs.Vec.{with_items}
use Rattle.bits.specs.declared.refusal.Refusal.{Refusal}
use Rattle.vault.proofs.Chained.{refused}
use Rattle.manifest.specs.Groups.{Group as FileGroup, group_view, root_of}
use Rattle.scan.specs.Absent.{Lacks}
use Rattle.table.specs.Calls.{step_rewrite, more}
use Rattle.table.specs.Views.{answered}
use Rattle.table_reads.specs.Stepping.{next_at}
use Rattle.table_state.specs.Promises.{ActsFrom}
use Rattle.table_state.specs.Lookups.{job_at}
use Rattle.table_commits.proofs.GroupRemovals.{memory_only}
use Rattle.table_jobs.proofs.WorkReplaced.{put_back}
use Rattle.table_jobs.proofs.StepEnds.{some_mapped, there_so, next_none, next_some, step_none, at_next, held_next, step_stopped, unkept_so, kept_so}
use Rattle.table_jobs.proofs.rewriting.read_source.Goals as goal

pub returns-in-None-clause-acts : goal.returns-in-None-clause-acts
returns-in-None-clause-acts g c honest s stands is_open fine =
    let old = c.args.store.now in
    let n = c.args.job in
    step_none g.D.Disk.state old s stands is_open n fine (next_none n c.next_source.result (λ x. group_view x.now) c.as_slice.result.now old.jobs.items c.in-None.is c.next_source.ensures c.as_slice.ensures.value)

pub returns-in_err-rows-in-Some-clause-acts : goal.returns-in_err-rows-in-Some-clause-acts
returns-in_err-rows-in-Some-clause-acts g c honest s stands is_open fine =
    let old = c.args.store.now in
    let n = c.args.job in
    let state = g.D.Disk.state in
    let f = group_view c.in-Some.group.now in
    let next = next_some n c.next_source.result c.in-Some.group (λ x. group_view x.now) c.as_slice.result.now old.jobs.items c.in-Some.is c.next_source.ensures c.as_slice.ensures.value in
    let failed = c.in_err-rows-in-Some in
    refused (λ r. ActsFrom state old (record old { vault = c.whole_rows.new.vault }) (step_rewrite n) (answered {T = Bool} (λ b. more b) r) s) c.from_residual.result failed.field-0.0 c.from_residual.ensures.1
    (step_stopped state old s stands is_open n fine f next c.whole_rows.new.vault (failed.ensures.effect.unchanged honest) failed.field-0.0
    (failed.ensures.only honest (at_next state old s stands is_open n fine f next).g (held_next state old s stands is_open n fine f next)))

pub returns-in_err-push_read-in-Some-clause-acts : goal.returns-in_err-push_read-in-Some-clause-acts
returns-in_err-push_read-in-Some-clause-acts g c honest s stands is_open fine =
    let old = c.args.store.now in
    let n = c.args.job in
    let state = g.D.Disk.state in
    let f = group_view c.in-Some.group.now in
    let next = next_some n c.next_source.result c.in-Some.group (λ x. group_view x.now) c.as_slice.result.now old.jobs.items c.in-Some.is c.next_source.ensures c.as_slice.ensures.value in
    let failed = c.in_err-push_read-in-Some in
    let there = there_so state old s stands is_open n fine in
    let kept = failed.ensures.pushed there.x (ap (job_at n) c.as_mut_slice.ensures.value ∙ there.there) in
    refused (λ r. ActsFrom state old (record old { vault = c.whole_rows.new.vault; jobs = with_items old.jobs c.push_read.new.jobs }) (step_rewrite n) (answered {T = Bool} (λ b. more b) r) s) c.from_residual-in_err-push_read-in-Some.result failed.field-0.0 c.from_residual-in_err-push_read-in-Some.ensures.1
    (subst (λ (e : Refusal). ActsFrom state old (record old { vault = c.whole_rows.new.vault; jobs = with_items old.jobs c.push_read.new.jobs }) (step_rewrite n) (answered {T = Bool} (λ b. more b) (Err e)) s) (sym (memory_only failed.field-0.0 failed.ensures.which))
    (unkept_so state old s stands is_open n fine f next c.whole_rows.new.vault (c.in_ok-rows-in-Some.ensures.effect.unchanged honest) kept.0 (with_items old.jobs c.push_read.new.jobs)
    (put_back n kept.0 old.jobs.len old.jobs.items c.as_mut_slice.result.now c.push_read.new.jobs _ old.jobs.ok.0 c.as_mut_slice.ensures.value kept.1) kept.2))

pub returns-in_ok-push_read-in-Some-clause-acts : goal.returns-in_ok-push_read-in-Some-clause-acts
returns-in_ok-push_read-in-Some-clause-acts g c honest s stands is_open fine =
    let old = c.args.store.now in
    let n = c.args.job in
    let state = g.D.Disk.state in
    let f = group_view c.in-Some.group.now in
    let next = next_some n c.next_source.result c.in-Some.group (λ x. group_view x.now) c.as_slice.result.now old.jobs.items c.in-Some.is c.next_source.ensures c.as_slice.ensures.value in
    let read = c.in_ok-rows-in-Some in
    let there = there_so state old s stands is_open n fine in
    let kept = c.in_ok-push_read-in-Some.ensures.pushed there.x (ap (job_at n) c.as_mut_slice.ensures.value ∙ there.there) in
    let rows_are = read.ensures.stands honest (at_next state old s stands is_open n fine f next).g (held_next state old s stands is_open n fine f next) in
    kept_so state old s stands is_open n fine f next c.whole_rows.new.vault (read.ensures.effect.unchanged honest) kept.0 (with_items old.jobs c.push_read.new.jobs)
    (put_back n kept.0 old.jobs.len old.jobs.items c.as_mut_slice.result.now c.push_read.new.jobs _ old.jobs.ok.0 c.as_mut_slice.ensures.value kept.1)
    read.rows rows_are kept.2 c.is_some.result
    (c.is_some.ensures ∙ some_mapped (λ x. group_view x.now) c.next_source-in-Some.result ∙ ap is_some (c.next_source-in-Some.ensures ∙ ap (λ js. next_at (job_at n js)) c.as_slice-in-Some.ensures.value))

pub returns-in-None-clause-absent : goal.returns-in-None-clause-absent
returns-in-None-clause-absent g c honest lacks =
    let old = c.args.store.now in
    let n = c.args.job in
    let none = next_none n c.next_source.result (λ x. group_view x.now) c.as_slice.result.now old.jobs.items c.in-None.is c.next_source.ensures c.as_slice.ensures.value in
    let both : None ≡ Some lacks.source = sym none ∙ lacks.next in
    absurd (cc)

pub returns-in_ok-push_read-in-Some-clause-absent : goal.returns-in_ok-push_read-in-Some-clause-absent
returns-in_ok-push_read-in-Some-clause-absent g c honest lacks =
    let old = c.args.store.now in
    let n = c.args.job in
    let next = next_some n c.next_source.result c.in-Some.group (λ x. group_view x.now) c.as_slice.result.now old.jobs.items c.in-Some.is c.next_source.ensures c.as_slice.ensures.value in
    let both : Some (group_view c.in-Some.group.now) ≡ Some lacks.source = sym next ∙ lacks.next in
    let same : lacks.source ≡ group_view c.in-Some.group.now = cc in
    c.in_ok-rows-in-Some.ensures.absent honest lacks.keyed (subst (λ (x : FileGroup). Lacks (g.D.Disk.state old.vault.disk) (root_of old.manifest).keys (root_of old.manifest).schema x) same lacks.lacks)
