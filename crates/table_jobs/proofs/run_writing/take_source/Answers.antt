use Rattle.std.proofs.Common.{◌≡◌, ◌++◌, [], List, Option, Result, ap, sym, ◌∙◌, subst}
use Rattle.std.specs.Prelude.{Vec, option_map}
use Rattle.std.specs.Rc.{rc_value}
use Rattle.std.specs.declared.alloc.Global.{Global}
use Rattle.bits.specs.declared.refusal.Refusal.{Refusal}
use Rattle.schema.specs.declared.row.Row.{Row as CodeRow}
use Rattle.schema.specs.Views.{rows_view}
use Rattle.vault.proofs.Chained.{refused}
use Rattle.manifest.specs.declared.group.Group.{Group as CodeGroup}
use Rattle.manifest.specs.Groups.{Root, group_view, handles_view, root_of}
use Rattle.table.specs.Table.{Row}
use Rattle.table.specs.Limits.{IsPart}
use Rattle.table_state.specs.declared.jobs.OpenJob.{OpenJob}
use Rattle.table_jobs.specs.Completing.{completed_rows}
use Rattle.table_reads.specs.Counting.{IsHeld}
use Rattle.table_state.specs.Lookups.{job_at}
use Rattle.table_jobs.specs.Rewritten.{kept_at, StaysUnderWay, IsHalted, AreUnderWay}
use Rattle.table_commits.proofs.GroupRemovals.{memory_so}
use Rattle.table_jobs.proofs.SourcesRead.{source_held, source_kept}
use Rattle.table_jobs.proofs.RowsUnderWay.{poor_way}
use Rattle.table_jobs.proofs.run_writing.take_source.Goals as goal

pub returns-in_err-rows-clause-takes : goal.returns-in_err-rows-clause-takes
returns-in_err-rows-clause-takes g c honest start s task group later is_open same described is u =
    let old = c.args.store.now in
    let files = handles_view c.args.written.now.items in
    refused (λ (r : Result (Unit {0}) Refusal). StaysUnderWay g.D.Disk.state start old s c.args.job task files c.args.waiting.now later 1 r) c.from_residual.result _ c.from_residual.ensures.1
    (memory_so c.in_err-rows.field-0.0 c.in_err-rows.ensures.which (λ e. IsHalted g.D.Disk.state start old s (IsPart s.options.group_rows task.given) task.most e)
    (poor_way g.D.Disk.state start s c.args.job task old files c.args.waiting.now (group.rows ++ later) 1 u))

pub returns-in-Some-clause-takes : goal.returns-in-Some-clause-takes
returns-in-Some-clause-takes g c honest start s task group later is_open same described is u =
    let old = c.args.store.now in
    let files = handles_view c.args.written.now.items in
    let has = u.parts.written in
    let jobs : job_at c.args.job c.as_slice.result.now ≡ job_at c.args.job start.jobs.items = ap (job_at c.args.job) c.as_slice.ensures.value ∙ ap (λ (js : Vec OpenJob Global). job_at c.args.job js.items) same in
    let told = ap (option_map (λ (v : Vec CodeRow Global). rows_view v.items)) (sym c.in-Some.is) ∙ c.in_ok-rows.ensures.told ∙ ap (λ (j : Option OpenJob). option_map (completed_rows c.schema.result.now) (kept_at c.args.place j)) jobs in
    let given = source_kept g.D.Disk.state start old s c.args.job files (task.groups ++ u.parts.added) is_open has (kept_at c.args.place (job_at c.args.job start.jobs.items)) (group_view (rc_value c.args.source.now)) group is c.schema.result.now (c.schema.ensures ∙ has.wrote.shows.schema) c.in-Some.rows told in
    c.take_kept.ensures.takes honest start s task later is_open described (subst (λ (xs : List Row). AreUnderWay g.D.Disk.state start old s c.args.job task files c.args.waiting.now (xs ++ later) 1) (sym given) u)

pub returns-in-None-clause-takes : goal.returns-in-None-clause-takes
returns-in-None-clause-takes g c honest start s task group later is_open same described is u =
    let old = c.args.store.now in
    let disk = g.D.Disk.state old.vault.disk in
    let files = handles_view c.args.written.now.items in
    let f = group_view (rc_value c.args.source.now) in
    let there = source_held g.D.Disk.state start old s c.args.job files (task.groups ++ u.parts.added) is_open u.parts.written (kept_at c.args.place (job_at c.args.job start.jobs.items)) f group is in
    let held = subst (λ (x : CodeGroup). IsHeld disk [] (root_of c.args.table.now) (group_view x) group) (sym c.deref.ensures) (subst (λ (r : Root). IsHeld disk [] r f group) (sym described) there) in
    c.take_read.ensures.takes honest start s task group later is_open described held u
