use Rattle.std.proofs.Common.{◌++◌, List, Option, Result, map, ap, ◌∙◌, subst, arith}
use Rattle.bits.specs.declared.refusal.Refusal.{Refusal}
use Rattle.schema.specs.Keys.{KeyColumn, row_without_keys}
use Rattle.lists.proofs.Booleans.{iff_through as both}
use Rattle.vault.proofs.Chained.{refused}
use Rattle.manifest.specs.Groups.{Root, root_of, handles_view}
use Rattle.scan.specs.declared.group_rows.GroupRows.{GroupRows}
use Rattle.scan.specs.Left.{AreAccepted, rows_held}
use Rattle.table.specs.Table.{Row}
use Rattle.table_jobs.specs.Rewritten.{StaysUnderWay, AreUnderWay}
use Rattle.table_commits.specs.Showing.{AreShown}
use Rattle.table_jobs.proofs.RowsUnderWay.{read_way, way_unread, none_of}
use Rattle.table_jobs.proofs.run_writing.take_read.Goals as goal

pub returns-in_err-shown_rows-clause-takes : goal.returns-in_err-shown_rows-clause-takes
returns-in_err-shown_rows-clause-takes g c honest start s task group later is_open described held u =
    let old = c.args.store.now in
    let files = handles_view c.args.written.now.items in
    let waiting = c.args.waiting.now in
    let vault = c.shown_rows.new.vault in
    let failed = c.in_err-shown_rows.ensures in
    refused (λ (r : Result (Unit {0}) Refusal). StaysUnderWay g.D.Disk.state start (record old { vault = vault }) s c.args.job task files waiting later 1 r) c.from_residual.result _ c.from_residual.ensures.1
    (way_unread g.D.Disk.state start s c.args.job task old files waiting (group.rows ++ later) 1 u is_open vault (failed.effect.unchanged honest) failed.effect.counts.later (Option GroupRows) c.in_err-shown_rows.field-0.0 (failed.only honest group held) failed.effect)

pub returns-in-None-clause-takes : goal.returns-in-None-clause-takes
returns-in-None-clause-takes g c honest start s task group later is_open described held u =
    let old = c.args.store.now in
    let files = handles_view c.args.written.now.items in
    let waiting = c.args.waiting.now in
    let vault = c.shown_rows.new.vault in
    let done = c.in_ok-shown_rows.ensures in
    let cut = row_without_keys (root_of c.args.table.now).keys in
    let none = none_of cut group.rows (subst (AreShown (map cut group.rows)) c.in-None.is (done.stands honest group held)) in
    subst (λ (xs : List Row). AreUnderWay g.D.Disk.state start (record old { vault = vault }) s c.args.job task files waiting (xs ++ later) 1) none
    (read_way g.D.Disk.state start s c.args.job task old files waiting (group.rows ++ later) 1 u is_open vault (done.effect.unchanged honest) done.effect.counts.later)

pub returns-in-Some-clause-takes : goal.returns-in-Some-clause-takes
returns-in-Some-clause-takes g c honest start s task group later is_open described held u =
    let old = c.args.store.now in
    let files = handles_view c.args.written.now.items in
    let waiting = c.args.waiting.now in
    let vault = c.shown_rows.new.vault in
    let done = c.in_ok-shown_rows.ensures in
    let keys = ap (λ (r : Root). r.keys) described ∙ u.parts.written.wrote.shows.keys in
    let shown = subst (AreShown (map (row_without_keys (root_of c.args.table.now).keys) group.rows)) c.in-Some.is (done.stands honest group held) in
    let here = subst (λ (ks : List KeyColumn). rows_held c.in-Some.rows (map (row_without_keys ks) group.rows)) keys shown in
    c.take_shown.ensures.takes (done.effect.honest.0 honest) start s task group.rows later is_open described here
    (read_way g.D.Disk.state start s c.args.job task old files waiting (group.rows ++ later) 1 u is_open vault (done.effect.unchanged honest) done.effect.counts.later)

pub returns-in-Some-clause-sure : goal.returns-in-Some-clause-sure
returns-in-Some-clause-sure g c =
    let accepted = subst AreAccepted c.in-Some.is c.in_ok-shown_rows.ensures.accepted in
    c.take_shown.ensures.sure accepted.0 accepted.1

pub returns-in-Some-clause-counts : goal.returns-in-Some-clause-counts
returns-in-Some-clause-counts g c = let a = c.in_ok-shown_rows.ensures.effect.counts.later in let b = c.take_shown.ensures.counts in omega (arith, a, b)

pub returns-in-Some-clause-honest : goal.returns-in-Some-clause-honest
returns-in-Some-clause-honest g c = both c.in_ok-shown_rows.ensures.effect.honest c.take_shown.ensures.honest
