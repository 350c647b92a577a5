use Rattle.std.proofs.Common.{◌++◌, ◌∷◌, [], List, ap, sym, ◌∙◌, subst, arith}
use Rattle.std.specs.Rc.{rc_value}
use Rattle.std.specs.declared.rc.Rc.{Rc}
use Rattle.std.specs.declared.alloc.Global.{Global}
use Rattle.std.proofs.lemmas.List.{map_push}
use Rattle.bits.specs.Refusals.{RefusedOnly}
use Rattle.bits.specs.declared.refusal.Refusal.TheVariants.{Memory}
use Rattle.schema.specs.Views.{key_view}
use Rattle.vault.proofs.Chained.{refused}
use Rattle.manifest.specs.declared.group.Group.{Group as CodeGroup}
use Rattle.manifest.specs.Groups.{Group as FileGroup, root_of, group_view, handles_view}
use Rattle.manifest.specs.Root.{CanHave, stored_of}
use Rattle.manifest.specs.Records.{IsGroup}
use Rattle.lists.proofs.Lists.{all_append}
use Rattle.table_state.specs.declared.standing.Core.{Core}
use Rattle.table_commits.specs.Gathering.{HoldsPart}
use Rattle.table_commits.specs.Writing.{IsPartRefusal, counted}
use Rattle.table_commits.specs.Filling.{HasWritten, Adds, written_group}
use Rattle.table_commits.proofs.OneFileMore.{failed_since, wrote_so, one_more}
use Rattle.table_commits.proofs.buffered_part.write_gathered.Goals as goal

pub returns-in_err-group-clause-which : goal.returns-in_err-group-clause-which
returns-in_err-group-clause-which g c stored held =
    let old = c.args.store.now in
    let many = c.len-rows.ensures.counted stored held.held in
    refused (λ r. RefusedOnly (IsPartRefusal old c.args.job (key_view c.args.buffer.key) stored) r) c.from_residual.result _ c.from_residual.ensures.1
    (c.in_err-group.ensures.which stored record { rows = held; some = omega (arith, many, c.if-rows-eq0.false); few = omega (arith, many, c.if-rows-store.false) })

pub returns-in_err-group-clause-adds : goal.returns-in_err-group-clause-adds
returns-in_err-group-clause-adds g c honest start s groups stored rows is_open has held are =
    let old = c.args.store.now in
    let new = c.write_buffered.new.store in
    let key = key_view c.args.buffer.key in
    let failed = c.in_err-group in
    let many = c.len-rows.ensures.counted stored held.held in
    let part : HoldsPart (root_of old.manifest) old.options c.args.buffer stored = record { rows = held; some = omega (arith, many, c.if-rows-eq0.false); few = omega (arith, many, c.if-rows-store.false) } in
    let writes = failed.ensures.writes honest (counted s old.next_group) stored rows has.wrote.shows is_open has.job_open part are in
    let later = failed.ensures.counts.later in
    let files = handles_view c.args.written.now.items in
    refused (λ r. Adds g.D.Disk.state start old new s c.args.job files groups (written_group old.next_group key rows) r) c.from_residual.result _ c.from_residual.ensures.1 (
      wrote_so g.D.Disk.state start old new s c.args.job files groups key rows has later (ap (λ (st : Core g.row.D.Denot). st.jobs) failed.ensures.same) _ writes,
      writes.no_more,
      λ is. failed_since (g.D.Disk.state start.vault.disk) (g.D.Disk.state old.vault.disk) (g.D.Disk.state new.vault.disk) has.no_less later (writes.cause is),
    )

pub returns-in_err-push-clause-adds : goal.returns-in_err-push-clause-adds
returns-in_err-push-clause-adds g c honest start s groups stored rows is_open has held are =
    let old = c.args.store.now in
    let new = c.write_buffered.new.store in
    let key = key_view c.args.buffer.key in
    let done = c.in_ok-group in
    let many = c.len-rows.ensures.counted stored held.held in
    let part : HoldsPart (root_of old.manifest) old.options c.args.buffer stored = record { rows = held; some = omega (arith, many, c.if-rows-eq0.false); few = omega (arith, many, c.if-rows-store.false) } in
    let writes = done.ensures.writes honest (counted s old.next_group) stored rows has.wrote.shows is_open has.job_open part are in
    let files = handles_view c.args.written.now.items in
    refused (λ r. Adds g.D.Disk.state start old new s c.args.job (handles_view c.push.new.self.items) groups (written_group old.next_group key rows) r) c.from_residual-in_err-push.result Memory c.from_residual-in_err-push.ensures.1 (
      wrote_so g.D.Disk.state start old new s c.args.job files groups key rows has done.ensures.counts.later (ap (λ (st : Core g.row.D.Denot). st.jobs) done.ensures.same) _ writes,
      writes.no_more,
      λ is. absurd (cc),
    )

pub returns-clause-adds : goal.returns-clause-adds
returns-clause-adds g c honest start s groups stored rows is_open has held are =
    let old = c.args.store.now in
    let new = c.write_buffered.new.store in
    let key = key_view c.args.buffer.key in
    let done = c.in_ok-group in
    let many = c.len-rows.ensures.counted stored held.held in
    let part : HoldsPart (root_of old.manifest) old.options c.args.buffer stored = record { rows = held; some = omega (arith, many, c.if-rows-eq0.false); few = omega (arith, many, c.if-rows-store.false) } in
    let writes = done.ensures.writes honest (counted s old.next_group) stored rows has.wrote.shows is_open has.job_open part are in
    let files = handles_view c.args.written.now.items in
    let items = ap handles_view c.in_ok-push.ensures.items ∙ map_push (λ (h : Rc CodeGroup Global). group_view (rc_value h)) c.args.written.now.items done.group in (
      subst (λ (fs : List FileGroup). HasWritten g.D.Disk.state start new s c.args.job fs (groups ++ written_group old.next_group key rows ∷ [])) (sym items)
          (one_more g.D.Disk.state start old new s c.args.job files groups key rows has done.ensures.counts.later (ap (λ (st : Core g.row.D.Denot). st.jobs) done.ensures.same) done.group writes),
      writes.no_more,
    )

pub returns-clause-goes : goal.returns-clause-goes
returns-clause-goes g c =
    let h = c.in_ok-group.group in
    (group_view (rc_value h) ∷ [], ap handles_view c.in_ok-push.ensures.items ∙ map_push (λ (x : Rc CodeGroup Global). group_view (rc_value x)) c.args.written.now.items h)

pub returns-clause-fit : goal.returns-clause-fit
returns-clause-fit g c = λ were.
    let root = root_of c.args.store.now.manifest in
    let h = c.in_ok-group.group in
    subst (λ (fs : List FileGroup). CanHave root fs) (sym (ap handles_view c.in_ok-push.ensures.items ∙ map_push (λ (x : Rc CodeGroup Global). group_view (rc_value x)) c.args.written.now.items h))
    (all_append (IsGroup root.keys (stored_of root)) (handles_view c.args.written.now.items) (group_view (rc_value h) ∷ []) were (c.in_ok-group.ensures.is, tt))
