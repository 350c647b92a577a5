use Rattle.std.proofs.Common.{◌+◌, [], List, Result, length, drop, refl, ap, sym, ◌∙◌, subst, arith}
use Rattle.std.specs.Prelude.{Some, OnOk}
use Rattle.std.proofs.lemmas.Result.{on_ok_weaker}
use Rattle.std.specs.Rc.{rc_value}
use Rattle.std.specs.declared.rc.Rc.{Rc}
use Rattle.std.specs.declared.alloc.Global.{Global}
use Rattle.bits.specs.declared.refusal.Refusal.{Refusal}
use Rattle.schema.specs.Shape.{Fields}
use Rattle.lists.proofs.Booleans.{iff_through as both}
use Rattle.vault.proofs.Chained.{refused}
use Rattle.gather.specs.KeyBuffers.{HoldsRows}
use Rattle.manifest.specs.declared.group.Group.{Group as CodeGroup}
use Rattle.manifest.specs.Groups.{Group as FileGroup, Root, group_view, handles_view, root_of}
use Rattle.manifest.specs.Root.{CanHave, stored_of}
use Rattle.table.specs.Table.{rows}
use Rattle.table.specs.Limits.{IsPart}
use Rattle.table_state.specs.declared.standing.Core.{Core}
use Rattle.table_state.specs.Lookups.{job_at}
use Rattle.table_jobs.specs.Rewritten.{AddsAll, AreSources, IsHalted}
use Rattle.lists.proofs.Slices.{drop_here as drop_item, drop_past as drop_all}
use Rattle.table_reads.proofs.CountedRows.{no_terms}
use Rattle.table_commits.proofs.GroupRemovals.{memory_so}
use Rattle.table_jobs.proofs.RunByRun.{run_rows_in, run_can}
use Rattle.table_jobs.proofs.GroupsOfRuns.{same_fields, poor_here, goes_on, goes_then, goes_nowhere}
use Rattle.table_jobs.proofs.RowsUnderWay.{SourcesLeft, run_task, not_empty, begun, poor_way, none_to_come, next, next_way, then_others, some_source, first_key}
use Rattle.table_jobs.proofs.run_writing.write_sources.Goals as goal

pub returns-then-is_empty-clause-writes : goal.returns-then-is_empty-clause-writes
returns-then-is_empty-clause-writes g c honest start s groups run is_open same described has are is =
    absurd (some_source (g.D.Disk.state start.vault.disk) s (job_at c.args.job start.jobs.items) c.args.place (handles_view c.args.sources.now) run are is.some
    (no_terms (λ (h : Rc CodeGroup Global). group_view (rc_value h)) c.args.sources.now (sym c.is_empty.ensures ∙ c.if-is_empty.true)))

pub returns-in_err-waiting-clause-writes : goal.returns-in_err-waiting-clause-writes
returns-in_err-waiting-clause-writes g c honest start s groups run is_open same described has are is =
    let old = c.args.store.now in
    let files = handles_view c.args.written.now.items in
    refused (λ (r : Result (Unit {0}) Refusal). AddsAll g.D.Disk.state start old s (Some c.args.job) files files groups is.key (rows run) (old.next_group + length (rows run)) r) c.from_residual.result _ c.from_residual.ensures.1
    (memory_so c.in_err-waiting.field-0.0 c.in_err-waiting.ensures.which (λ e. IsHalted g.D.Disk.state start old s (IsPart s.options.group_rows (rows run)) (old.next_group + length (rows run)) e)
    (poor_here g.D.Disk.state start old s c.args.job files groups has (IsPart s.options.group_rows (rows run)) (old.next_group + length (rows run)) (omega arith)))

pub loop-source-init : goal.loop-source-init
loop-source-init g c = record {
  same = refl;
  failures = omega arith;
  honest = (λ h. h, λ h. h);
  goes = goes_nowhere (handles_view c.args.written.now.items);
  fit = λ were. were;
  fills = λ honest start s groups run is_open same described has are is.
      let state = g.D.Disk.state in
      let n = c.args.job in
      let old = c.args.store.now in
      let was = handles_view c.args.written.now.items in
      let first = c.index-sources-0.result in
      let split = drop_item c.args.sources.now 0 first (let l = not_empty (length c.args.sources.now) (sym c.is_empty.ensures ∙ c.if-is_empty.false) in omega (arith, l)) c.index-sources-0.is in
      let ready = subst (λ (xs : List (Rc CodeGroup Global)). AreSources (state start.vault.disk) s (job_at n start.jobs.items) c.args.place (handles_view xs) run) split are in
      let lent = ap (λ (x : CodeGroup). (group_view x).key) c.deref.ensures in
      let key = c.in_ok-waiting.ensures.key ∙ lent ∙ first_key (state start.vault.disk) s (job_at n start.jobs.items) c.args.place (group_view (rc_value first)) (handles_view (drop 1 c.args.sources.now)) run is.key ready is.keyed in
      let columns = ap (λ (r : Root). stored_of r) described ∙ same_fields state start old s n was groups has in
      record {
        left = run;
        are = are;
        way = begun state start s n (run_task was groups is.key run old.next_group) old c.in_ok-waiting.waiting has (omega arith) (run_can s run is) (run_rows_in s run is) key
            (subst (λ (fs : Fields). HoldsRows fs [] c.in_ok-waiting.waiting) columns c.in_ok-waiting.ensures.none);
      };
}

pub returns-in_err-take_source-clause-writes : goal.returns-in_err-take_source-clause-writes
returns-in_err-take_source-clause-writes g c honest start s groups run is_open same described has are is =
    let at = c.loop-source in
    let so_far = at.invariant in
    let state = g.D.Disk.state in
    let n = c.args.job in
    let old = c.args.store.now in
    let mid = at.store in
    let new = c.take_source.new.store in
    let i = at.source-index in
    let was = handles_view c.args.written.now.items in
    let files = handles_view at.written.items in
    let task = run_task was groups is.key run old.next_group in
    let f = group_view (rc_value c.source-item.result) in
    let fs = handles_view (drop (i + 1) c.args.sources.now) in
    let split = ap (λ (xs : List (Rc CodeGroup Global)). handles_view xs) (drop_item c.args.sources.now i c.source-item.result c.loop-source-test.true c.source-item.is) in
    let l = subst (λ (xs : List FileGroup). SourcesLeft state start s n task mid files at.waiting at.at xs) split (so_far.fills honest start s groups run is_open same described has are is) in
    let one = next state start s n task mid files at.waiting at.at f fs l in
    let same_mid = ap (λ (st : Core g.row.D.Denot). st.jobs) so_far.same ∙ same in
    let here = described ∙ sym (ap (λ (st : Core g.row.D.Denot). root_of st.manifest) so_far.same) in
    refused (λ (r : Result (Unit {0}) Refusal). AddsAll state start new s (Some n) was (handles_view c.take_source.new.written.items) groups is.key (rows run) (old.next_group + length (rows run)) r) c.from_residual-in_err-take_source.result _ c.from_residual-in_err-take_source.ensures.1
    (c.in_err-take_source.ensures.takes (so_far.honest.0 honest) start s task one.g (rows one.gs) is_open same_mid here one.source (next_way state start s n task mid files at.waiting at.at f fs l))

pub returns-in_err-behind-clause-writes : goal.returns-in_err-behind-clause-writes
returns-in_err-behind-clause-writes g c honest start s groups run is_open same described has are is =
    let at = c.loop-source in
    let so_far = at.invariant in
    let state = g.D.Disk.state in
    let n = c.args.job in
    let old = c.args.store.now in
    let mid = at.store in
    let new = c.take_source.new.store in
    let i = at.source-index in
    let was = handles_view c.args.written.now.items in
    let files = handles_view at.written.items in
    let more = handles_view c.take_source.new.written.items in
    let task = run_task was groups is.key run old.next_group in
    let f = group_view (rc_value c.source-item.result) in
    let fs = handles_view (drop (i + 1) c.args.sources.now) in
    let split = ap (λ (xs : List (Rc CodeGroup Global)). handles_view xs) (drop_item c.args.sources.now i c.source-item.result c.loop-source-test.true c.source-item.is) in
    let l = subst (λ (xs : List FileGroup). SourcesLeft state start s n task mid files at.waiting at.at xs) split (so_far.fills honest start s groups run is_open same described has are is) in
    let one = next state start s n task mid files at.waiting at.at f fs l in
    let same_mid = ap (λ (st : Core g.row.D.Denot). st.jobs) so_far.same ∙ same in
    let here = described ∙ sym (ap (λ (st : Core g.row.D.Denot). root_of st.manifest) so_far.same) in
    let way = c.in_ok-take_source.ensures.takes (so_far.honest.0 honest) start s task one.g (rows one.gs) is_open same_mid here one.source (next_way state start s n task mid files at.waiting at.at f fs l) in
    refused (λ (r : Result (Unit {0}) Refusal). AddsAll state start new s (Some n) was more groups is.key (rows run) (old.next_group + length (rows run)) r) c.from_residual-in_err-behind.result _ c.from_residual-in_err-behind.ensures.1
    (memory_so c.in_err-behind.field-0.0 c.in_err-behind.ensures.which (λ e. IsHalted state start new s (IsPart s.options.group_rows (rows run)) (old.next_group + length (rows run)) e)
    (poor_way state start s n task new more c.take_source.new.waiting (rows one.gs) 1 way))

pub loop-source-preserved : goal.loop-source-preserved
loop-source-preserved g c =
    let at = c.loop-source in
    let so_far = at.invariant in
    let state = g.D.Disk.state in
    let n = c.args.job in
    let old = c.args.store.now in
    let mid = at.store in
    let new = c.take_source.new.store in
    let i = at.source-index in
    let was = handles_view c.args.written.now.items in
    let files = handles_view at.written.items in
    let more = handles_view c.take_source.new.written.items in
    let f = group_view (rc_value c.source-item.result) in
    let fs = handles_view (drop (i + 1) c.args.sources.now) in
    let split = ap (λ (xs : List (Rc CodeGroup Global)). handles_view xs) (drop_item c.args.sources.now i c.source-item.result c.loop-source-test.true c.source-item.is) in
    let done = c.in_ok-take_source in
    record {
      same = done.ensures.same ∙ ap (λ (st : Core g.row.D.Denot). record st { vault = new.vault; snapshots = new.snapshots; next_group = new.next_group }) so_far.same;
      failures = omega (arith, so_far.failures, done.ensures.counts);
      honest = both so_far.honest done.ensures.honest;
      goes = goes_on was files more so_far.goes done.ensures.goes;
      fit = λ were. subst (λ (r : Root). CanHave r files → CanHave r more) (ap (λ (st : Core g.row.D.Denot). root_of st.manifest) so_far.same) done.ensures.fit (so_far.fit were);
      fills = λ honest start s groups run is_open same described has are is.
          let task = run_task was groups is.key run old.next_group in
          let l = subst (λ (xs : List FileGroup). SourcesLeft state start s n task mid files at.waiting at.at xs) split (so_far.fills honest start s groups run is_open same described has are is) in
          let one = next state start s n task mid files at.waiting at.at f fs l in
          let same_mid = ap (λ (st : Core g.row.D.Denot). st.jobs) so_far.same ∙ same in
          let here = described ∙ sym (ap (λ (st : Core g.row.D.Denot). root_of st.manifest) so_far.same) in
          let way = done.ensures.takes (so_far.honest.0 honest) start s task one.g (rows one.gs) is_open same_mid here one.source (next_way state start s n task mid files at.waiting at.at f fs l) in
          then_others state start s n task mid files at.waiting at.at f fs l new more c.take_source.new.waiting c.in_ok-behind.behind c.in_ok-behind.ensures.is way;
    }

pub returns-clause-writes : goal.returns-clause-writes
returns-clause-writes g c honest start s groups run is_open same described has are is =
    let at = c.loop-source in
    let so_far = at.invariant in
    let state = g.D.Disk.state in
    let n = c.args.job in
    let mid = at.store in
    let files = handles_view at.written.items in
    let task = run_task (handles_view c.args.written.now.items) groups is.key run c.args.store.now.next_group in
    let none = ap (λ (xs : List (Rc CodeGroup Global)). handles_view xs) (drop_all c.args.sources.now at.source-index c.loop-source-test.false) in
    let l = subst (λ (xs : List FileGroup). SourcesLeft state start s n task mid files at.waiting at.at xs) none (so_far.fills honest start s groups run is_open same described has are is) in
    c.write_last.ensures.writes (so_far.honest.0 honest) start s task is_open (none_to_come state start s n task mid files at.waiting at.at l)

pub returns-clause-goes : goal.returns-clause-goes
returns-clause-goes g c = goes_then c.write_last.result (handles_view c.args.written.now.items) (handles_view c.loop-source.written.items) (handles_view c.write_last.new.written.items) c.loop-source.invariant.goes c.write_last.ensures.goes

pub returns-clause-fit : goal.returns-clause-fit
returns-clause-fit g c =
    let at = c.loop-source in
    let root = root_of c.args.store.now.manifest in
    let files = handles_view at.written.items in
    let last = handles_view c.write_last.new.written.items in
    let same = ap (λ (st : Core g.row.D.Denot). root_of st.manifest) at.invariant.same in
    on_ok_weaker {P = CanHave root files → CanHave root last} c.write_last.result (λ one were. one (at.invariant.fit were))
    (subst (λ (r : Root). OnOk c.write_last.result (CanHave r files → CanHave r last)) same c.write_last.ensures.fit)
