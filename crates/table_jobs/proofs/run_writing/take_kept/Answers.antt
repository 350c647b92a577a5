use Rattle.std.proofs.Common.{◌≡◌, ◌++◌, ◌∷◌, [], true, false, List, Result, Err, length, refl, ap, sym, ◌∙◌, subst, arith}
use Rattle.std.proofs.lemmas.List.{nil_from_length}
use Rattle.std.specs.Vec.Iter.{into_iter_items}
use Rattle.bits.specs.declared.refusal.Refusal.{Refusal}
use Rattle.bits.specs.declared.refusal.Refusal.TheVariants.{Memory, RowShape}
use Rattle.bits.specs.Refusals.{HasCause}
use Rattle.schema.specs.Fits.{fits_each}
use Rattle.schema.specs.Keys.{KeyColumn, key_columns_view, row_without_keys}
use Rattle.schema.specs.declared.row.Row.{Row as CodeRow}
use Rattle.schema.specs.Views.{row_view, rows_view}
use Rattle.lists.proofs.Booleans.{iff_through as both}
use Rattle.vault.proofs.Chained.{refused}
use Rattle.shred.specs.Buffer.{schema_of, holds}
use Rattle.manifest.specs.Groups.{Root, root_of, handles_view}
use Rattle.manifest.specs.Root.{CanHave}
use Rattle.table.specs.Table.{Row}
use Rattle.table.specs.Limits.{IsPart}
use Rattle.table_state.specs.declared.standing.Core.{Core}
use Rattle.table_jobs.specs.Rewritten.{StaysUnderWay, IsHalted, AreUnderWay}
use Rattle.table_commits.proofs.GroupRemovals.{memory_so}
use Rattle.table_jobs.proofs.GroupsOfRuns.{goes_on, goes_nowhere}
use Rattle.table_jobs.proofs.RowsUnderWay.{poor_way, row_fits, row_waits}
use Rattle.table_jobs.proofs.run_writing.take_kept.Goals as goal

pub loop-row-init : goal.loop-row-init
loop-row-init g c = record {
  many = c.into_iter-row-iterator.ensures.into_iter_gives.1 ∙ (c.args.given.ok.0 ∙ ap length (sym c.into_iter-row-iterator.ensures.into_iter_gives.0));
  same = refl;
  failures = omega arith;
  honest = (λ h. h, λ h. h);
  goes = goes_nowhere (handles_view c.args.written.now.items);
  fit = λ were. were;
  takes = λ honest start s task later is_open described u.
      subst (λ (xs : List CodeRow). AreUnderWay g.D.Disk.state start c.args.store.now s c.args.job task (handles_view c.args.written.now.items) c.args.waiting.now (rows_view xs ++ later) 1) (sym c.into_iter-row-iterator.ensures.into_iter_gives.0) u;
}

-- a row that fits is refused only for memory
fits_then : (e : Refusal) → HasCause (λ x. x ≡ RowShape) e → (e ≡ RowShape → ⊥) → (P : Refusal → Type 0) → P Memory → P e
fits_then Memory cause only P p = p
fits_then RowShape cause only P p = absurd (only refl)
fits_then e cause only P p = absurd (cc)

pub returns-in_err-rest-clause-takes : goal.returns-in_err-rest-clause-takes
returns-in_err-rest-clause-takes g c honest start s task later is_open described u =
    let at = c.loop-row in
    let mid = at.store in
    let files = handles_view at.written.items in
    let now = at.invariant.takes honest start s task later is_open described u in
    refused (λ (r : Result (Unit {0}) Refusal). StaysUnderWay g.D.Disk.state start mid s c.args.job task files at.waiting later 1 r) c.from_residual.result _ c.from_residual.ensures.1
    (memory_so c.in_err-rest.field-0.0 c.in_err-rest.ensures.which (λ e. IsHalted g.D.Disk.state start mid s (IsPart s.options.group_rows task.given) task.most e)
    (poor_way g.D.Disk.state start s c.args.job task mid files at.waiting (rows_view (into_iter_items at.row-iterator) ++ later) 1 now))

pub returns-in_err-push-clause-takes : goal.returns-in_err-push-clause-takes
returns-in_err-push-clause-takes g c honest start s task later is_open described u =
    let at = c.loop-row in
    let mid = at.store in
    let files = handles_view at.written.items in
    let row = row_view c.in-Some.row in
    let others = rows_view (into_iter_items c.next.new.self) in
    let way = subst (λ (xs : List CodeRow). AreUnderWay g.D.Disk.state start mid s c.args.job task files at.waiting (rows_view xs ++ later) 1) c.in-Some.ensures.steps.0 (at.invariant.takes honest start s task later is_open described u) in
    let keys : key_columns_view c.keys.result.now ≡ s.table.keys = c.keys.ensures.are ∙ ap (λ (r : Root). r.keys) (described ∙ sym (ap (λ (st : Core g.row.D.Denot). root_of st.manifest) at.invariant.same)) ∙ way.parts.written.wrote.shows.keys in
    let rest_is = c.in_ok-rest.ensures.stands ∙ ap (λ (ks : List KeyColumn). row_without_keys ks row) keys in
    let fits = subst (λ (x : Row). fits_each (schema_of at.waiting.rows) x ≡ true) (sym rest_is) (row_fits g.D.Disk.state start s c.args.job task mid files at.waiting row (others ++ later) way) in
    let e = c.in_err-push.field-0.0 in
    refused (λ (r : Result (Unit {0}) Refusal). StaysUnderWay g.D.Disk.state start mid s c.args.job task files (record at.waiting { rows = c.push.new.self }) later 1 r) c.from_residual-in_err-push.result _ c.from_residual-in_err-push.ensures.1
    (fits_then e c.in_err-push.ensures.which (λ is. let miss = c.in_err-push.ensures.only (ap (λ (x : Refusal). Err x) is) in let clash : true ≡ false = sym fits ∙ miss in cc) (λ x. IsHalted g.D.Disk.state start mid s (IsPart s.options.group_rows task.given) task.most x)
    (poor_way g.D.Disk.state start s c.args.job task mid files at.waiting (row ∷ others ++ later) 1 way))

pub returns-in_err-write_full-clause-takes : goal.returns-in_err-write_full-clause-takes
returns-in_err-write_full-clause-takes g c honest start s task later is_open described u =
    let at = c.loop-row in
    let mid = at.store in
    let new = c.write_full.new.store in
    let files = handles_view at.written.items in
    let row = row_view c.in-Some.row in
    let others = rows_view (into_iter_items c.next.new.self) in
    let fresh = c.push.new.self in
    let way = subst (λ (xs : List CodeRow). AreUnderWay g.D.Disk.state start mid s c.args.job task files at.waiting (rows_view xs ++ later) 1) c.in-Some.ensures.steps.0 (at.invariant.takes honest start s task later is_open described u) in
    let here = described ∙ sym (ap (λ (st : Core g.row.D.Denot). root_of st.manifest) at.invariant.same) in
    let keys : key_columns_view c.keys.result.now ≡ s.table.keys = c.keys.ensures.are ∙ ap (λ (r : Root). r.keys) here ∙ way.parts.written.wrote.shows.keys in
    let rest_is = c.in_ok-rest.ensures.stands ∙ ap (λ (ks : List KeyColumn). row_without_keys ks row) keys in
    let waits = row_waits g.D.Disk.state start s c.args.job task mid files at.waiting row (others ++ later) way fresh c.in_ok-push.ensures.same_schema
    (λ taken held. subst (λ (x : Row). holds fresh (taken ++ x ∷ [])) rest_is (c.in_ok-push.ensures.stands taken held)) in
    refused (λ (r : Result (Unit {0}) Refusal). StaysUnderWay g.D.Disk.state start new s c.args.job task (handles_view c.write_full.new.written.items) c.write_full.new.waiting later 1 r) c.from_residual-in_err-write_full.result _ c.from_residual-in_err-write_full.ensures.1
    (c.in_err-write_full.ensures.writes (at.invariant.honest.0 honest) start s task (others ++ later) is_open here waits)

pub loop-row-preserved : goal.loop-row-preserved
loop-row-preserved g c =
    let at = c.loop-row in
    let so_far = at.invariant in
    let mid = at.store in
    let new = c.write_full.new.store in
    let files = handles_view at.written.items in
    let more = handles_view c.write_full.new.written.items in
    let row = row_view c.in-Some.row in
    let others = rows_view (into_iter_items c.next.new.self) in
    let fresh = c.push.new.self in
    let done = c.in_ok-write_full in
    record {
      many = let gone = c.in-Some.ensures.steps.1 in let short = ap length c.in-Some.ensures.steps.0 in let was = so_far.many in omega (arith, gone, short, was);
      same = done.ensures.same ∙ ap (λ (st : Core g.row.D.Denot). record st { vault = new.vault; snapshots = new.snapshots; next_group = new.next_group }) so_far.same;
      failures = omega (arith, so_far.failures, done.ensures.counts);
      honest = both so_far.honest done.ensures.honest;
      goes = goes_on (handles_view c.args.written.now.items) files more so_far.goes done.ensures.goes;
      fit = λ were. subst (λ (r : Root). CanHave r files → CanHave r more) (ap (λ (st : Core g.row.D.Denot). root_of st.manifest) so_far.same) done.ensures.fit (so_far.fit were);
      takes = λ honest start s task later is_open described u.
          let way = subst (λ (xs : List CodeRow). AreUnderWay g.D.Disk.state start mid s c.args.job task files at.waiting (rows_view xs ++ later) 1) c.in-Some.ensures.steps.0 (so_far.takes honest start s task later is_open described u) in
          let here = described ∙ sym (ap (λ (st : Core g.row.D.Denot). root_of st.manifest) so_far.same) in
          let keys : key_columns_view c.keys.result.now ≡ s.table.keys = c.keys.ensures.are ∙ ap (λ (r : Root). r.keys) here ∙ way.parts.written.wrote.shows.keys in
          let rest_is = c.in_ok-rest.ensures.stands ∙ ap (λ (ks : List KeyColumn). row_without_keys ks row) keys in
          let waits = row_waits g.D.Disk.state start s c.args.job task mid files at.waiting row (others ++ later) way fresh c.in_ok-push.ensures.same_schema
          (λ taken held. subst (λ (x : Row). holds fresh (taken ++ x ∷ [])) rest_is (c.in_ok-push.ensures.stands taken held)) in
          done.ensures.writes (so_far.honest.0 honest) start s task (others ++ later) is_open here waits;
    }

pub returns-clause-takes : goal.returns-clause-takes
returns-clause-takes g c honest start s task later is_open described u =
    let at = c.loop-row in
    let empty : into_iter_items at.row-iterator ≡ [] = nil_from_length (into_iter_items at.row-iterator) (sym at.invariant.many ∙ c.in-None.ensures.steps.0) in
    subst (λ (xs : List CodeRow). AreUnderWay g.D.Disk.state start at.store s c.args.job task (handles_view at.written.items) at.waiting (rows_view xs ++ later) 1) empty (at.invariant.takes honest start s task later is_open described u)
