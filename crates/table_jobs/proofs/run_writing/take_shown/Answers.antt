use Rattle.std.proofs.Common.{◌≡◌, ◌++◌, ◌∷◌, [], Bool, List, Result, Ok, Err, map, refl, ap, sym, ◌∙◌, subst, arith}
use Rattle.std.specs.Prelude.{IsTrue}
use Rattle.bits.specs.declared.refusal.Refusal.{Refusal}
use Rattle.bits.specs.declared.refusal.Refusal.TheVariants.{Memory}
use Rattle.schema.specs.Fits.{fits_each}
use Rattle.schema.specs.Keys.{row_without_keys}
use Rattle.lists.proofs.Booleans.{iff_through as both}
use Rattle.vault.proofs.Chained.{refused}
use Rattle.scan.specs.Left.{rows_stand}
use Rattle.shred.specs.declared.row_buffer.RowBuffer.{RowBuffer}
use Rattle.shred.specs.Buffer.{schema_of, holds}
use Rattle.manifest.specs.Groups.{Root, root_of, handles_view}
use Rattle.manifest.specs.Root.{CanHave}
use Rattle.table.specs.Table.{Row}
use Rattle.table.specs.Limits.{IsPart}
use Rattle.table_state.specs.declared.standing.Core.{Core}
use Rattle.table_state.specs.Promises.{IsSure}
use Rattle.table_jobs.specs.Rewritten.{StaysUnderWay, IsHalted, AreUnderWay}
use Rattle.table_commits.specs.Showing.{AddsNext}
use Rattle.table_commits.proofs.GroupRemovals.{memory_so}
use Rattle.table_jobs.proofs.GroupsOfRuns.{goes_on, goes_nowhere}
use Rattle.table_jobs.proofs.RowsUnderWay.{poor_way, row_fits, row_waits, first_of, none_of}
use Rattle.table_jobs.proofs.run_writing.take_shown.Goals as goal

pub rows-init : goal.rows-init
rows-init g c = record {
  same = refl;
  failures = omega arith;
  honest = (λ h. h, λ h. h);
  goes = goes_nowhere (handles_view c.args.written.now.items);
  fit = λ were. were;
  some = λ given has. (given, c.in_ok-rows.ensures.stands given has);
  takes = λ honest start s task given later is_open described has u. (given, c.in_ok-rows.ensures.stands (map (row_without_keys s.table.keys) given) has, u);
}

pub returns-in_err-rows-clause-takes : goal.returns-in_err-rows-clause-takes
returns-in_err-rows-clause-takes g c honest start s task given later is_open described has u =
    let old = c.args.store.now in
    let files = handles_view c.args.written.now.items in
    refused (λ (r : Result (Unit {0}) Refusal). StaysUnderWay g.D.Disk.state start old s c.args.job task files c.args.waiting.now later 1 r) c.from_residual.result _ c.from_residual.ensures.1
    (memory_so c.in_err-rows.field-0.0 (c.in_err-rows.ensures.only (map (row_without_keys s.table.keys) given) has) (λ e. IsHalted g.D.Disk.state start old s (IsPart s.options.group_rows task.given) task.most e)
    (poor_way g.D.Disk.state start s c.args.job task old files c.args.waiting.now (given ++ later) 1 u))

pub returns-in_err-rows-clause-sure : goal.returns-in_err-rows-clause-sure
returns-in_err-rows-clause-sure g c given has =
    refused (λ (r : Result (Unit {0}) Refusal). IsSure r) c.from_residual.result _ c.from_residual.ensures.1
    (memory_so c.in_err-rows.field-0.0 (c.in_err-rows.ensures.only given has) (λ e. IsSure {T = Unit {0}} (Err e)) (λ is. cc))

pub returns-then-not-branch-clause-takes : goal.returns-then-not-branch-clause-takes
returns-then-not-branch-clause-takes g c honest start s task given later is_open described has u =
    let at = c.rows in
    let mid = at.store in
    let files = handles_view at.written.items in
    let cut = row_without_keys s.table.keys in
    let now = at.invariant.takes honest start s task given later is_open described has u in
    let ends = subst (λ (b : Bool). AddsNext (rows_stand at.rows) (rows_stand c.show_next.new.rows) at.waiting.rows c.show_next.new.buffer (Ok b)) c.if-not-branch.true c.in_ok-show_next.ensures.adds in
    let none = none_of cut now.0 (ends (map cut now.0) now.1) in
    subst (λ (b : RowBuffer). AreUnderWay g.D.Disk.state start mid s c.args.job task files (record at.waiting { rows = b }) later 1) (sym (c.in_ok-show_next.ensures.same (ap Ok c.if-not-branch.true)))
    (subst (λ (xs : List Row). AreUnderWay g.D.Disk.state start mid s c.args.job task files at.waiting (xs ++ later) 1) none now.2)

pub returns-in_err-show_next-clause-takes : goal.returns-in_err-show_next-clause-takes
returns-in_err-show_next-clause-takes g c honest start s task given later is_open described has u =
    let at = c.rows in
    let mid = at.store in
    let files = handles_view at.written.items in
    let now = at.invariant.takes honest start s task given later is_open described has u in
    let memory : c.in_err-show_next.field-0.0 ≡ Memory = c.in_err-show_next.ensures.adds (map (row_without_keys s.table.keys) now.0) now.1 in
    refused (λ (r : Result (Unit {0}) Refusal). StaysUnderWay g.D.Disk.state start mid s c.args.job task files (record at.waiting { rows = c.show_next.new.buffer }) later 1 r) c.from_residual-in_err-show_next.result _ c.from_residual-in_err-show_next.ensures.1
    (subst (λ (e : Refusal). IsHalted g.D.Disk.state start mid s (IsPart s.options.group_rows task.given) task.most e) (sym memory) (poor_way g.D.Disk.state start s c.args.job task mid files at.waiting (now.0 ++ later) 1 now.2))

pub returns-in_err-show_next-clause-sure : goal.returns-in_err-show_next-clause-sure
returns-in_err-show_next-clause-sure g c given has =
    let here = c.rows.invariant.some given has in
    let memory : c.in_err-show_next.field-0.0 ≡ Memory = c.in_err-show_next.ensures.adds here.0 here.1 in
    refused (λ (r : Result (Unit {0}) Refusal). IsSure r) c.from_residual-in_err-show_next.result _ c.from_residual-in_err-show_next.ensures.1
    (subst (λ (e : Refusal). IsSure {T = Unit {0}} (Err e)) (sym memory) (λ is. cc))

pub returns-in_err-write_full-clause-takes : goal.returns-in_err-write_full-clause-takes
returns-in_err-write_full-clause-takes g c honest start s task given later is_open described has u =
    let at = c.rows in
    let so_far = at.invariant in
    let mid = at.store in
    let new = c.write_full.new.store in
    let files = handles_view at.written.items in
    let cut = row_without_keys s.table.keys in
    let S = rows_stand at.rows in
    let T = rows_stand c.show_next.new.rows in
    let fresh = c.show_next.new.buffer in
    let now = so_far.takes honest start s task given later is_open described has u in
    let adds = subst (λ (b : Bool). AddsNext S T at.waiting.rows fresh (Ok b)) c.if-not-branch.false c.in_ok-show_next.ensures.adds (map cut now.0) now.1 in
    let f = first_of cut now.0 adds.first adds.rest adds.split in
    let way = subst (λ (xs : List Row). AreUnderWay g.D.Disk.state start mid s c.args.job task files at.waiting (xs ++ later) 1) f.is now.2 in
    let fits = row_fits g.D.Disk.state start s c.args.job task mid files at.waiting f.row (f.others ++ later) way in
    let waits = row_waits g.D.Disk.state start s c.args.job task mid files at.waiting f.row (f.others ++ later) way fresh c.in_ok-show_next.ensures.same_schema
    (λ taken held. subst (λ (x : Row). holds fresh (taken ++ x ∷ [])) f.first_is (adds.held taken held (subst (λ (x : Row). IsTrue (fits_each (schema_of at.waiting.rows) x)) (sym f.first_is) fits))) in
    let here = described ∙ sym (ap (λ (st : Core g.row.D.Denot). root_of st.manifest) so_far.same) in
    refused (λ (r : Result (Unit {0}) Refusal). StaysUnderWay g.D.Disk.state start new s c.args.job task (handles_view c.write_full.new.written.items) c.write_full.new.waiting later 1 r) c.from_residual-in_err-write_full.result _ c.from_residual-in_err-write_full.ensures.1
    (c.in_err-write_full.ensures.writes (so_far.honest.0 honest) start s task (f.others ++ later) is_open here waits)

pub rows-preserved : goal.rows-preserved
rows-preserved g c =
    let at = c.rows in
    let so_far = at.invariant in
    let mid = at.store in
    let new = c.write_full.new.store in
    let files = handles_view at.written.items in
    let more = handles_view c.write_full.new.written.items in
    let S = rows_stand at.rows in
    let T = rows_stand c.show_next.new.rows in
    let fresh = c.show_next.new.buffer in
    let next = subst (λ (b : Bool). AddsNext S T at.waiting.rows fresh (Ok b)) c.if-not-branch.false c.in_ok-show_next.ensures.adds in
    let done = c.in_ok-write_full in
    record {
      same = done.ensures.same ∙ ap (λ (st : Core g.row.D.Denot). record st { vault = new.vault; snapshots = new.snapshots; next_group = new.next_group }) so_far.same;
      failures = omega (arith, so_far.failures, done.ensures.counts);
      honest = both so_far.honest done.ensures.honest;
      goes = goes_on (handles_view c.args.written.now.items) files more so_far.goes done.ensures.goes;
      fit = λ were. subst (λ (r : Root). CanHave r files → CanHave r more) (ap (λ (st : Core g.row.D.Denot). root_of st.manifest) so_far.same) done.ensures.fit (so_far.fit were);
      some = λ given has. let here = so_far.some given has in let n = next here.0 here.1 in (n.rest, n.stands);
      takes = λ honest start s task given later is_open described has u.
          let cut = row_without_keys s.table.keys in
          let now = so_far.takes honest start s task given later is_open described has u in
          let adds = next (map cut now.0) now.1 in
          let f = first_of cut now.0 adds.first adds.rest adds.split in
          let way = subst (λ (xs : List Row). AreUnderWay g.D.Disk.state start mid s c.args.job task files at.waiting (xs ++ later) 1) f.is now.2 in
          let fits = row_fits g.D.Disk.state start s c.args.job task mid files at.waiting f.row (f.others ++ later) way in
          let waits = row_waits g.D.Disk.state start s c.args.job task mid files at.waiting f.row (f.others ++ later) way fresh c.in_ok-show_next.ensures.same_schema
          (λ taken held. subst (λ (x : Row). holds fresh (taken ++ x ∷ [])) f.first_is (adds.held taken held (subst (λ (x : Row). IsTrue (fits_each (schema_of at.waiting.rows) x)) (sym f.first_is) fits))) in
          let here = described ∙ sym (ap (λ (st : Core g.row.D.Denot). root_of st.manifest) so_far.same) in
          (f.others, subst (λ (xs : List Row). T xs) f.rest_is adds.stands, done.ensures.writes (so_far.honest.0 honest) start s task (f.others ++ later) is_open here waits);
    }

pub returns-clause-takes : goal.returns-clause-takes
returns-clause-takes g c honest start s task given later is_open described has u =
    let at = c.rows in
    let now = at.invariant.takes honest start s task given later is_open described has u in
    poor_way g.D.Disk.state start s c.args.job task at.store (handles_view at.written.items) at.waiting (now.0 ++ later) 1 now.2
