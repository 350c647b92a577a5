use Rattle.std.proofs.Common.{◌≡◌, ◌++◌, Bool, Ok, refl, sym, ap, subst}
use Rattle.bits.specs.declared.refusal.Refusal.TheVariants.{Memory}
use Rattle.bits.specs.Refusals.{HasCause}
use Rattle.bits.proofs.Passing.{passes}
use Rattle.schema.specs.Shape.{Fields}
use Rattle.schema.specs.Fits.{RowsFit}
use Rattle.footer.specs.Left.{rows_stand}
use Rattle.gather.specs.declared.gathered.Gathered.{Gathered}
use Rattle.gather.specs.GatheredRows.{holds}
use Rattle.table_commits.specs.Gathering.{GathersNext}
use Rattle.table_changes.proofs.RowsGathered.{none_yet, one_more, all_there}
use Rattle.table_commits.proofs.RowsGathered.{keeps_on}
use Rattle.table_changes.proofs.gathered_rows.gather_accepted.Goals as goal

pub rows-init : goal.rows-init
rows-init c = record {
  held = λ before rows held has fit. none_yet (rows_stand c.rows-rows.result) c.args.gathered.now before rows (c.rows-rows.ensures rows has) held;
  some = λ rows has. (rows, c.rows-rows.ensures rows has);
  table = record { schema = refl; columns = refl; size = refl };
}

pub rows-preserved : goal.rows-preserved
rows-preserved c =
    let so_far = c.rows.invariant in
    let S = rows_stand c.rows.rows in
    let T = rows_stand c.gather_next.new.rows in
    let new = c.gather_next.new.gathered in
    let next = subst (λ (b : Bool). GathersNext S T c.rows.gathered new (Ok b)) c.if-not-branch.false c.in_ok-gather_next.ensures.takes in
    record {
      held = λ before rows held has fit. one_more S T c.rows.gathered new before rows (subst (λ (fs : Fields). RowsFit fs rows) (sym so_far.table.schema) fit) next (so_far.held before rows held has fit);
      some = λ rows has. let here = so_far.some rows has in let n = next here.0 here.1 in (n.rest, n.stands);
      table = keeps_on so_far.table c.in_ok-gather_next.ensures.table;
    }

pub returns-then-not-branch-clause-held : goal.returns-then-not-branch-clause-held
returns-then-not-branch-clause-held c = λ before rows held has fit.
    let so_far = c.rows.invariant in
    let S = rows_stand c.rows.rows in
    let T = rows_stand c.gather_next.new.rows in
    let next = subst (λ (b : Bool). GathersNext S T c.rows.gathered c.gather_next.new.gathered (Ok b)) c.if-not-branch.true c.in_ok-gather_next.ensures.takes in
    let way = so_far.held before rows held has fit in
    subst (λ (g : Gathered). holds g (before ++ rows)) (sym (c.in_ok-gather_next.ensures.same (ap Ok c.if-not-branch.true))) (all_there S c.rows.gathered before rows way (next way.left way.stands))

pub returns-then-not-branch-clause-table : goal.returns-then-not-branch-clause-table
returns-then-not-branch-clause-table c = keeps_on c.rows.invariant.table c.in_ok-gather_next.ensures.table

pub returns-in_err-gather_next-clause-table : goal.returns-in_err-gather_next-clause-table
returns-in_err-gather_next-clause-table c = keeps_on c.rows.invariant.table c.in_err-gather_next.ensures.table

pub returns-in_err-gather_next-clause-only : goal.returns-in_err-gather_next-clause-only
returns-in_err-gather_next-clause-only c = λ rows has.
    let here = c.rows.invariant.some rows has in
    let e = c.in_err-gather_next.field-0.0 in
    let memory : e ≡ Memory = c.in_err-gather_next.ensures.takes here.0 here.1 in
    passes (HasCause (λ _. ⊥)) c.from_residual.result e c.from_residual.ensures.1 (subst (HasCause (λ _. ⊥)) (sym memory) tt)
