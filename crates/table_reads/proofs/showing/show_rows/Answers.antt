use Rattle.std.proofs.Common.{◌≡◌, ◌++◌, Bool, Ok, sym, ◌∙◌, ap, subst, refl}
use Rattle.bits.specs.declared.refusal.Refusal.TheVariants.{Memory}
use Rattle.bits.specs.Refusals.{HasCause}
use Rattle.bits.proofs.Passing.{passes}
use Rattle.schema.specs.Shape.{Fields}
use Rattle.schema.specs.Fits.{RowsFit}
use Rattle.scan.specs.Left.{rows_stand}
use Rattle.shred.specs.declared.row_buffer.RowBuffer.{RowBuffer}
use Rattle.shred.specs.Buffer.{holds}
use Rattle.table_commits.specs.Showing.{AddsNext}
use Rattle.table_commits.proofs.RowsInBuffers.{none_added, one_added, all_added}
use Rattle.table_reads.proofs.showing.show_rows.Goals as goal

pub rows-init : goal.rows-init
rows-init c = record {
  held = λ rows held has fit held_now. none_added (rows_stand c.in_ok-rows.rows) c.args.buffer.now held rows (c.in_ok-rows.ensures.stands rows has) held_now;
  some = λ rows has. (rows, c.in_ok-rows.ensures.stands rows has);
  schema = refl;
}

pub rows-preserved : goal.rows-preserved
rows-preserved c =
    let so_far = c.rows.invariant in
    let S = rows_stand c.rows.rows in
    let T = rows_stand c.show_next.new.rows in
    let new = c.show_next.new.buffer in
    let next = subst (λ (b : Bool). AddsNext S T c.rows.buffer new (Ok b)) c.if-not-branch.false c.in_ok-show_next.ensures.adds in
    record {
      held = λ rows held has fit held_now. one_added S T c.rows.buffer new held rows (subst (λ (fs : Fields). RowsFit fs rows) (sym so_far.schema) fit) next (so_far.held rows held has fit held_now);
      some = λ rows has. let here = so_far.some rows has in let n = next here.0 here.1 in (n.rest, n.stands);
      schema = c.in_ok-show_next.ensures.same_schema ∙ so_far.schema;
    }

pub returns-then-not-branch-clause-shown : goal.returns-then-not-branch-clause-shown
returns-then-not-branch-clause-shown c = λ rows held has fit held_now.
    let S = rows_stand c.rows.rows in
    let T = rows_stand c.show_next.new.rows in
    let next = subst (λ (b : Bool). AddsNext S T c.rows.buffer c.show_next.new.buffer (Ok b)) c.if-not-branch.true c.in_ok-show_next.ensures.adds in
    let are = c.rows.invariant.held rows held has fit held_now in
    subst (λ (b : RowBuffer). holds b (held ++ rows)) (sym (c.in_ok-show_next.ensures.same (ap Ok c.if-not-branch.true))) (all_added S c.rows.buffer held rows are (next are.left are.stands))

pub returns-in_err-rows-clause-only : goal.returns-in_err-rows-clause-only
returns-in_err-rows-clause-only c = λ rows has.
    passes (HasCause (λ _. ⊥)) c.from_residual.result c.in_err-rows.field-0.0 c.from_residual.ensures.1 (c.in_err-rows.ensures.only rows has)

pub returns-in_err-show_next-clause-only : goal.returns-in_err-show_next-clause-only
returns-in_err-show_next-clause-only c = λ rows has.
    let here = c.rows.invariant.some rows has in
    let e = c.in_err-show_next.field-0.0 in
    let memory : e ≡ Memory = c.in_err-show_next.ensures.adds here.0 here.1 in
    passes (HasCause (λ _. ⊥)) c.from_residual-in_err-show_next.result e c.from_residual-in_err-show_next.ensures.1 (subst (HasCause (λ _. ⊥)) (sym memory) tt)
