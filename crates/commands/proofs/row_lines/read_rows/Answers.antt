use Rattle.std.proofs.Common.{◌∙◌, subst}
use Rattle.std.specs.Str.Lines.{lines}
use Rattle.std.proofs.lemmas.Iterator.Consumers.{YieldsList-at, YieldsList-so_far, YieldsList-turn, YieldsList-end}
use Rattle.std.proofs.lemmas.Iterator.Splits.{YieldsList-from_lines}
use Rattle.bits.specs.Refusals.{HasCause}
use Rattle.bits.proofs.Passing.{passes}
use Rattle.schema.specs.Shape.{Fields}
use Rattle.schema.specs.Views.{row_view, rows_view}
use Rattle.commands.specs.RowLines.{HasFirstFault, IsRefusedLine, IsRowText}
use Rattle.commands.proofs.Told.{told_one_more, told_all, refused_first}
use Rattle.commands.proofs.row_lines.read_rows.Goals as goal

pub returns-clause-stands : goal.returns-clause-stands
returns-clause-stands g c =
    let all = YieldsList-at c.into_iter-line-iterator.ensures.into_iter_gives (YieldsList-from_lines c.args.text.now c.lines-line-items.ensures.rest) in
    let whole = YieldsList-end all c.loop-line.yielded _ c.loop-line.yielded_by _ _ c.in-None.is c.next.ensures.steps in
    told_all c.args.texts c.args.schema.now c.loop-line.yielded _ (rows_view c.loop-line.rows.items) whole.0 c.loop-line.invariant.read

pub returns-in_err-row-clause-which : goal.returns-in_err-row-clause-which
returns-in_err-row-clause-which g c =
    let all = YieldsList-at c.into_iter-line-iterator.ensures.into_iter_gives (YieldsList-from_lines c.args.text.now c.lines-line-items.ensures.rest) in
    let so_far = YieldsList-so_far all c.loop-line.yielded _ c.loop-line.yielded_by in
    let here = YieldsList-turn all c.loop-line.yielded _ c.loop-line.yielded_by _ _ c.in-Some.line c.in-Some.is c.next.ensures.steps in
    let which = subst (λ (t : Fields). HasCause (IsRefusedLine c.args.texts t c.in-Some.line.now) c.in_err-row.field-0.0) c.loop-line.invariant.fields c.in_err-row.ensures.which in
    passes (HasCause (HasFirstFault c.args.texts c.args.schema.now (lines c.args.text.now))) c.from_residual-in_err-row.result c.in_err-row.field-0.0 c.from_residual-in_err-row.ensures.1
    (refused_first c.args.texts c.args.schema.now c.loop-line.yielded c.in-Some.line (lines c.args.text.now) _ so_far here c.loop-line.invariant.read c.in_err-row.field-0.0 which)

pub loop-line-preserved : goal.loop-line-preserved
loop-line-preserved g c =
    let l = c.loop-line in
    let row = c.in_ok-row.row in
    let is : IsRowText c.args.texts c.args.schema.now c.in-Some.line.now (row_view row) = subst (λ (t : Fields). IsRowText c.args.texts t c.in-Some.line.now (row_view row)) l.invariant.fields c.in_ok-row.ensures.stands in
    record {
      read = rw c.in_ok-push.ensures.items (told_one_more c.args.texts c.args.schema.now l.yielded l.rows.items c.in-Some.line row is l.invariant.read);
      fields = c.in_ok-row.ensures.same ∙ l.invariant.fields;
      quiet = λ hidden. c.count_row.ensures.quiet (l.invariant.same ∙ hidden) ∙ l.invariant.quiet hidden;
      same = c.count_row.ensures.same ∙ l.invariant.same;
    }
