use Rattle.std.proofs.Common.{[], ◌∷◌, ◌++◌, subst, ◌∙◌}
use Rattle.std.specs.Str.Lines.{lines}
use Rattle.std.proofs.lemmas.Iterator.Consumers.{YieldsList-at, YieldsList-so_far, YieldsList-turn, YieldsList-end}
use Rattle.std.proofs.lemmas.Iterator.Splits.{YieldsList-from_lines}
use Rattle.bits.specs.Refusals.{HasCause}
use Rattle.bits.proofs.Passing.{passes}
use Rattle.schema.specs.Shape.{Fields}
use Rattle.program.specs.Program.{HasFirstFault, IsRefusedLine, IsRowText}
use Rattle.program.proofs.Told.{told_one_more, told_all, refused_first}
use Rattle.program.proofs.encode.check_lines.Goals as goal

pub returns-clause-stands : goal.returns-clause-stands
returns-clause-stands c =
    let all = YieldsList-at c.into_iter-line-iterator.ensures.into_iter_gives (YieldsList-from_lines c.args.text.now c.lines-line-items.ensures.rest) in
    let whole = YieldsList-end all c.loop-line.yielded _ c.loop-line.yielded_by _ _ c.in-None.is c.next.ensures.steps in
    let read = c.loop-line.invariant.0 in
    (read.0, told_all c.args.texts c.args.schema.now c.loop-line.yielded _ read.0 whole.0 read.1)

pub returns-in_err-show_line-clause-which : goal.returns-in_err-show_line-clause-which
returns-in_err-show_line-clause-which c =
    let all = YieldsList-at c.into_iter-line-iterator.ensures.into_iter_gives (YieldsList-from_lines c.args.text.now c.lines-line-items.ensures.rest) in
    let so_far = YieldsList-so_far all c.loop-line.yielded _ c.loop-line.yielded_by in
    let here = YieldsList-turn all c.loop-line.yielded _ c.loop-line.yielded_by _ _ c.in-Some.line c.in-Some.is c.next.ensures.steps in
    let which = subst (λ (t : Fields). HasCause (IsRefusedLine c.args.texts t c.in-Some.line.now) c.in_err-show_line.field-0.0) c.loop-line.invariant.1 c.in_err-show_line.ensures.which in
    passes (HasCause (HasFirstFault c.args.texts c.args.schema.now (lines c.args.text.now))) c.from_residual-in_err-show_line.result c.in_err-show_line.field-0.0 c.from_residual-in_err-show_line.ensures.1
    (refused_first c.args.texts c.args.schema.now c.loop-line.yielded c.in-Some.line (lines c.args.text.now) _ so_far here c.loop-line.invariant.0.1 c.in_err-show_line.field-0.0 which)

pub loop-line-preserved : goal.loop-line-preserved
loop-line-preserved c =
    let l = c.loop-line in
    let fs = c.args.schema.now in
    let shown = c.in_ok-show_line.ensures.stands in
    let row = shown.0 in
    let is : IsRowText c.args.texts fs c.in-Some.line.now row = subst (λ (t : Fields). IsRowText c.args.texts t c.in-Some.line.now row) l.invariant.1 (shown.1.0.0, shown.1.0.1.0, shown.1.0.1.1.0) in
    ((l.invariant.0.0 ++ row ∷ [], told_one_more c.args.texts fs l.yielded l.invariant.0.0 c.in-Some.line row is l.invariant.0.1), c.in_ok-show_line.ensures.same ∙ l.invariant.1)
