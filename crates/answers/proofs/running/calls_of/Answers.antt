use Rattle.std.specs.Str.Lines.{lines}
use Rattle.std.proofs.lemmas.Iterator.Consumers.{YieldsList-at, YieldsList-so_far, YieldsList-turn, YieldsList-end}
use Rattle.std.proofs.lemmas.Iterator.Splits.{YieldsList-from_lines}
use Rattle.bits.specs.Refusals.{HasCause}
use Rattle.bits.proofs.Passing.{passes}
use Rattle.table.specs.Views.{calls_view}
use Rattle.jsonrows.specs.Scripts.{next_schema}
use Rattle.answers.specs.Lines.{HasFirstFaultOfCalls}
use Rattle.answers.proofs.Called.{called_one_more, called_all, refused_first}
use Rattle.answers.proofs.running.calls_of.Goals as goal

pub returns-clause-stands : goal.returns-clause-stands
returns-clause-stands c =
    let all = YieldsList-at c.into_iter-line-iterator.ensures.into_iter_gives (YieldsList-from_lines c.args.text.now c.lines-line-items.ensures.rest) in
    let whole = YieldsList-end all c.loop-line.yielded _ c.loop-line.yielded_by _ _ c.in-None.is c.next.ensures.steps in
    (next_schema c.loop-line.reader, called_all c.args.texts c.args.schema.now (next_schema c.loop-line.reader) c.loop-line.yielded _ (calls_view c.loop-line.calls.items) whole.0 c.loop-line.invariant)

pub returns-in_err-call-clause-which : goal.returns-in_err-call-clause-which
returns-in_err-call-clause-which c =
    let all = YieldsList-at c.into_iter-line-iterator.ensures.into_iter_gives (YieldsList-from_lines c.args.text.now c.lines-line-items.ensures.rest) in
    let so_far = YieldsList-so_far all c.loop-line.yielded _ c.loop-line.yielded_by in
    let here = YieldsList-turn all c.loop-line.yielded _ c.loop-line.yielded_by _ _ c.in-Some.line c.in-Some.is c.next.ensures.steps in
    passes (HasCause (HasFirstFaultOfCalls c.args.texts c.args.schema.now (lines c.args.text.now))) c.from_residual-in_err-call.result c.in_err-call.field-0.0 c.from_residual-in_err-call.ensures.1
    (refused_first c.args.texts c.args.schema.now (next_schema c.loop-line.reader) c.loop-line.yielded c.in-Some.line (lines c.args.text.now) _ so_far here c.loop-line.invariant c.in_err-call.field-0.0 c.in_err-call.ensures.which)

pub loop-line-preserved : goal.loop-line-preserved
loop-line-preserved c =
    let l = c.loop-line in
    rw c.in_ok-push.ensures.items (called_one_more c.args.texts c.args.schema.now (next_schema l.reader) (next_schema c.read_as.new.self) l.yielded l.calls.items c.in-Some.line c.in_ok-call.call c.in_ok-call.ensures.stands c.in_ok-call.ensures.after l.invariant)
