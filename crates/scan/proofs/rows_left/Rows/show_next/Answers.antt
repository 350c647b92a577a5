use Rattle.std.proofs.Common.{ap}
use Rattle.bits.specs.Faults.{refusal_of}
use Rattle.scan.specs.Left.{rows_stand}
use Rattle.scan.proofs.Taken.{passes_shown, show_one, one_memory, none_left, takes_later}
use Rattle.scan.proofs.rows_left.Rows.show_next.Goals as goal

pub returns-in_err-pass_others-clause-takes : goal.returns-in_err-pass_others-clause-takes
returns-in_err-pass_others-clause-takes g c =
    let from = g.K.RowSink.shows c.args.sink.now in
    passes_shown (rows_stand c.args.self.now) (rows_stand c.pass_others.new.self) from from c.from_residual.result c.in_err-pass_others.field-0.0 c.from_residual.ensures.1 c.in_err-pass_others.ensures.only

pub returns-then-self-eq0-clause-takes : goal.returns-then-self-eq0-clause-takes
returns-then-self-eq0-clause-takes g c rows s = none_left c.pass_others.new.self c.if-self-eq0.true rows (c.in_ok-pass_others.ensures.passes rows s)

pub returns-in-Ok-clause-takes : goal.returns-in-Ok-clause-takes
returns-in-Ok-clause-takes g c =
    let mid = c.pass_others.new.self in
    let new = c.show_first.new.self in
    let from = g.K.RowSink.shows c.args.sink.now in
    let to = g.K.RowSink.shows c.show_first.new.sink in
    takes_later (rows_stand c.args.self.now) (rows_stand mid) (rows_stand new) from to c.in_ok-pass_others.ensures.passes
    (show_one mid new from to c.if-self-eq0.false c.in-Ok.ensures.shows (c.in_ok-pass_others.ensures.selected c.if-self-eq0.false))

pub returns-in-Err-clause-takes : goal.returns-in-Err-clause-takes
returns-in-Err-clause-takes g c rows s =
    let mid = c.pass_others.new.self in
    let from = g.K.RowSink.shows c.args.sink.now in
    ap refusal_of (one_memory mid c.show_first.new.self from from c.if-self-eq0.false c.in-Err.fault c.in-Err.ensures.only rows (c.in_ok-pass_others.ensures.passes rows s))
