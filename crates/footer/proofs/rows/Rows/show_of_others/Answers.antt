use Rattle.std.proofs.Common.{List, ap, ◌∙◌}
use Rattle.std.specs.Prelude.{false, Ok}
use Rattle.schema.specs.Values.{ValueTrees}
use Rattle.footer.specs.Left.{rows_stand, others_hold, BeginsGroup}
use Rattle.footer.proofs.Taken.{passes_fault}
use Rattle.footer.proofs.rows.Rows.show_of_others.Goals as goal

pub returns-in_err-begin_group-clause-takes : goal.returns-in_err-begin_group-clause-takes
returns-in_err-begin_group-clause-takes g c =
    passes_fault (others_hold c.args.self.now) (rows_stand c.begin_group.new.self) (g.K.RowSink.shows c.args.sink.now) (g.K.RowSink.shows c.loop-self.sink) c.from_residual.result c.in_err-begin_group.field-0.0
    c.from_residual.ensures.1 (λ rows s. c.in_err-begin_group.ensures.begins rows (c.loop-self.invariant.held rows s))

pub returns-in_err-next_of_group-clause-takes : goal.returns-in_err-next_of_group-clause-takes
returns-in_err-next_of_group-clause-takes g c =
    let begins : (rows : List ValueTrees) → others_hold c.loop-self.self rows → rows_stand c.begin_group.new.self rows = rw c.if-branch.true at c.in_ok-begin_group.ensures.begins in
    passes_fault (others_hold c.args.self.now) (rows_stand c.next_of_group.new.self) (g.K.RowSink.shows c.args.sink.now) (g.K.RowSink.shows c.next_of_group.new.sink) c.from_residual-in_err-next_of_group.result c.in_err-next_of_group.field-0.0
    c.from_residual-in_err-next_of_group.ensures.1 (λ rows s. c.in_err-next_of_group.ensures.takes rows (begins rows (c.loop-self.invariant.held rows s)))

pub returns-clause-takes : goal.returns-clause-takes
returns-clause-takes g c =
    let begins : BeginsGroup c.loop-self.self c.begin_group.new.self (Ok false) = rw c.if-branch.false at c.in_ok-begin_group.ensures.begins in
    λ rows s. begins rows (c.loop-self.invariant.held rows s)

pub returns-in_err-begin_group-clause-base_stays : goal.returns-in_err-begin_group-clause-base_stays
returns-in_err-begin_group-clause-base_stays g c = ap g.K.RowSink.base c.loop-self.invariant.unshown

pub returns-in_err-next_of_group-clause-base_stays : goal.returns-in_err-next_of_group-clause-base_stays
returns-in_err-next_of_group-clause-base_stays g c = c.next_of_group.ensures.base_stays ∙ ap g.K.RowSink.base c.loop-self.invariant.unshown

pub returns-clause-base_stays : goal.returns-clause-base_stays
returns-clause-base_stays g c = ap g.K.RowSink.base c.loop-self.invariant.unshown
