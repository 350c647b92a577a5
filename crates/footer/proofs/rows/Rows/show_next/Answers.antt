use Rattle.std.proofs.Common.{◌≡◌, List, Ok, ap, subst, ◌∙◌}
use Rattle.schema.specs.Values.{ValueTrees}
use Rattle.footer.specs.Left.{rows_stand, others_hold, with_refusal, TakesRowTo}
use Rattle.footer.proofs.Taken.{passes_fault, takes_later}
use Rattle.footer.proofs.rows.Rows.show_next.Goals as goal

pub returns-in_err-next_of_group-clause-takes : goal.returns-in_err-next_of_group-clause-takes
returns-in_err-next_of_group-clause-takes g c =
    passes_fault (rows_stand c.args.self.now) (rows_stand c.next_of_group.new.self) (g.K.RowSink.shows c.args.sink.now) (g.K.RowSink.shows c.next_of_group.new.sink) c.from_residual.result c.in_err-next_of_group.field-0.0 c.from_residual.ensures.1
    c.in_err-next_of_group.ensures.takes

pub returns-clause-takes : goal.returns-clause-takes
returns-clause-takes g c =
    let shows = g.K.RowSink.shows in
    let S = rows_stand c.args.self.now in
    let R = others_hold c.next_of_group.new.self in
    let T = rows_stand c.show_of_others.new.self in
    let to = shows c.show_of_others.new.sink in
    let r = with_refusal c.show_of_others.result in
    let others : (rows : List ValueTrees) → S rows → R rows = rw c.if-branch.false at c.in_ok-next_of_group.ensures.takes in
    let same : c.next_of_group.new.sink ≡ c.args.sink.now = c.in_ok-next_of_group.ensures.unshown (ap Ok c.if-branch.false) in
    takes_later S R T (shows c.args.sink.now) to r others (subst (λ sink. TakesRowTo R T (shows sink) to r) same c.show_of_others.ensures.takes)

pub returns-clause-base_stays : goal.returns-clause-base_stays
returns-clause-base_stays g c = c.show_of_others.ensures.base_stays ∙ c.next_of_group.ensures.base_stays
