use Rattle.std.proofs.Common.{Bool, Ok, subst}
use Rattle.assemble.specs.inner.Building.{builder_shows}
use Rattle.row_group.specs.Left.{rows_stand, TakesRowTo}
use Rattle.row_group.proofs.RowsTaken.{takes_made}
use Rattle.row_group.proofs.rows.Rows.next.Goals as goal

pub returns-then-branch-clause-takes : goal.returns-then-branch-clause-takes
returns-then-branch-clause-takes c =
    let S = rows_stand c.args.self.now in
    let T = rows_stand c.next_to.new.self in
    let from = builder_shows c.in-Ok.builder in
    let to = builder_shows c.next_to.new.sink in
    takes_made S T from to c.into_row.result c.in-Ok.ensures.empty c.into_row.ensures.row
    (subst (λ (b : Bool). TakesRowTo S T from to (Ok b)) c.if-branch.true c.in_ok-next_to.ensures.takes)
