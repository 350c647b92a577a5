use Rattle.std.proofs.Common.{Bool, Ok, subst}
use Rattle.assemble.specs.RowSources.{TakesRowTo}
use Rattle.footer.specs.Left.{rows_stand}
use Rattle.gather.specs.GatheredRows.{gathered_shows}
use Rattle.table_changes.proofs.RowsGathered.{next_gathered}
use Rattle.table_changes.proofs.gathered_rows.gather_next.Goals as goal

pub returns-then-not-branch-clause-takes : goal.returns-then-not-branch-clause-takes
returns-then-not-branch-clause-takes c = λ left stood.
    let S = rows_stand c.args.rows.now in
    let T = rows_stand c.next_to.new.self in
    (subst (λ (b : Bool). TakesRowTo S T (gathered_shows c.begin_row.new.self) (gathered_shows c.next_to.new.sink) (Ok b)) c.if-not-branch.true c.in_ok-next_to.ensures.takes left stood).0

pub returns-clause-takes : goal.returns-clause-takes
returns-clause-takes c =
    let S = rows_stand c.args.rows.now in
    let T = rows_stand c.next_to.new.self in
    let takes = subst (λ (b : Bool). TakesRowTo S T (gathered_shows c.begin_row.new.self) (gathered_shows c.next_to.new.sink) (Ok b)) c.if-not-branch.false c.in_ok-next_to.ensures.takes in
    next_gathered S T c.args.gathered.now c.begin_row.new.self c.next_to.new.sink c.end_row.new.self c.begin_row.ensures.begins takes c.in_ok-end_row.ensures.stands
