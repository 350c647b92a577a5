use Rattle.std.proofs.Common.{Bool, Ok, subst}
use Rattle.assemble.specs.RowSources.{TakesRowTo}
use Rattle.scan.specs.Left.{rows_stand}
use Rattle.shred.specs.Buffer.{buffer_shows}
use Rattle.table_commits.proofs.RowsInBuffers.{next_added}
use Rattle.table_reads.proofs.showing.show_next.Goals as goal

pub returns-then-not-branch-clause-adds : goal.returns-then-not-branch-clause-adds
returns-then-not-branch-clause-adds c = λ left stood.
    let S = rows_stand c.args.rows.now in
    let T = rows_stand c.next_to.new.self in
    (subst (λ (b : Bool). TakesRowTo S T (buffer_shows c.args.buffer.now) (buffer_shows c.next_to.new.sink) (Ok b)) c.if-not-branch.true c.in_ok-next_to.ensures.takes left stood).0

pub returns-clause-adds : goal.returns-clause-adds
returns-clause-adds c =
    let S = rows_stand c.args.rows.now in
    let T = rows_stand c.next_to.new.self in
    let takes = subst (λ (b : Bool). TakesRowTo S T (buffer_shows c.args.buffer.now) (buffer_shows c.next_to.new.sink) (Ok b)) c.if-not-branch.false c.in_ok-next_to.ensures.takes in
    next_added S T c.args.buffer.now c.next_to.new.sink c.end_row.new.self takes c.in_ok-end_row.ensures.stands
