use Rattle.std.proofs.Common.{Bool, Ok, subst}
use Rattle.assemble.specs.inner.Building.{builder_shows}
use Rattle.row_group.specs.Left.{TakesRowTo}
use Rattle.row_group.proofs.RowsTaken.{takes_made}
use Rattle.scan.specs.Left.{rows_stand}
use Rattle.scan.proofs.Taken.{passes_row}
use Rattle.scan.proofs.rows_left.Rows.next.Goals as goal

pub returns-in_err-next_to : goal.returns-in_err-next_to
returns-in_err-next_to c = record {
  takes = passes_row (rows_stand c.args.self.now) (rows_stand c.next_to.new.self) c.from_residual-in_err-next_to.result c.in_err-next_to.field-0.0 c.from_residual-in_err-next_to.ensures.1 c.in_err-next_to.ensures.takes;
}

pub returns-then-branch : goal.returns-then-branch
returns-then-branch c =
    let S = rows_stand c.args.self.now in
    let T = rows_stand c.next_to.new.self in
    let from = builder_shows c.in_ok-builder.builder in
    let to = builder_shows c.next_to.new.sink in
    record {
      takes = takes_made S T from to c.into_row.result c.in_ok-builder.ensures.empty c.into_row.ensures.row (subst (λ (b : Bool). TakesRowTo S T from to (Ok b)) c.if-branch.true c.in_ok-next_to.ensures.takes);
    }
