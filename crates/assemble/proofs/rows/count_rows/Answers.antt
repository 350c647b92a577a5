use Rattle.std.proofs.Common.{◌∙◌, ◌∷◌, ◌++◌, List, [], Bool, Ok, arith, subst}
use Rattle.std.proofs.lemmas.List.{length-append}
use Rattle.assemble.specs.Sinks.{Token}
use Rattle.assemble.specs.declared.sink.Discard.{Discard}
use Rattle.assemble.specs.RowsOf.{HasFault, NextRowTo}
use Rattle.assemble.proofs.RowByRow.{next, prior_next, one_more_fits, faulty_rest}
use Rattle.assemble.proofs.Standing.{refused_up, refused_ok}
use Rattle.assemble.proofs.WholeColumns.{only_faults}
use Rattle.assemble.proofs.rows.count_rows.Goals as goal

pub returns-in_err-next_row_to-clause-which : goal.returns-in_err-next_row_to-clause-which
returns-in_err-next_row_to-clause-which g c =
    let fs = c.args.schema.now in
    let e = c.in_err-next_row_to.field-0.0 in
    let new = c.next_row_to.new.sources in
    refused_ok _ c.from_residual.result e c.from_residual.ensures.1
    (refused_up g.S.EntrySource.stands g.S.EntrySource.refused g.S.EntrySource.cause c.args.sources.now new c.loop-count.sources new (HasFault fs) (HasFault fs) e (λ h. h) (λ k. k ∙ c.loop-count.invariant.kept) c.loop-count.invariant.stay
    (λ cs s. let w = c.loop-count.invariant.onward cs s in (w.0, (w.1.0, faulty_rest fs cs w.0 e w.1.1))) c.in_err-next_row_to.ensures.row)

pub returns-in_err-next_row_to-clause-only : goal.returns-in_err-next_row_to-clause-only
returns-in_err-next_row_to-clause-only g c =
    let S = g.S.EntrySource.stands in
    let R = g.S.EntrySource.refused in
    let fs = c.args.schema.now in
    let e = c.in_err-next_row_to.field-0.0 in
    let new = c.next_row_to.new.sources in
    refused_ok _ c.from_residual.result e c.from_residual.ensures.1
    (only_faults S R g.S.EntrySource.cause c.args.sources.now new fs e
    (refused_up S R g.S.EntrySource.cause c.args.sources.now new c.loop-count.sources new (HasFault fs) (HasFault fs) e (λ h. h) (λ k. k ∙ c.loop-count.invariant.kept) c.loop-count.invariant.stay
    (λ cs s. let w = c.loop-count.invariant.onward cs s in (w.0, (w.1.0, faulty_rest fs cs w.0 e w.1.1))) c.in_err-next_row_to.ensures.row))

pub loop-count-preserved : goal.loop-count-preserved
loop-count-preserved g c =
    let S = g.S.EntrySource.stands in
    let fs = c.args.schema.now in
    let xs = c.loop-count.sources in
    let new = c.next_row_to.new.sources in
    let shows : Discard → List Token → Type 0 = λ _ _. Unit {0} in
    let found = subst (λ (b : Bool). NextRowTo S g.S.EntrySource.refused g.S.EntrySource.cause shows fs xs new _ c.next_row_to.new.sink (Ok b)) c.if-not-branch.false c.in_ok-next_row_to.ensures.row in
    let seen = c.loop-count.invariant.seen in
    let rows = seen.0 in
    let row = found.1.0 in
    let read = found.1.1.0 in
    record {
      kept = found.0 ∙ c.loop-count.invariant.kept;
      stay = λ e h. c.loop-count.invariant.stay e (c.next_row_to.ensures.causes_stay e h);
      onward = λ cs s.
          let w = c.loop-count.invariant.onward cs s in
          let u = read.1.0 w.0 w.1.0 in
          (u.0, (u.1.0, next fs cs w.0 u.0 row w.1.1 u.1.1));
      seen = (
        rows ++ row ∷ [],
        (
          let both = length-append rows (row ∷ []) in let many = seen.1.0 in omega (arith, both, many),
          (
            one_more_fits fs rows row seen.1.1.0 read.0,
            λ ds s.
                let u = read.1.1 ds s in
                let w = seen.1.1.1 u.0 u.1.0 in
                (w.0, (w.1.0, prior_next fs w.0 u.0 ds rows row w.1.1 u.1.1)),
          ),
        ),
      );
    }
