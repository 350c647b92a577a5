use Rattle.std.proofs.Common.{◌∙◌, ◌∷◌, [], Option, Ok, sym, ap, subst, refl, inr}
use Rattle.std.proofs.lemmas.List.{map-append}
use Rattle.schema.specs.declared.row.Row.{Row}
use Rattle.schema.specs.Fits.{RowsFit}
use Rattle.schema.specs.Views.{rows_view, row_view}
use Rattle.assemble.specs.RowsOf.{HasFault, NextRow}
use Rattle.assemble.proofs.RowByRow.{Prior, begins, next, prior_next, one_more_fits, faulty_rest}
use Rattle.assemble.proofs.Standing.{refused_up, refused_ok}
use Rattle.assemble.proofs.WholeColumns.{only_faults}
use Rattle.assemble.proofs.rows.assemble_from.Goals as goal

pub more-init : goal.more-init
more-init g c =
    let none = sym (ap rows_view c.new-rows.ensures.items) in
    record {
      kept = refl;
      stay = λ _ h. h;
      fit = subst (RowsFit c.args.schema.now) none tt;
      onward = λ cs s. (cs, (s, begins c.args.schema.now cs));
      backward = λ ds s. (ds, (s, subst (λ rows. Prior c.args.schema.now rows ds ds) none (λ rest e. e)));
    }

pub returns-in_err-next_row-clause-which : goal.returns-in_err-next_row-clause-which
returns-in_err-next_row-clause-which g c =
    let fs = c.args.schema.now in
    let e = c.in_err-next_row.field-0.0 in
    refused_ok _ c.from_residual.result e c.from_residual.ensures.1
    (refused_up g.S.EntrySource.stands g.S.EntrySource.refused g.S.EntrySource.cause c.args.sources.now c.next_row.new.sources c.more.sources c.next_row.new.sources (HasFault fs) (HasFault fs) e (λ h. h) (λ k. k ∙ c.more.invariant.kept) c.more.invariant.stay
    (λ cs s. let w = c.more.invariant.onward cs s in (w.0, (w.1.0, faulty_rest fs cs w.0 e w.1.1))) c.in_err-next_row.ensures.row)

pub returns-in_err-next_row-clause-only : goal.returns-in_err-next_row-clause-only
returns-in_err-next_row-clause-only g c =
    let S = g.S.EntrySource.stands in
    let R = g.S.EntrySource.refused in
    let fs = c.args.schema.now in
    let e = c.in_err-next_row.field-0.0 in
    refused_ok _ c.from_residual.result e c.from_residual.ensures.1
    (only_faults S R g.S.EntrySource.cause c.args.sources.now c.next_row.new.sources fs e
    (refused_up S R g.S.EntrySource.cause c.args.sources.now c.next_row.new.sources c.more.sources c.next_row.new.sources (HasFault fs) (HasFault fs) e (λ h. h) (λ k. k ∙ c.more.invariant.kept) c.more.invariant.stay
    (λ cs s. let w = c.more.invariant.onward cs s in (w.0, (w.1.0, faulty_rest fs cs w.0 e w.1.1))) c.in_err-next_row.ensures.row))

pub more-preserved : goal.more-preserved
more-preserved g c =
    let S = g.S.EntrySource.stands in
    let R = g.S.EntrySource.refused in
    let fs = c.args.schema.now in
    let old = c.args.sources.now in
    let xs = c.more.sources in
    let new = c.next_row.new.sources in
    let rows = rows_view c.more.rows.items in
    let row = row_view c.in-Some.row in
    let read = subst (λ (o : Option Row). NextRow S R g.S.EntrySource.cause fs xs new (Ok o)) c.in-Some.is c.in_ok-next_row.ensures.row in
    let more = sym (ap rows_view c.in_ok-push-in-Some.ensures.items ∙ map-append row_view c.more.rows.items (c.in-Some.row ∷ [])) in
    record {
      kept = read.0 ∙ c.more.invariant.kept;
      stay = λ e h. c.more.invariant.stay e (c.next_row.ensures.causes_stay e h);
      fit = subst (RowsFit fs) more (one_more_fits fs rows row c.more.invariant.fit read.1.0);
      onward = λ cs s.
          let w = c.more.invariant.onward cs s in
          let u = read.1.1.0 w.0 w.1.0 in
          (u.0, (u.1.0, next fs cs w.0 u.0 row w.1.1 u.1.1));
      backward = λ ds s.
          let u = read.1.1.1 ds s in
          let w = c.more.invariant.backward u.0 u.1.0 in
          (w.0, (w.1.0, subst (λ rs. Prior fs rs w.0 ds) more (prior_next fs w.0 u.0 ds rows row w.1.1 u.1.1)));
    }

pub returns-clause-which : goal.returns-clause-which
returns-clause-which g c = inr (c.more.invariant.kept, (tt, λ cs s. tt))
