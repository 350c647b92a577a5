use Rattle.std.proofs.Common.{Bool, Ok, ap, refl, subst}
use Rattle.bits.specs.declared.refusal.Refusal.TheVariants.{Memory}
use Rattle.assemble.specs.RowSources.{TakesRowTo}
use Rattle.rowtext.specs.Rows.{text_shows, BeginsLineAs}
use Rattle.rowtext.proofs.NextLines.{line_added, none_added, next_refused}
use Rattle.rowtext.proofs.row_text.RowText.put_next.Goals as goal

pub returns-in_err-next_to : goal.returns-in_err-next_to
returns-in_err-next_to g c = record {
  puts = λ texts fs lines begins.
      let S = g.S.RowSource.stands in
      next_refused texts fs (S c.args.rows.now) (S c.next_to.new.self) (BeginsLineAs texts c.next_to.new.sink fs) lines c.from_residual.result c.in_err-next_to.field-0.0 c.from_residual.ensures.1 c.in_err-next_to.ensures.takes;
}

pub returns-then-not-branch : goal.returns-then-not-branch
returns-then-not-branch g c = record {
  puts = λ texts fs lines begins.
      let S = g.S.RowSource.stands in
      none_added texts fs (S c.args.rows.now) (S c.next_to.new.self) c.args.self.now c.next_to.new.sink lines begins (c.in_ok-next_to.ensures.unshown (ap Ok c.if-not-branch.true))
      (subst (λ (b : Bool). TakesRowTo (S c.args.rows.now) (S c.next_to.new.self) (text_shows c.args.self.now) (text_shows c.next_to.new.sink) (Ok b)) c.if-not-branch.true c.in_ok-next_to.ensures.takes);
}

pub returns-in_err-end_row : goal.returns-in_err-end_row
returns-in_err-end_row g c = record {
  puts = λ texts fs lines begins.
      let S = g.S.RowSource.stands in
      next_refused texts fs (S c.args.rows.now) (S c.next_to.new.self) (BeginsLineAs texts c.end_row.new.self fs) lines c.from_residual-in_err-end_row.result Memory c.from_residual-in_err-end_row.ensures.1 (λ rows s. refl);
}

pub returns : goal.returns
returns g c = record {
  puts = λ texts fs lines begins.
      let S = g.S.RowSource.stands in
      line_added texts fs (S c.args.rows.now) (S c.next_to.new.self) c.args.self.now c.next_to.new.sink c.end_row.new.self lines begins
      (subst (λ (b : Bool). TakesRowTo (S c.args.rows.now) (S c.next_to.new.self) (text_shows c.args.self.now) (text_shows c.next_to.new.sink) (Ok b)) c.if-not-branch.false c.in_ok-next_to.ensures.takes)
      (c.in_ok-end_row.ensures.stands_as texts fs lines);
}
