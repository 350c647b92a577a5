use Rattle.std.proofs.Common.{◌≡◌, Bool, List, Ok, sym, subst, arith}
use Rattle.bits.proofs.Passing.{passes}
use Rattle.bits.specs.Refusals.{HasCause}
use Rattle.bits.specs.declared.refusal.Refusal.TheVariants.{Device}
use Rattle.schema.specs.Values.{ValueTrees}
use Rattle.rowtext.specs.Rows.{BeginsLineAs, AddsNextLine}
use Rattle.scan.specs.Left.{rows_stand}
use Rattle.answers.specs.inner.Gathering.{AreGathered}
use Rattle.answers.proofs.FirstOf.{none_passed, enough_passed}
use Rattle.answers.proofs.GatheredLines.{none_yet, line_more, line_none}
use Rattle.answers.proofs.printing.gather_lines.Goals as goal

pub loop-count-init : goal.loop-count-init
loop-count-init g c = record {
  gathers = λ texts fs all begins s fit.
      let old = g.W.Write.contents c.args.out.now in
      none_passed (λ (rows : List ValueTrees). AreGathered texts fs rows c.args.text.now old old) (rows_stand c.args.rows.now) all (none_yet texts fs c.args.text.now old begins) s;
  within = λ most is. omega arith;
}

pub loop-count-preserved : goal.loop-count-preserved
loop-count-preserved g c = record {
  gathers = λ texts fs all begins s fit.
      let at = c.loop-count in
      let contents = g.W.Write.contents in
      let old = contents c.args.out.now in
      let mid = contents at.out in
      let new = contents c.write_full.new.out in
      let S = rows_stand at.rows in
      let T = rows_stand c.put_next.new.rows in
      let to = c.put_next.new.self in
      let p = at.invariant.gathers texts fs all begins s fit in
      let lines = p.has.gathered in
      let one = subst (λ (b : Bool). AddsNextLine texts fs S T (BeginsLineAs texts to fs) lines (Ok b)) c.if-not-branch.false (c.in_ok-put_next.ensures.puts texts fs lines p.has.gathers) in
      line_more texts fs S at.count all at.text old mid p T to c.write_full.new.text new fit one (λ rows. c.in_ok-write_full.ensures.gathered texts fs rows old);
  within = λ most is. let end = c.most_of-count-end.ensures most is in let more = c.loop-count-test.true in omega (arith, end, more);
}

pub returns-then-not-branch-clause-gathers : goal.returns-then-not-branch-clause-gathers
returns-then-not-branch-clause-gathers g c = λ texts fs all begins s fit.
    let at = c.loop-count in
    let S = rows_stand at.rows in
    let T = rows_stand c.put_next.new.rows in
    let to = c.put_next.new.self in
    let p = at.invariant.gathers texts fs all begins s fit in
    let lines = p.has.gathered in
    let none = subst (λ (b : Bool). AddsNextLine texts fs S T (BeginsLineAs texts to fs) lines (Ok b)) c.if-not-branch.true (c.in_ok-put_next.ensures.puts texts fs lines p.has.gathers) in
    line_none texts fs S at.count all at.text (g.W.Write.contents c.args.out.now) (g.W.Write.contents at.out) p T to c.args.limit at.invariant.within none

pub returns-in-Some-clause-gathers : goal.returns-in-Some-clause-gathers
returns-in-Some-clause-gathers g c = λ texts fs all begins s fit.
    let at = c.loop-count in
    let p = at.invariant.gathers texts fs all begins s fit in
    let is = c.in-Some.is in
    let over = c.loop-count-test.false in
    let end = c.most_of-count-end.ensures _ is in
    let within = at.invariant.within _ is in
    enough_passed (λ (rows : List ValueTrees). AreGathered texts fs rows at.text (g.W.Write.contents c.args.out.now) (g.W.Write.contents at.out)) (rows_stand at.rows) at.count all p c.args.limit _ is (omega (arith, over, end, within))

pub returns-in_err-put_next-clause-which : goal.returns-in_err-put_next-clause-which
returns-in_err-put_next-clause-which g c = λ texts fs all begins s fit.
    let p = c.loop-count.invariant.gathers texts fs all begins s fit in
    passes (HasCause (λ e. e ≡ Device)) c.from_residual.result c.in_err-put_next.field-0.0 c.from_residual.ensures.1
    (subst (HasCause (λ e. e ≡ Device)) (sym (c.in_err-put_next.ensures.puts texts fs p.has.gathered p.has.gathers p.left p.stands)) tt)
