use Rattle.std.proofs.Common.{◌≡◌, Bool, true, List, Ok, refl, sym, subst, arith}
use Rattle.std.specs.Io.KnownBytes.{Appends}
use Rattle.std.proofs.KnownBytes.{Appends-trans, Appends-nil}
use Rattle.bits.proofs.Passing.{passes}
use Rattle.bits.specs.Faults.{refusal_of}
use Rattle.bits.specs.Refusals.{HasCause}
use Rattle.bits.specs.declared.refusal.Refusal.TheVariants.{Device}
use Rattle.schema.specs.Values.{ValueTrees}
use Rattle.assemble.specs.Sinks.{Token}
use Rattle.schema.specs.Shape.{no_fields}
use Rattle.row_group.specs.Left.{TakesRowTo}
use Rattle.scan.specs.Left.{rows_stand}
use Rattle.answers.specs.Querying.{row_line, row_lines}
use Rattle.answers.proofs.FirstOf.{none_passed, passed_more, all_passed, enough_passed}
use Rattle.answers.proofs.GatheredLines.{lines_more}
use Rattle.answers.proofs.printing.print_empty_rows.Goals as goal

pub loop-count-init : goal.loop-count-init
loop-count-init g c = record {
  prints = λ texts all s.
      let old = g.W.Write.contents c.args.out.now in
      none_passed (λ (rows : List ValueTrees). Appends old old (row_lines texts no_fields rows)) (rows_stand c.args.rows.now) all (Appends-nil old) s;
  within = λ most is. omega arith;
}

pub loop-count-preserved : goal.loop-count-preserved
loop-count-preserved g c = record {
  prints = λ texts all s.
      let at = c.loop-count in
      let contents = g.W.Write.contents in
      let old = contents c.args.out.now in
      let mid = contents at.out in
      let new = contents c.write_text.new.out in
      let S = rows_stand at.rows in
      let T = rows_stand c.show_next.new.self in
      let p = at.invariant.prints texts all s in
      let takes = subst (λ (b : Bool). TakesRowTo S T (λ (ts : List Token). Unit {0}) (λ (ts : List Token). Unit {0}) (Ok b)) c.if-not-branch.false c.in_ok-show_next.ensures.takes in
      let t = takes p.left p.stands in
      let line = row_line texts no_fields t.first in
      let both = Appends-trans old mid new (row_lines texts no_fields p.given) line p.has c.in_ok-write_text.ensures.written in
      passed_more (λ (rows : List ValueTrees). Appends old mid (row_lines texts no_fields rows)) (λ (rows : List ValueTrees). Appends old new (row_lines texts no_fields rows)) S T at.count all p t.first t.rest t.split t.stands
      (subst (Appends old new) (sym (lines_more texts no_fields p.given t.first)) both);
  within = λ most is. let end = c.most_of-count-end.ensures most is in let more = c.loop-count-test.true in omega (arith, end, more);
}

pub returns-then-not-branch-clause-printed : goal.returns-then-not-branch-clause-printed
returns-then-not-branch-clause-printed g c = λ texts all s.
    let at = c.loop-count in
    let S = rows_stand at.rows in
    let T = rows_stand c.show_next.new.self in
    let p = at.invariant.prints texts all s in
    let takes = subst (λ (b : Bool). TakesRowTo S T (λ (ts : List Token). Unit {0}) (λ (ts : List Token). Unit {0}) (Ok b)) c.if-not-branch.true c.in_ok-show_next.ensures.takes in
    let none = takes p.left p.stands in
    let h = all_passed (λ (rows : List ValueTrees). Appends (g.W.Write.contents c.args.out.now) (g.W.Write.contents at.out) (row_lines texts no_fields rows)) S at.count all p c.args.limit at.invariant.within none.0 in
    record { many = h.0; written = h.1; again = refl }

pub returns-in-Some-clause-printed : goal.returns-in-Some-clause-printed
returns-in-Some-clause-printed g c = λ texts all s.
    let at = c.loop-count in
    let p = at.invariant.prints texts all s in
    let is = c.in-Some.is in
    let over = c.loop-count-test.false in
    let end = c.most_of-count-end.ensures _ is in
    let within = at.invariant.within _ is in
    let h = enough_passed (λ (rows : List ValueTrees). Appends (g.W.Write.contents c.args.out.now) (g.W.Write.contents at.out) (row_lines texts no_fields rows)) (rows_stand at.rows) at.count all p c.args.limit _ is
    (omega (arith, over, end, within)) in
    record { many = h.0; written = h.1; again = refl }

pub returns-in_err-show_next-clause-which : goal.returns-in_err-show_next-clause-which
returns-in_err-show_next-clause-which g c = λ all s.
    let p = c.loop-count.invariant.prints true all s in
    passes (HasCause (λ e. e ≡ Device)) c.from_residual.result (refusal_of c.in_err-show_next.field-0.0) c.from_residual.ensures.1
    (subst (HasCause (λ e. e ≡ Device)) (sym (c.in_err-show_next.ensures.takes p.left p.stands)) tt)
