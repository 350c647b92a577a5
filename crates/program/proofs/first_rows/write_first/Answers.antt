use Rattle.std.proofs.Common.{◌≡◌, ◌-◌, ◌+◌, [], Bool, Ok, take, sym, subst, arith}
use Rattle.std.proofs.lemmas.Result.{on_ok_weaker}
use Rattle.bits.proofs.Passing.{passes}
use Rattle.bits.specs.Refusals.{HasCause}
use Rattle.bits.specs.declared.refusal.Refusal.TheVariants.{Device}
use Rattle.schema.specs.Shape.{Fields}
use Rattle.footer.specs.Left.{rows_stand}
use Rattle.rowtext.specs.Rows.{BeginsLineAs, AddsNextLine}
use Rattle.program.specs.inner.Copied.{FirstStand}
use Rattle.program.proofs.Copied.{fit_first, first_stand, first_taken, none_taken, first_over}
use Rattle.program.proofs.Printed.{none_yet, line_more, line_none, part_written, all_printed}
use Rattle.program.proofs.first_rows.write_first.Goals as goal

pub loop-count-init : goal.loop-count-init
loop-count-init g c = λ all s fit.
    let fs = c.args.schema.now in
    let n = c.args.limit in
    none_yet c.args.texts fs (FirstStand (rows_stand c.args.rows.now) fs (n - 0)) (BeginsLineAs c.args.texts c.new-text.result fs) (take n all) (g.W.Write.contents c.args.out.now) (first_stand (rows_stand c.args.rows.now) fs n (n - 0) all (omega arith) s fit) (fit_first fs n all fit)
    (subst (λ (f : Fields). BeginsLineAs c.args.texts c.new-text.result f []) c.in_ok-plan.ensures.prints (c.new-text.ensures.begins_as c.args.texts c.in_ok-plan.ensures.ready))

pub loop-count-preserved : goal.loop-count-preserved
loop-count-preserved g c = λ all s fit.
    let fs = c.args.schema.now in
    let n = c.args.limit - c.loop-count.count in
    let m = c.args.limit - (c.loop-count.count + 1) in
    let old = g.W.Write.contents c.args.out.now in
    let mid = g.W.Write.contents c.loop-count.out in
    let S = rows_stand c.loop-count.rows in
    let T = rows_stand c.put_next.new.rows in
    let Gathers = BeginsLineAs c.args.texts c.loop-count.text fs in
    let Again = BeginsLineAs c.args.texts c.put_next.new.self fs in
    let p = c.loop-count.invariant all s fit in
    let one = subst (λ (b : Bool). AddsNextLine c.args.texts fs S T Again p.gathered (Ok b)) c.if-not-branch.false (c.in_ok-put_next.ensures.puts c.args.texts fs p.gathered p.gathers) in
    let q = line_more c.args.texts fs (FirstStand S fs n) (FirstStand T fs m) Gathers Again (take c.args.limit all) old mid p (first_taken c.args.texts fs S T Again n m p.gathered p.left (omega (arith, c.loop-count-test.true)) p.stands one) in
    part_written c.args.texts fs (FirstStand T fs m) Again (BeginsLineAs c.args.texts c.write_full.new.text fs) (take c.args.limit all) old mid (g.W.Write.contents c.write_full.new.out) q (c.in_ok-write_full.ensures.stands c.args.texts fs q.gathered q.gathers)

pub returns-then-not-branch-clause-stands : goal.returns-then-not-branch-clause-stands
returns-then-not-branch-clause-stands g c = λ all s fit.
    let fs = c.args.schema.now in
    let n = c.args.limit - c.loop-count.count in
    let old = g.W.Write.contents c.args.out.now in
    let mid = g.W.Write.contents c.loop-count.out in
    let S = rows_stand c.loop-count.rows in
    let T = rows_stand c.put_next.new.rows in
    let Gathers = BeginsLineAs c.args.texts c.loop-count.text fs in
    let Again = BeginsLineAs c.args.texts c.put_next.new.self fs in
    let p = c.loop-count.invariant all s fit in
    let none = subst (λ (b : Bool). AddsNextLine c.args.texts fs S T Again p.gathered (Ok b)) c.if-not-branch.true (c.in_ok-put_next.ensures.puts c.args.texts fs p.gathered p.gathers) in
    let q = line_none c.args.texts fs (FirstStand S fs n) (FirstStand T fs n) Gathers Again (take c.args.limit all) old mid p (none_taken c.args.texts fs S T Again n p.gathered p.left p.stands none) in
    on_ok_weaker c.write_whole.result
    (all_printed c.args.texts fs (FirstStand T fs n) Again (take c.args.limit all) old mid (g.W.Write.contents c.write_whole.new.out) c.lines.result.now q.0 q.1 (c.lines.ensures.lines_as c.args.texts fs q.0.gathered q.0.gathers)) c.write_whole.ensures.stands

pub returns-clause-stands : goal.returns-clause-stands
returns-clause-stands g c = λ all s fit.
    let fs = c.args.schema.now in
    let n = c.args.limit - c.loop-count.count in
    let old = g.W.Write.contents c.args.out.now in
    let mid = g.W.Write.contents c.loop-count.out in
    let S = rows_stand c.loop-count.rows in
    let Gathers = BeginsLineAs c.args.texts c.loop-count.text fs in
    let p = c.loop-count.invariant all s fit in
    on_ok_weaker c.write_whole-2.result
    (all_printed c.args.texts fs (FirstStand S fs n) Gathers (take c.args.limit all) old mid (g.W.Write.contents c.write_whole-2.new.out) c.lines-2.result.now p (first_over fs S n p.left (omega (arith, c.loop-count-test.false)) p.stands)
    (c.lines-2.ensures.lines_as c.args.texts fs p.gathered p.gathers)) c.write_whole-2.ensures.stands

pub returns-in_err-put_next-clause-which : goal.returns-in_err-put_next-clause-which
returns-in_err-put_next-clause-which g c = λ all s fit.
    let p = c.loop-count.invariant all s fit in
    passes (HasCause (λ e. e ≡ Device)) c.from_residual-in_err-put_next.result c.in_err-put_next.field-0.0 c.from_residual-in_err-put_next.ensures.1
    (subst (HasCause (λ e. e ≡ Device)) (sym (c.in_err-put_next.ensures.puts c.args.texts c.args.schema.now p.gathered p.gathers p.stands.all p.stands.stands)) tt)
