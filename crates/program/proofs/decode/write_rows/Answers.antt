use Rattle.std.proofs.Common.{◌≡◌, [], refl, sym, subst, ◌∙◌}
use Rattle.std.proofs.lemmas.Result.{on_ok_weaker}
use Rattle.bits.proofs.Passing.{passes}
use Rattle.bits.specs.Refusals.{HasCause}
use Rattle.bits.specs.declared.refusal.Refusal.TheVariants.{Device}
use Rattle.schema.specs.Shape.{Fields}
use Rattle.footer.specs.Left.{rows_stand}
use Rattle.rowtext.specs.Rows.{BeginsLineAs}
use Rattle.program.proofs.Printed.{none_yet, none_left, some_gathered, part_written, all_printed}
use Rattle.program.proofs.decode.write_rows.Goals as goal

pub returns-in_err-count-clause-which : goal.returns-in_err-count-clause-which
returns-in_err-count-clause-which g c = λ all s fit.
    let old = g.W.Write.contents c.args.out.now in
    let mid = g.W.Write.contents c.more.out in
    passes (HasCause (λ e. e ≡ Device)) c.from_residual-in_err-count.result c.in_err-count.field-0.0 c.from_residual-in_err-count.ensures.1
    (subst (HasCause (λ e. e ≡ Device)) (sym (c.in_err-count.ensures.puts c.args.texts c.args.schema.now all old mid (c.more.invariant.gathers all s fit))) tt)

pub returns-then-count-eq0-clause-stands : goal.returns-then-count-eq0-clause-stands
returns-then-count-eq0-clause-stands g c = λ all s fit.
    let fs = c.args.schema.now in
    let old = g.W.Write.contents c.args.out.now in
    let mid = g.W.Write.contents c.more.out in
    let S = rows_stand c.put_lines.new.rows in
    let Gathers = BeginsLineAs c.args.texts c.put_lines.new.text fs in
    let none = none_left c.args.texts fs S Gathers all old mid c.in_ok-count.count c.if-count-eq0.true (c.in_ok-count.ensures.puts c.args.texts fs all old mid (c.more.invariant.gathers all s fit)) in
    let p = none.0 in
    on_ok_weaker c.write_whole.result (all_printed c.args.texts fs S Gathers all old mid (g.W.Write.contents c.write_whole.new.out) c.lines.result.now p none.1 (c.lines.ensures.lines_as c.args.texts fs p.gathered p.gathers)) c.write_whole.ensures.stands

pub more-init : goal.more-init
more-init g c = record {
  gathers = λ all s fit.
      let fs = c.args.schema.now in
      none_yet c.args.texts fs (rows_stand c.args.rows.now) (BeginsLineAs c.args.texts c.new-text.result fs) all (g.W.Write.contents c.args.out.now) s fit
      (subst (λ (f : Fields). BeginsLineAs c.args.texts c.new-text.result f []) c.in_ok-plan.ensures.prints (c.new-text.ensures.begins_as c.args.texts c.in_ok-plan.ensures.ready));
  quiet = λ hidden. refl;
  same = refl;
}

pub more-preserved : goal.more-preserved
more-preserved g c = record {
  gathers = λ all s fit.
      let fs = c.args.schema.now in
      let old = g.W.Write.contents c.args.out.now in
      let mid = g.W.Write.contents c.more.out in
      let S = rows_stand c.put_lines.new.rows in
      let Gathers = BeginsLineAs c.args.texts c.put_lines.new.text fs in
      let p = some_gathered c.args.texts fs S Gathers all old mid c.in_ok-count.count c.if-count-eq0.false (c.in_ok-count.ensures.puts c.args.texts fs all old mid (c.more.invariant.gathers all s fit)) in
      part_written c.args.texts fs S Gathers (BeginsLineAs c.args.texts c.write_full.new.text fs) all old mid (g.W.Write.contents c.write_full.new.out) p (c.in_ok-write_full.ensures.stands c.args.texts fs p.gathered p.gathers);
  quiet = λ hidden. c.count_rows.ensures.quiet (c.more.invariant.same ∙ hidden) ∙ c.more.invariant.quiet hidden;
  same = c.count_rows.ensures.same ∙ c.more.invariant.same;
}
