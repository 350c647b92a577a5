use Rattle.std.proofs.Common.{List, OnOk, map, refl, sym, subst}
use Rattle.std.specs.Str.Lines.{lines}
use Rattle.vault.proofs.Chained.{refused}
use Rattle.bits.specs.declared.refusal.Refusal.{Refusal}
use Rattle.schema.specs.Shape.{Fields}
use Rattle.table.specs.declared.answer.Answer.{Answer}
use Rattle.table.specs.declared.call.Call.{Call}
use Rattle.table.specs.Views.{call_view, calls_view, answer_view}
use Rattle.jsonrows.specs.Answers.{answer_json_as}
use Rattle.store.specs.Running.{RunsFrom}
use Rattle.answers.specs.Lines.{AreRefusedCalls}
use Rattle.answers.specs.Making.{RunsScriptFrom, ran, not_run}
use Rattle.answers.proofs.Answered.{ArePrinted}
use Rattle.answers.proofs.running.run_script.Goals as goal

pub returns-in_err-calls : goal.returns-in_err-calls
returns-in_err-calls g c = record {
  runs = λ honest s stands.
      let old = c.args.store.now in
      let is = c.schema.ensures s stands in
      let e = c.in_err-calls.field-0.0 in
      let held = g.W.Write.contents c.args.out.now in
      refused (λ r. RunsScriptFrom g.D.Disk.state c.args.texts old old c.args.text.now held held r s) c.from_residual.result e c.from_residual.ensures.1
      (not_run e (subst (λ (t : Fields). AreRefusedCalls c.args.texts t (lines c.args.text.now) e) is c.in_err-calls.ensures.which) refl refl refl);
}

pub returns-in_err-answers : goal.returns-in_err-answers
returns-in_err-answers g c = record {
  runs = λ honest s stands.
      let old = c.args.store.now in
      let e = c.in_err-answers.field-0.0 in
      let held = g.W.Write.contents c.args.out.now in
      refused (λ r. RunsScriptFrom g.D.Disk.state c.args.texts old c.run.new.self c.args.text.now held held r s) c.from_residual-in_err-answers.result e c.from_residual-in_err-answers.ensures.1
      (not_run e (subst (λ (x : Refusal). AreRefusedCalls c.args.texts s.table.schema (lines c.args.text.now) x) (sym c.in_err-answers.ensures.memory) tt) refl c.in_err-answers.ensures.unchanged refl);
}

pub returns : goal.returns
returns g c = record {
  runs = λ honest s stands.
      let is = c.schema.ensures s stands in
      let calls = calls_view c.in_ok-calls.calls.items in
      let told = c.in_ok-calls.ensures.stands in
      let answers = c.in_ok-answers.answers.items in
      let old = c.args.store.now in
      let new = c.run.new.self in
      let before = g.W.Write.contents c.args.out.now in
      let after = g.W.Write.contents c.print_answers.new.out in
      let runs : RunsFrom g.D.Disk.state old new calls (map answer_view answers) s =
      subst (λ (xs : List Call). RunsFrom g.D.Disk.state old new (map call_view xs) (map answer_view answers) s) c.as_slice.ensures.value (c.in_ok-answers.ensures.headline honest s stands) in
      let of_slice = subst (λ (xs : List Answer). OnOk c.print_answers.result (ArePrinted (answer_json_as c.args.texts c.schema-2.result.now) xs before after)) c.as_slice-2.ensures.value c.print_answers.ensures.printed in
      let printed = subst (λ (t : Fields). OnOk c.print_answers.result (ArePrinted (answer_json_as c.args.texts t) answers before after)) (c.schema-2.ensures runs.after runs.stands) of_slice in
      ran calls told.0 answers (rw (← is) told.1) runs printed;
}
