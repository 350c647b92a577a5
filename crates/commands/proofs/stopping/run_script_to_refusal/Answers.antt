use Rattle.std.proofs.Common.{◌≡◌, ◌≤◌, ◌∙◌, ◌++◌, ℕ, List, vec_len, length, map, refl, sym, subst, arith}
use Rattle.std.specs.Str.Lines.{lines}
use Rattle.vault.proofs.Chained.{refused}
use Rattle.bits.specs.declared.refusal.Refusal.{Refusal}
use Rattle.schema.specs.Shape.{Fields}
use Rattle.table.specs.Calls.{Call}
use Rattle.table.specs.declared.answer.Answer.{Answer as CodeAnswer}
use Rattle.table.specs.declared.call.Call.{Call as CodeCall}
use Rattle.table.specs.Views.{call_view, answer_view}
use Rattle.jsonrows.specs.Answers.{answer_json_as}
use Rattle.answers.specs.Lines.{AreRefusedCalls, AreCallTexts}
use Rattle.commands.specs.Stopping.{MakesToRefusalFrom, RunsToRefusalFrom, ran_to, not_ran, StopsAt}
use Rattle.answers.proofs.Answered.{ArePrinted}
use Rattle.commands.proofs.Stopped.{counted_calls}
use Rattle.commands.proofs.stopping.run_script_to_refusal.Goals as goal

pub returns-in_err-calls : goal.returns-in_err-calls
returns-in_err-calls g c = record {
  runs = λ honest s stands.
      let old = c.args.store.now in
      let is = c.schema.ensures s stands in
      let e = c.in_err-calls.field-0.0 in
      let held = g.W.Write.contents c.args.out.now in
      refused (λ r. RunsToRefusalFrom g.D.Disk.state c.args.texts old old c.args.text.now held held r s) c.from_residual.result e c.from_residual.ensures.1
      (not_ran e (subst (λ (t : Fields). AreRefusedCalls c.args.texts t (lines c.args.text.now) e) is c.in_err-calls.ensures.which) refl refl refl);
}

pub returns-in_err-answers : goal.returns-in_err-answers
returns-in_err-answers g c = record {
  runs = λ honest s stands.
      let old = c.args.store.now in
      let e = c.in_err-answers.field-0.0 in
      let held = g.W.Write.contents c.args.out.now in
      refused (λ r. RunsToRefusalFrom g.D.Disk.state c.args.texts old c.make_to_refusal.new.store c.args.text.now held held r s) c.from_residual-in_err-answers.result e c.from_residual-in_err-answers.ensures.1
      (not_ran e (subst (λ (x : Refusal). AreRefusedCalls c.args.texts s.table.schema (lines c.args.text.now) x) (sym c.in_err-answers.ensures.memory) tt) refl c.in_err-answers.ensures.unchanged refl);
}

pub returns-in_err-print_answers : goal.returns-in_err-print_answers
returns-in_err-print_answers g c = record {
  runs = λ honest s stands.
      let state = g.D.Disk.state in
      let old = c.args.store.now in
      let new = c.make_to_refusal.new.store in
      let e = c.in_err-print_answers.field-0.0 in
      let before = g.W.Write.contents c.args.out.now in
      let after = g.W.Write.contents c.print_answers.new.out in
      let is = c.schema.ensures s stands in
      let told = c.in_ok-calls.ensures.stands in
      let answers = c.in_ok-answers.answers.items in
      let made = subst (λ (xs : List CodeCall). MakesToRefusalFrom state old new (map call_view xs) (map answer_view answers) s) c.as_slice.ensures.value (c.in_ok-answers.ensures.makes honest s stands) in
      refused (λ r. RunsToRefusalFrom state c.args.texts old new c.args.text.now before after r s) c.from_residual-in_err-print_answers.result e c.from_residual-in_err-print_answers.ensures.1
      (ran_to made.made made.left told.0 answers (subst (λ (cs : List Call). AreCallTexts c.args.texts s.table.schema (lines c.args.text.now) cs told.0) made.joined (rw (← is) told.1)) made.runs c.in_ok-answers.ensures.ends tt);
}

pub returns : goal.returns
returns g c = record {
  runs = λ honest s stands.
      let state = g.D.Disk.state in
      let old = c.args.store.now in
      let new = c.make_to_refusal.new.store in
      let before = g.W.Write.contents c.args.out.now in
      let after = g.W.Write.contents c.print_answers.new.out in
      let is = c.schema.ensures s stands in
      let calls = c.in_ok-calls.calls in
      let told = c.in_ok-calls.ensures.stands in
      let answers = c.in_ok-answers.answers.items in
      let made = subst (λ (xs : List CodeCall). MakesToRefusalFrom state old new (map call_view xs) (map answer_view answers) s) c.as_slice.ensures.value (c.in_ok-answers.ensures.makes honest s stands) in
      let of_slice = subst (λ (xs : List CodeAnswer). ArePrinted (answer_json_as c.args.texts c.schema-2.result.now) xs before after) c.as_slice-2.ensures.value c.in_ok-print_answers.ensures.printed in
      let printed = subst (λ (t : Fields). ArePrinted (answer_json_as c.args.texts t) answers before after) (c.schema-2.ensures made.runs.after made.runs.stands) of_slice in
      let most = subst (λ (xs : List CodeCall). vec_len c.in_ok-answers.answers ≤ length xs) c.as_slice.ensures.value c.in_ok-answers.ensures.count in
      let stop = c.stop_of.ensures.stops c.in_ok-answers.ensures.ends (omega (arith, most, c.len.ensures, calls.ok.0)) in
      let many : length (made.made ++ made.left) ≡ c.len.result = counted_calls calls made.made made.left made.joined ∙ sym c.len.ensures in
      ran_to made.made made.left told.0 answers (subst (λ (cs : List Call). AreCallTexts c.args.texts s.table.schema (lines c.args.text.now) cs told.0) made.joined (rw (← is) told.1)) made.runs c.in_ok-answers.ensures.ends
      (subst (λ (n : ℕ). StopsAt n (map answer_view answers) c.stop_of.result) (sym many) stop, printed);
}
