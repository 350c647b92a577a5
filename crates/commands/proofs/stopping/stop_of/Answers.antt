use Rattle.std.proofs.Common.{◌≡◌, ◌++◌, ◌∷◌, [], ◌∙◌, Option, ap, arith}
use Rattle.std.specs.Prelude.{option_to_list}
use Rattle.table.specs.declared.answer.Answer.{Answer as CodeAnswer}
use Rattle.commands.proofs.Stopped.{stops_done, last_done, done_if_other}
use Rattle.commands.proofs.stopping.stop_of.Goals as goal

pub returns : goal.returns
returns c = record {
  stops = λ ends most.
      let items = c.args.answers.items in
      let xs = c.pop.new.self.items in
      let last = c.in-Some.last in
      let split : items ≡ xs ++ last ∷ [] = c.pop.ensures.items ∙ ap (λ (o : Option CodeAnswer). xs ++ option_to_list o) c.in-Some.is in
      let before = c.stop_before-in_default-last in
      stops_done c.args.calls items c.len-made.result before.result (last_done items xs last split ends (done_if_other last c.in_default-last.not-Refused)) (c.len-made.ensures ∙ c.args.answers.ok.0) (omega (arith, most, c.len-made.ensures))
      before.ensures.stopped before.ensures.whole;
}
