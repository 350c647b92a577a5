use Rattle.std.proofs.Common.{◌≡◌, ◌+◌, List, ◌∷◌, [], ◌++◌, take, subst, sym, ap, ◌∙◌}
use Rattle.std.proofs.lemmas.List.{take_more}
use Rattle.table.specs.declared.answer.Answer.{Answer}
use Rattle.jsonrows.specs.Answers.{answer_json_as}
use Rattle.answers.proofs.Answered.{ArePrinted, none_printed, printed_more}
use Rattle.answers.proofs.running.print_answers.Goals as goal

pub loop-answer-init : goal.loop-answer-init
loop-answer-init g c = none_printed (answer_json_as c.args.texts c.args.schema.now) (g.W.Write.contents c.args.out.now)

pub loop-answer-preserved : goal.loop-answer-preserved
loop-answer-preserved g c =
    let l = c.loop-answer in
    let all = c.args.answers.now in
    let contents = g.W.Write.contents in
    let answer = c.answer-item.result in
    let grown : take (l.answer-index + 1) all ≡ take l.answer-index all ++ answer ∷ [] =
    take_more all l.answer-index answer c.loop-answer-test.true ∙ ap (λ (a : Answer). take l.answer-index all ++ a ∷ []) (sym c.answer-item.is) in
    subst (λ (told : List Answer). ArePrinted (answer_json_as c.args.texts c.args.schema.now) told (contents c.args.out.now) (contents c.print_answer.new.out)) (sym grown)
    (printed_more (answer_json_as c.args.texts c.args.schema.now) (take l.answer-index all) answer (contents c.args.out.now) (contents l.out) (contents c.print_answer.new.out) l.invariant c.in_ok-print_answer.ensures.written)
