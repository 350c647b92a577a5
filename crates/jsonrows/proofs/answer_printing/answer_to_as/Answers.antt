use Rattle.std.proofs.Common.{◌≡◌, Ok, sym, ap, ◌∙◌}
use Rattle.serde_json.specs.View.{view}
use Rattle.jsonrows.specs.Answers.{answer_json_as}
use Rattle.jsonrows.proofs.AnswerFloats.{answer_none}
use Rattle.jsonrows.proofs.answer_printing.answer_to_as.Goals as goal

pub returns-clause-stands : goal.returns-clause-stands
returns-clause-stands c =
    let d = view c.in_ok-shown.shown in
    let shown : answer_json_as c.args.texts c.args.schema.now c.args.answer.now ≡ Ok d = ap (λ fs. answer_json_as c.args.texts fs c.args.answer.now) (sym c.fields.ensures) ∙ c.in_ok-shown.ensures.shown in
    (d, shown, c.in_ok-text.ensures.text (answer_none c.args.texts c.args.schema.now c.args.answer.now d shown))
