use Rattle.std.proofs.Common.{◌≡◌, Ok}
use Rattle.serde_json.specs.View.{view}
use Rattle.jsonrows.specs.Answers.{group_json}
use Rattle.jsonrows.proofs.AnswerFloats.{group_none_of}
use Rattle.jsonrows.proofs.answer_printing.group_to.Goals as goal

pub returns-clause-stands : goal.returns-clause-stands
returns-clause-stands c =
    let d = view c.in_ok-shown.shown in
    (d, c.in_ok-shown.ensures.shown, c.in_ok-text.ensures.text (group_none_of c.args.group.now d c.in_ok-shown.ensures.shown))
