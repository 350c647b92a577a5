use Rattle.serde_json.specs.View.{view}
use Rattle.jsonrows.specs.Answers.{group_json}
use Rattle.jsonrows.proofs.Made.{one_more_shown}
use Rattle.jsonrows.proofs.answer_printing.groups_json.Goals as goal

pub loop-group-preserved : goal.loop-group-preserved
loop-group-preserved c =
    one_more_shown view group_json c.args.groups.now c.loop-group.group-index c.group-item.result c.loop-group.all.items c.push.new.self.items c.in_ok-shown.shown _ c.loop-group-test.true c.group-item.is c.in_ok-push.ensures.items c.in_ok-shown.ensures.shown c.loop-group.invariant
