use Rattle.serde_json.specs.View.{view}
use Rattle.schema.specs.Values.{view as value_view}
use Rattle.jsonrows.specs.Answers.{key_value_json}
use Rattle.jsonrows.proofs.Made.{one_more_made}
use Rattle.jsonrows.proofs.answer_printing.key_json.Goals as goal

pub loop-value-preserved : goal.loop-value-preserved
loop-value-preserved c =
    one_more_made value_view view (key_value_json) c.args.values.now c.loop-value.value-index c.value-item.result c.loop-value.all.items c.push.new.self.items c.in_ok-shown.shown _ c.loop-value-test.true c.value-item.is c.in_ok-push.ensures.items c.in_ok-shown.ensures.shown c.loop-value.invariant
