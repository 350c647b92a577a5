use Rattle.serde_json.specs.View.{view}
use Rattle.schema.specs.Views.{row_view}
use Rattle.jsonrows.specs.Calls.{row_in_as}
use Rattle.jsonrows.proofs.Made.{one_more_made}
use Rattle.jsonrows.proofs.call_members.rows_in.Goals as goal

pub loop-item-preserved : goal.loop-item-preserved
loop-item-preserved c =
    one_more_made view row_view (row_in_as c.args.texts c.args.schema.now) c.args.items.now c.loop-item.item-index c.item-item.result c.loop-item.rows.items c.push.new.self.items c.in_ok-row.row _ c.loop-item-test.true c.item-item.is c.in_ok-push.ensures.items c.in_ok-row.ensures.made c.loop-item.invariant
