use Rattle.serde_json.specs.View.{view}
use Rattle.jsonrows.specs.Calls.{natural_of}
use Rattle.jsonrows.proofs.Made.{one_more}
use Rattle.jsonrows.proofs.call_members.naturals_in.Goals as goal

pub loop-item-preserved : goal.loop-item-preserved
loop-item-preserved c =
    one_more view natural_of c.args.items.now c.loop-item.item-index c.item-item.result c.loop-item.numbers.items c.push.new.self.items c.in_ok-number.number _ c.loop-item-test.true c.item-item.is c.in_ok-push.ensures.items c.in_ok-number.ensures.made c.loop-item.invariant
