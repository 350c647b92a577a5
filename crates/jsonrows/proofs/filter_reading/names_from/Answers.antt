use Rattle.serde_json.specs.View.{view}
use Rattle.std.specs.Prelude.{string_bytes}
use Rattle.jsonrows.specs.Filters.{name_of}
use Rattle.jsonrows.proofs.Made.{one_more_made}
use Rattle.jsonrows.proofs.filter_reading.names_from.Goals as goal

pub loop-item-preserved : goal.loop-item-preserved
loop-item-preserved c =
    one_more_made view (string_bytes) (name_of) c.args.items.now c.loop-item.item-index c.item-item.result c.loop-item.names.items c.push.new.self.items c.in_ok-name.name _ c.loop-item-test.true c.item-item.is c.in_ok-push.ensures.items c.in_ok-name.ensures.made c.loop-item.invariant
