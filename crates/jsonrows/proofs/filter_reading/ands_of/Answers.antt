use Rattle.std.proofs.Common.{map}
use Rattle.serde_json.specs.View.{view}
use Rattle.schema.specs.Views.{leaf_view}
use Rattle.filter.specs.Terms.{term_view}
use Rattle.jsonrows.specs.Filters.{and_of_as}
use Rattle.jsonrows.proofs.Made.{one_more_made}
use Rattle.jsonrows.proofs.filter_reading.ands_of.Goals as goal

pub loop-item-preserved : goal.loop-item-preserved
loop-item-preserved c =
    one_more_made view (λ ts. map term_view ts.items) (and_of_as c.args.texts (map leaf_view c.args.leaves.now)) c.args.items.now c.loop-item.item-index c.item-item.result c.loop-item.ands.items c.push.new.self.items c.in_ok-terms.terms _ c.loop-item-test.true c.item-item.is c.in_ok-push.ensures.items c.in_ok-terms.ensures.made c.loop-item.invariant
