use Rattle.std.proofs.Common.{map}
use Rattle.serde_json.specs.View.{view}
use Rattle.schema.specs.Views.{leaf_view}
use Rattle.filter.specs.Terms.{term_view}
use Rattle.jsonrows.specs.Filters.{term_of_as}
use Rattle.jsonrows.proofs.Made.{one_more_made}
use Rattle.jsonrows.proofs.filter_reading.terms_of.Goals as goal

pub loop-item-preserved : goal.loop-item-preserved
loop-item-preserved c =
    one_more_made view (term_view) (term_of_as c.args.texts (map leaf_view c.args.leaves.now)) c.args.items.now c.loop-item.item-index c.item-item.result c.loop-item.terms.items c.push.new.self.items c.in_ok-term.term _ c.loop-item-test.true c.item-item.is c.in_ok-push.ensures.items c.in_ok-term.ensures.made c.loop-item.invariant
