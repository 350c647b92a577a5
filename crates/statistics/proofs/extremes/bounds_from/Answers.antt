use Rattle.std.proofs.Common.{Option, subst}
use Rattle.schema.specs.declared.order.Order.{Order}
use Rattle.schema.specs.Views.{leaf_order}
use Rattle.statistics.specs.Bounds.{statistics_of}
use Rattle.statistics.proofs.Bounded.{IsFound, bounds_hold, bounds_are}
use Rattle.statistics.proofs.extremes.bounds_from.Goals as goal

pub returns-clause-bounds_hold : goal.returns-clause-bounds_hold
returns-clause-bounds_hold g c = bounds_hold (leaf_order c.args.leaf.now) (g.C.EntryCursor.left c.args.cursor) _
    (subst (λ (o : Option Order). IsFound o (g.C.EntryCursor.left c.args.cursor) (statistics_of (record { min = c.in_ok-min.min; max = c.in_ok-max.max; nulls = c.extremes_of-found.result.nulls }))) c.order.ensures
    (record {
      all = c.extremes_of-found.result.all_compared;
      compared_all = c.extremes_of-found.ensures.all_compared;
      least = c.extremes_of-found.ensures.least;
      greatest = c.extremes_of-found.ensures.greatest;
      min = c.in_ok-min.ensures.copies;
      max = c.in_ok-max.ensures.copies;
      nulls = c.extremes_of-found.ensures.nulls;
      low = _;
      high = _;
    }))

pub returns-clause-bounds_are : goal.returns-clause-bounds_are
returns-clause-bounds_are g c = bounds_are (leaf_order c.args.leaf.now) (g.C.EntryCursor.left c.args.cursor) _
    (subst (λ (o : Option Order). IsFound o (g.C.EntryCursor.left c.args.cursor) (statistics_of (record { min = c.in_ok-min.min; max = c.in_ok-max.max; nulls = c.extremes_of-found.result.nulls }))) c.order.ensures
    (record {
      all = c.extremes_of-found.result.all_compared;
      compared_all = c.extremes_of-found.ensures.all_compared;
      least = c.extremes_of-found.ensures.least;
      greatest = c.extremes_of-found.ensures.greatest;
      min = c.in_ok-min.ensures.copies;
      max = c.in_ok-max.ensures.copies;
      nulls = c.extremes_of-found.ensures.nulls;
      low = _;
      high = _;
    }))
