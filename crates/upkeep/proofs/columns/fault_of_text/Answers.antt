use Rattle.std.proofs.Common.{List}
use Rattle.schema.specs.Stripe.{Entry}
use Rattle.schema.specs.Views.{leaf_view, leaf_order, column_view}
use Rattle.metadata.specs.Views.{column_meta_view}
use Rattle.statistics.specs.Bounds.{Bounds, statistics_of}
use Rattle.upkeep.specs.inner.Columns.{IsColumnIn, IsFilled}
use Rattle.upkeep.proofs.Filling.{match_map, at_some}
use Rattle.upkeep.proofs.columns.fault_of_text.Goals as goal

pub returns-in-Some-clause-found : goal.returns-in-Some-clause-found
returns-in-Some-clause-found c =
    let m = column_meta_view c.args.meta.now in
    let leaf = leaf_view c.args.leaf.now in
    let text = c.args.text.now in
    let s = statistics_of c.args.stats.now in
    let column = c.in-Some.column in
    let filled = at_some (λ x. IsFilled m leaf text (column_view x)) column c.in-Some.is c.in_ok-column.ensures.found in
    match_map c.judged.result (Bounds (leaf_order c.args.leaf.now) s (column_view column)) ((es : List Entry) × IsColumnIn text leaf m s es) (λ bounds. (column_view column, (filled, bounds))) c.judged.ensures
