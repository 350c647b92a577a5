use Rattle.std.proofs.Common.{List}
use Rattle.schema.specs.Stripe.{Entry}
use Rattle.schema.specs.Views.{leaf_view}
use Rattle.metadata.specs.Views.{chunk_meta_view}
use Rattle.statistics.specs.Bounds.{statistics_of}
use Rattle.upkeep.specs.inner.Columns.{IsColumn, IsColumnIn}
use Rattle.upkeep.proofs.Filling.{found_map, from_text}
use Rattle.upkeep.proofs.columns.fault_of_column.Goals as goal

pub returns-in-Some-clause-found : goal.returns-in-Some-clause-found
returns-in-Some-clause-found c =
    let m = (chunk_meta_view c.args.chunk.now).meta_data in
    let leaf = leaf_view c.args.leaf.now in
    let front = c.args.front.now in
    let text = c.in-Some.text.now in
    let s = statistics_of c.args.stats.now in
    found_map c.fault_of_text.result ((es : List Entry) × IsColumnIn text leaf m s es) ((es : List Entry) × IsColumn front leaf m s es)
    (λ col. (col.0, from_text front leaf m s text c.in-Some.ensures col.0 col.1)) c.fault_of_text.ensures.found
