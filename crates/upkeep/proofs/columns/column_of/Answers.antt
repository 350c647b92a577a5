use Rattle.std.proofs.Common.{ℕ, List, length, ap, sym, subst}
use Rattle.schema.specs.Stripe.{Entry}
use Rattle.schema.specs.Views.{leaf_view, column_view}
use Rattle.metadata.specs.Views.{column_meta_view}
use Rattle.row_group.specs.Chunks.{ChunkMeans}
use Rattle.upkeep.proofs.Filling.{some_map}
use Rattle.upkeep.proofs.columns.column_of.Goals as goal

pub returns-in-Ok-clause-found : goal.returns-in-Ok-clause-found
returns-in-Ok-clause-found c =
    let m = column_meta_view c.args.meta.now in
    let leaf = leaf_view c.args.leaf.now in
    let text = c.args.text.now in
    some_map c.filling.result _ _
    (λ column is. subst (λ (es : List Entry). ChunkMeans m leaf text es (length text)) (ap column_view (sym is.1)) (subst (λ (n : ℕ). ChunkMeans m leaf text (column_view c.in-Ok.read.0) n) is.0 c.in-Ok.ensures.stands)) c.filling.ensures
