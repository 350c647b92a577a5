use Rattle.std.proofs.Common.{◌∙◌, ap, [], ◌++◌, map}
use Rattle.schema.specs.Stripe.{leaves_from}
use Rattle.schema.specs.inner.LeafPaths.{along}
use Rattle.schema.specs.Views.{field_views, leaf_view}
use Rattle.schema.proofs.Ways.{leaves_none}
use Rattle.schema.proofs.leaves.leaves_of.Goals as goal

pub returns-clause-leaves_are : goal.returns-clause-leaves_are
returns-clause-leaves_are c =
    c.in_ok-push_each.ensures.adds
    ∙ ap (λ t. map leaf_view t ++ map (along [] []) (leaves_from 0 (field_views c.args.fields.now))) c.new-leaves.ensures.items
    ∙ leaves_none 0 (field_views c.args.fields.now)
