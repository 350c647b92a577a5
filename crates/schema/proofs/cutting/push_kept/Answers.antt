use Rattle.std.proofs.Common.{◌∙◌, sym, ap, option_map}
use Rattle.schema.specs.Shape.{no_fields}
use Rattle.schema.specs.Views.{field_view, field_views}
use Rattle.schema.specs.inner.Reading.{join_fields}
use Rattle.schema.specs.Cutting.{kept}
use Rattle.schema.proofs.Forest.{join-none, join-push}
use Rattle.schema.proofs.cutting.push_kept.Goals as goal

pub returns-in_ok-push-in-Some-clause-adds : goal.returns-in_ok-push-in-Some-clause-adds
returns-in_ok-push-in-Some-clause-adds c =
    ap field_views c.in_ok-push-in-Some.ensures.items
    ∙ sym (join-none _)
    ∙ join-push c.args.out.now.items c.in-Some.field no_fields
    ∙ ap (λ o. join_fields (field_views c.args.out.now.items) (kept (option_map field_view o) no_fields)) (sym c.in-Some.is)

pub returns-in-None-clause-adds : goal.returns-in-None-clause-adds
returns-in-None-clause-adds c =
    sym (join-none (field_views c.args.out.now.items))
    ∙ ap (λ o. join_fields (field_views c.args.out.now.items) (kept (option_map field_view o) no_fields)) (sym c.in-None.is)
