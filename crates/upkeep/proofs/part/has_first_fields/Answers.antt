use Rattle.std.proofs.Common.{◌≡◌, ◌∙◌, length, sym, ap, ℕ, arith}
use Rattle.schema.specs.Shape.{count}
use Rattle.schema.specs.Fronts.{first_fields}
use Rattle.schema.proofs.FieldViews.{count_views}
use Rattle.upkeep.proofs.part.has_first_fields.Goals as goal

pub returns : goal.returns
returns c = λ is.
    let wide : length c.fields.result.now ≡ c.args.width = omega arith in
    c.is_front_of.ensures.0 is ∙ ap (λ (n : ℕ). first_fields n c.args.stored.now) (sym (ap count c.fields.ensures) ∙ count_views c.fields.result.now ∙ wide)
