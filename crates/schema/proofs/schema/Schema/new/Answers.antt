use Rattle.std.proofs.Common.{◌≡◌}
use Rattle.std.proofs.lemmas.Result.{IfOk-weaker}
use Rattle.bits.proofs.Passing.{passes}
use Rattle.bits.specs.Refusals.{IsFault}
use Rattle.schema.specs.Shape.{Fields}
use Rattle.schema.specs.Elements.{elements_view}
use Rattle.schema.specs.Views.{field_views}
use Rattle.schema.specs.Listing.{IsSchemaOf, IsTooLarge}
use Rattle.schema.proofs.Limits.{not_too_large}
use Rattle.schema.proofs.Faultless.{no_fault}
use Rattle.schema.proofs.schema.Schema.new.Goals as goal

pub returns-in_err-fields-clause-only : goal.returns-in_err-fields-clause-only
returns-in_err-fields-clause-only c =
    passes (λ e. IsFault e → (fs : Fields) → IsSchemaOf (elements_view c.args.elements.now) fs → ⊥) c.from_residual.result c.in_err-fields.field-0.0 c.from_residual.ensures.1
    (no_fault (elements_view c.args.elements.now) c.in_err-fields.field-0.0 c.in_err-fields.ensures.which)

pub returns-clause-within_limits : goal.returns-clause-within_limits
returns-clause-within_limits c =
    let es = elements_view c.args.elements.now in
    let fs = field_views c.in_ok-fields.fields.items in
    IfOk-weaker c.of_fields.result (λ made. made ≡ fs) (λ made. IsTooLarge es → ⊥)
    (λ made is. not_too_large es fs c.in_ok-fields.ensures.stands c.in_ok-fields.ensures.shallow c.in_ok-fields.ensures.within) c.of_fields.ensures.fields_are
