use Rattle.std.proofs.Common.{◌≡◌, ◌∙◌, List, refl, ap, sym, subst, inr}
use Rattle.bits.specs.declared.refusal.Refusal.TheVariants.{Memory}
use Rattle.bits.proofs.Passing.{passes}
use Rattle.std.proofs.lemmas.Bool.{false≢true}
use Rattle.schema.specs.Elements.{Element, elements_view}
use Rattle.schema.specs.Shape.{Field, Fields}
use Rattle.schema.specs.Law.{IsWithinLimits}
use Rattle.schema.specs.Listing.{IsSchemaOf}
use Rattle.schema.specs.Faults.{HasFault}
use Rattle.schema.specs.Fronts.{with_field}
use Rattle.schema.specs.Growing.{with_elements, IsColumnFor}
use Rattle.schema.specs.inner.Grown.{EndsOptional}
use Rattle.schema.proofs.Limits.{tallest_within, not_too_large}
use Rattle.schema.proofs.OneSchema.{lists_mean_one_schema}
use Rattle.schema.proofs.Relisted.{grown, ends_with, with_end, not_optional}
use Rattle.schema.proofs.TableLeaves.{is_fault}
use Rattle.schema.proofs.schema.Schema.with_field.Goals as goal

pub returns-in_err-schema-clause-only : goal.returns-in_err-schema-clause-only
returns-in_err-schema-clause-only c =
    let fs = c.args.self.now in
    let given = elements_view c.args.elements.now in
    let es = elements_view c.as_slice.result.now in
    let listed : es ≡ with_elements fs given = ap elements_view c.as_slice.ensures.value ∙ c.in_ok-longer.ensures.listed in
    let e = c.in_err-schema.field-0.0 in
    passes (λ e. (e ≡ Memory → ⊥) → (f : Field) → IsColumnFor fs given f → ⊥) c.from_residual-in_err-schema.result e c.from_residual-in_err-schema.ensures.1
    (λ other f column.
    let s : IsSchemaOf es (with_field fs f) = subst (λ (xs : List Element). IsSchemaOf xs (with_field fs f)) (sym listed) column.stands_for in
    let small = not_too_large es (with_field fs f) s (tallest_within (with_field fs f) s.valid.1 column.within) column.within in
    c.in_err-schema.ensures.only (is_fault e (λ limit. small (subst (HasFault es) limit c.in_err-schema.ensures.which)) other) (with_field fs f) s)

pub returns-then-is_optional-clause-stands : goal.returns-then-is_optional-clause-stands
returns-then-is_optional-clause-stands c =
    let fs = c.args.self.now in
    let given = elements_view c.args.elements.now in
    let gs : Fields = c.in_ok-schema.schema in
    let listed : elements_view c.as_slice.result.now ≡ with_elements fs given = ap elements_view c.as_slice.ensures.value ∙ c.in_ok-longer.ensures.listed in
    let s = subst (λ (xs : List Element). IsSchemaOf xs gs) listed c.in_ok-schema.ensures.stands in
    let more = grown fs gs given c.leaves.ensures.valid.1 s in
    let ends = c.ends_optional-is_optional.ensures.0 c.if-is_optional.true in (
      more.0,
      record {
        stands_for = subst (λ (x : Fields). IsSchemaOf (with_elements fs given) x) more.1 s;
        within = subst IsWithinLimits more.1 c.in_ok-schema.ensures.within;
        optional = ends_with fs more.0 (subst EndsOptional (c.fields.ensures ∙ more.1) ends);
      },
      more.1,
    )

pub returns-clause-only : goal.returns-clause-only
returns-clause-only c = λ other f column.
    let fs = c.args.self.now in
    let given = elements_view c.args.elements.now in
    let gs : Fields = c.in_ok-schema.schema in
    let listed : elements_view c.as_slice.result.now ≡ with_elements fs given = ap elements_view c.as_slice.ensures.value ∙ c.in_ok-longer.ensures.listed in
    let s = subst (λ (xs : List Element). IsSchemaOf xs gs) listed c.in_ok-schema.ensures.stands in
    let same : gs ≡ with_field fs f = lists_mean_one_schema (with_elements fs given) gs (with_field fs f) s column.stands_for in
    false≢true (sym c.if-is_optional.false ∙ c.ends_optional-is_optional.ensures.1 (subst EndsOptional (sym (c.fields.ensures ∙ same)) (with_end fs f column.optional)))

pub returns-clause-which : goal.returns-clause-which
returns-clause-which c =
    let fs = c.args.self.now in
    let given = elements_view c.args.elements.now in
    let gs : Fields = c.in_ok-schema.schema in
    let listed : elements_view c.as_slice.result.now ≡ with_elements fs given = ap elements_view c.as_slice.ensures.value ∙ c.in_ok-longer.ensures.listed in
    let s = subst (λ (xs : List Element). IsSchemaOf xs gs) listed c.in_ok-schema.ensures.stands in
    let more = grown fs gs given c.leaves.ensures.valid.1 s in
    inr (refl, not_optional given more.0 more.2 (λ o. false≢true (sym c.if-is_optional.false ∙ c.ends_optional-is_optional.ensures.1 (subst EndsOptional (sym (c.fields.ensures ∙ more.1)) (with_end fs more.0 o)))))
