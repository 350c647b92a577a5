use Rattle.std.proofs.Common.{◌≡◌, ℕ, Some, ap, sym, ◌∙◌, inl, inr, arith}
use Rattle.std.proofs.lemmas.Bool.{cases_lt}
use Rattle.std.proofs.lemmas.Option.{same_Some as same_some}
use Rattle.schema.specs.declared.value.Repetition.TheVariants.{Required}
use Rattle.schema.specs.Keys.{key_type, field_at}
use Rattle.schema.specs.Shape.{leaf}
use Rattle.schema.specs.Views.{field_views}
use Rattle.partition.proofs.KeyColumns.{field_is, no_field}
use Rattle.partition.proofs.columns.key_column.Goals as goal

pub returns-in-Some-clause-stands : goal.returns-in-Some-clause-stands
returns-in-Some-clause-stands c =
    (c.in_ok-name.ensures.ok, field_is c.args.fields.now c.loop-at.at c.index-fields-at.result (omega arith) c.index-fields-at.is ∙ ap Some (c.in-Some.ensures ∙ ap (λ n. leaf n Required (key_type c.in-Some.kind)) (c.as_bytes.ensures.value ∙ sym c.in_ok-name.ensures.ok)))

pub loop-at-preserved : goal.loop-at-preserved
loop-at-preserved c = λ at k less e.
    elim (cases_lt at c.loop-at.at) [
      | inl p ↦ c.loop-at.invariant at k p e
      | inr p ↦
          let here : c.loop-at.at ≡ at = omega (arith, p, less) in
          (rw c.in_default.is at c.key_kind.ensures) k
          (same_some _ _ (sym (field_is c.args.fields.now c.loop-at.at c.index-fields-at.result (omega arith) c.index-fields-at.is) ∙ ap (λ (n : ℕ). field_at n (field_views c.args.fields.now)) here ∙ e) ∙ ap (λ n. leaf n Required (key_type k)) (sym c.as_bytes.ensures.value))
    ]

pub returns-clause-stands : goal.returns-clause-stands
returns-clause-stands c = λ at k e.
    elim (cases_lt at c.loop-at.at) [ inl p ↦ c.loop-at.invariant at k p e | inr p ↦ no_field c.args.fields.now at _ (omega (arith, p)) e ]
