use Rattle.std.proofs.Common.{option_map, sym, ap, ◌∙◌}
use Rattle.serde_json.specs.View.{view}
use Rattle.jsonrows.proofs.CallFaults.{form_found, form_not_named, form_not_only}
use Rattle.jsonrows.proofs.call_form.form_of.Goals as goal

pub returns-in_default-form_named-clause-which : goal.returns-in_default-form_named-clause-which
returns-in_default-form_named-clause-which c =
    form_not_named (view c.args.json.now) _ c.in-Some.name.now (sym c.get.ensures) (sym c.text_of.ensures ∙ ap (option_map (λ t. t.now)) c.in-Some.is) (sym c.form_named.ensures ∙ c.in_default-form_named.is)

pub returns-then-has_only-clause-made : goal.returns-then-has_only-clause-made
returns-then-has_only-clause-made c =
    form_found (view c.args.json.now) _ c.in-Some.name.now c.in-Some-form_named.form _ c.has_only.result (sym c.get.ensures) (sym c.text_of.ensures ∙ ap (option_map (λ t. t.now)) c.in-Some.is) (sym c.form_named.ensures ∙ c.in-Some-form_named.is) c.members_of.ensures c.has_only.ensures c.if-has_only.true

pub returns-else-has_only-clause-which : goal.returns-else-has_only-clause-which
returns-else-has_only-clause-which c =
    form_not_only (view c.args.json.now) _ c.in-Some.name.now c.in-Some-form_named.form _ c.has_only.result (sym c.get.ensures) (sym c.text_of.ensures ∙ ap (option_map (λ t. t.now)) c.in-Some.is) (sym c.form_named.ensures ∙ c.in-Some-form_named.is) c.members_of.ensures c.has_only.ensures c.if-has_only.false
