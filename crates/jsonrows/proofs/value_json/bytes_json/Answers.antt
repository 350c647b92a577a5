use Rattle.std.proofs.Common.{◌≡◌, refl, sym, subst, ◌∙◌}
use Rattle.std.specs.Prelude.{IfOk}
use Rattle.serde_json.specs.View.{view}
use Rattle.schema.specs.Views.{leaf_type_view}
use Rattle.jsonrows.proofs.ShownValues.{as_text, as_digits}
use Rattle.jsonrows.proofs.value_json.bytes_json.Goals as goal

pub returns-in-Ok-clause-shown : goal.returns-in-Ok-clause-shown
returns-in-Ok-clause-shown c =
    let text = sym c.is_text.ensures ∙ c.if-not-is_text.false in
    subst (λ y. IfOk c.text_json.result (λ shown. view shown ≡ y)) (as_text (leaf_type_view c.args.leaf_type.now) c.args.bytes.now c.in-Ok.text.now text c.in-Ok.ensures.cases.1 c.in-Ok.ensures.cases.0) c.text_json.ensures.shown

pub returns-in-Err-clause-shown : goal.returns-in-Err-clause-shown
returns-in-Err-clause-shown c =
    let text = sym c.is_text.ensures ∙ c.if-not-is_text.false in
    subst (λ y. IfOk c.digits_json-in-Err.result (λ shown. view shown ≡ y)) (as_digits (leaf_type_view c.args.leaf_type.now) c.args.bytes.now _ text c.in-Err.ensures.cases.0 refl) c.digits_json-in-Err.ensures.shown
