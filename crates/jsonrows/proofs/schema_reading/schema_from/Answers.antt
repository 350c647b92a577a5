use Rattle.std.proofs.Common.{◌≡◌, Some, None, subst}
use Rattle.std.specs.Prelude.{IfOk, IfErr}
use Rattle.serde_json.specs.View.{view}
use Rattle.bits.specs.Refusals.{OnFault, IsFault}
use Rattle.bits.proofs.Passing.{passes}
use Rattle.schema.specs.Shape.{Fields}
use Rattle.schema.specs.Elements.{elements_view}
use Rattle.schema.specs.Faults.{HasFault}
use Rattle.schema.specs.Listing.{IsSchemaOf}
use Rattle.jsonrows.specs.SchemaJson.{IsSchemaText, IsRefusedSchema}
use Rattle.jsonrows.specs.inner.SchemaReading.{all_said}
use Rattle.jsonrows.specs.inner.SchemaViews.{saids}
use Rattle.jsonrows.proofs.Elements.{no_schema}
use Rattle.jsonrows.proofs.SchemaFields.{none_found, none_are, said_found, refused_form, is_refused_list, is_text_of}
use Rattle.jsonrows.proofs.schema_reading.schema_from.Goals as goal

pub returns-in_default-clause-only : goal.returns-in_default-clause-only
returns-in_default-clause-only c =
    let none : None ≡ all_said (view c.in_ok-json.json) = rw c.in_default.is at c.in_ok-all.ensures in
    λ fault fs p. none_found c.args.text.now (view c.in_ok-json.json) c.in_ok-json.ensures.stands c.in_ok-json.ensures.nests none p.0 p.1

pub returns-in_default-clause-which : goal.returns-in_default-clause-which
returns-in_default-clause-which c =
    let none : None ≡ all_said (view c.in_ok-json.json) = rw c.in_default.is at c.in_ok-all.ensures in
    none_found c.args.text.now (view c.in_ok-json.json) c.in_ok-json.ensures.stands c.in_ok-json.ensures.nests none

pub returns-in_err-elements-clause-only : goal.returns-in_err-elements-clause-only
returns-in_err-elements-clause-only c =
    let says : Some (saids c.in-Some.all.items) ≡ all_said (view c.in_ok-json.json) = rw c.in-Some.is at c.in_ok-all.ensures in
    passes (λ e. IsFault e → (fs : Fields) → IsSchemaText c.args.text.now fs → ⊥) c.from_residual-in_err-elements.result c.in_err-elements.field-0.0 c.from_residual-in_err-elements.ensures.1
    (λ fault fs p. none_are c.args.text.now (view c.in_ok-json.json) (saids c.in-Some.all.items) c.in_ok-json.ensures.stands c.in_ok-json.ensures.nests says (c.in_err-elements.ensures.only fault) p.0 p.1)

pub returns-in_err-elements-clause-which : goal.returns-in_err-elements-clause-which
returns-in_err-elements-clause-which c =
    let says : Some (saids c.in-Some.all.items) ≡ all_said (view c.in_ok-json.json) = rw c.in-Some.is at c.in_ok-all.ensures in
    passes (IsRefusedSchema c.args.text.now) c.from_residual-in_err-elements.result c.in_err-elements.field-0.0 c.from_residual-in_err-elements.ensures.1
    (refused_form c.args.text.now c.in_err-elements.field-0.0
    (λ fault. none_are c.args.text.now (view c.in_ok-json.json) (saids c.in-Some.all.items) c.in_ok-json.ensures.stands c.in_ok-json.ensures.nests says (c.in_err-elements.ensures.only fault)) c.in_err-elements.ensures.which)

pub returns-clause-stands : goal.returns-clause-stands
returns-clause-stands c =
    let says : Some (saids c.in-Some.all.items) ≡ all_said (view c.in_ok-json.json) = rw c.in-Some.is at c.in_ok-all.ensures in
    let es = elements_view c.in_ok-elements.elements.items in
    is_text_of c.args.text.now es c.new.result (said_found c.args.text.now (view c.in_ok-json.json) (saids c.in-Some.all.items) es c.in_ok-json.ensures.stands says c.in_ok-elements.ensures.stands)
    (subst (λ xs. IfOk c.new.result (IsSchemaOf (elements_view xs))) c.as_slice.ensures.value c.new.ensures.stands)

pub returns-clause-which : goal.returns-clause-which
returns-clause-which c =
    let says : Some (saids c.in-Some.all.items) ≡ all_said (view c.in_ok-json.json) = rw c.in-Some.is at c.in_ok-all.ensures in
    let es = elements_view c.in_ok-elements.elements.items in
    is_refused_list c.args.text.now es c.new.result (said_found c.args.text.now (view c.in_ok-json.json) (saids c.in-Some.all.items) es c.in_ok-json.ensures.stands says c.in_ok-elements.ensures.stands)
    (subst (λ xs. IfErr c.new.result (HasFault (elements_view xs))) c.as_slice.ensures.value c.new.ensures.which)

pub returns-clause-only : goal.returns-clause-only
returns-clause-only c =
    let says : Some (saids c.in-Some.all.items) ≡ all_said (view c.in_ok-json.json) = rw c.in-Some.is at c.in_ok-all.ensures in
    no_schema c.one_struct.ensures c.args.text.now (view c.in_ok-json.json) (saids c.in-Some.all.items) (elements_view c.in_ok-elements.elements.items) c.new.result c.in_ok-json.ensures.stands c.in_ok-json.ensures.nests says c.in_ok-elements.ensures.stands
    (subst (λ xs. OnFault c.new.result ((fs : Fields) → IsSchemaOf (elements_view xs) fs → ⊥)) c.as_slice.ensures.value c.new.ensures.only)
