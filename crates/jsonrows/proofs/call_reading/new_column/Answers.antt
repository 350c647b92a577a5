use Rattle.std.proofs.Common.{Bool, sym, ap, ◌∙◌}
use Rattle.serde_json.specs.View.{view}
use Rattle.schema.specs.Shape.{Fields}
use Rattle.jsonrows.specs.Calls.{IsRefusedValueAs}
use Rattle.jsonrows.proofs.CallFaults.{field_depth, field_refused}
use Rattle.bits.proofs.Passing.{passes}
use Rattle.std.specs.Prelude.{option_map}
use Rattle.jsonrows.proofs.call_reading.new_column.Goals as goal

pub elements_of_field-requires : goal.elements_of_field-requires
elements_of_field-requires c = field_depth (view c.args.json.now) (view c.in-Some.field.now) (sym c.get.ensures ∙ ap (option_map (λ v. view v.now)) c.in-Some.is) c.requires.nests

pub returns-in_err-elements-clause-which : goal.returns-in_err-elements-clause-which
returns-in_err-elements-clause-which c =
    let e = c.in_err-elements.field-0.0 in
    passes (λ x. (texts : Bool) (fs : Fields) → IsRefusedValueAs texts fs (view c.args.json.now) x) c.from_residual.result e c.from_residual.ensures.1
    (λ texts. field_refused texts (view c.args.json.now) (view c.in-Some.field.now) e c.requires.formed (sym c.get.ensures ∙ ap (option_map (λ v. view v.now)) c.in-Some.is) c.in_err-elements.ensures.only c.in_err-elements.ensures.which)
