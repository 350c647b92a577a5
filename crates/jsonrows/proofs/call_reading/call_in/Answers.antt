use Rattle.bits.proofs.Passing.{passes}
use Rattle.serde_json.specs.View.{view}
use Rattle.table.specs.Views.{call_view}
use Rattle.jsonrows.specs.Calls.{IsCallAs, IsRefusedValueAs}
use Rattle.jsonrows.proofs.CallFaults.{form_refused, at_schema, calls_made, calls_refused}
use Rattle.jsonrows.proofs.call_reading.call_in.Goals as goal

pub returns-in_err-form-clause-which : goal.returns-in_err-form-clause-which
returns-in_err-form-clause-which c =
    let e = c.in_err-form.field-0.0 in
    passes (IsRefusedValueAs c.args.texts c.args.schema.now (view c.args.json.now)) c.from_residual.result e c.from_residual.ensures.1 (form_refused c.args.texts c.args.schema.now (view c.args.json.now) e c.in_err-form.ensures.which)

pub returns-in-AddColumn-clause-stands : goal.returns-in-AddColumn-clause-stands
returns-in-AddColumn-clause-stands c = at_schema c.args.texts c.args.schema.now (λ b fs call. IsCallAs b fs (view c.args.json.now) (call_view call)) c.new_column.result c.new_column.ensures.stands

pub returns-in_default : goal.returns-in_default
returns-in_default c = record {
  stands = calls_made c.args.texts call_view c.args.schema.now (view c.args.json.now) c.in_ok-form.form c.call_by.result c.in_ok-form.ensures.made c.call_by.ensures.made;
  which = calls_refused c.args.texts c.args.schema.now (view c.args.json.now) c.in_ok-form.form c.call_by.result c.in_ok-form.ensures.made c.in_default.not-AddColumn c.call_by.ensures.which;
}
