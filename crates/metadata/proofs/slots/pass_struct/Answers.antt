use Rattle.thrift_compact.specs.View.{code_of}
use Rattle.thrift_compact.specs.Values.{ReadAs, fields_by}
use Rattle.metadata.specs.FieldValues.{any_struct}
use Rattle.metadata.specs.inner.Slots.{other_step}
use Rattle.metadata.proofs.Readings.{refused, same_read, same_refused, any_struct_is}
use Rattle.metadata.proofs.slots.pass_struct.Goals as goal

pub returns-clause-stands : goal.returns-clause-stands
returns-clause-stands c = let v = c.args.value in same_read (fields_by other_step tt) any_struct (code_of v.kind) v.left v.bytes.now tt c.in_ok-used.used any_struct_is c.in_ok-used.ensures.stands

pub returns-in_err-used-clause-which : goal.returns-in_err-used-clause-which
returns-in_err-used-clause-which c =
    let v = c.args.value in
    refused (ReadAs (fields_by other_step tt) (code_of v.kind) v.left) (ReadAs any_struct (code_of v.kind) v.left) v.bytes.now c.from_residual.result c.in_err-used.field-0.0 c.from_residual.ensures.1 c.in_err-used.ensures.which
    (same_refused (fields_by other_step tt) any_struct (code_of v.kind) v.left any_struct_is)
