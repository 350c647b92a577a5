use Rattle.thrift_compact.specs.View.{code_of}
use Rattle.thrift_compact.specs.Values.{ValueOf, ReadAs, truth_of}
use Rattle.metadata.specs.FieldValues.{boolean}
use Rattle.metadata.proofs.Readings.{refused, form_read, form_refused, boolean_is, truth_read}
use Rattle.metadata.proofs.known.BoolFromNode.from_unread.Goals as goal

pub returns-clause-stands : goal.returns-clause-stands
returns-clause-stands c = let v = c.args.value in form_read boolean truth_of (code_of v.kind) v.left v.bytes.now c.in_ok-found.found c.in_ok-found.used truth_read c.in_ok-found.ensures.stands

pub returns-in_err-found-clause-which : goal.returns-in_err-found-clause-which
returns-in_err-found-clause-which c =
    let v = c.args.value in
    refused (λ b y. ValueOf (code_of v.kind) v.left b (truth_of y)) (ReadAs boolean (code_of v.kind) v.left) v.bytes.now c.from_residual.result c.in_err-found.field-0.0 c.from_residual.ensures.1 c.in_err-found.ensures.which
    (form_refused boolean truth_of (code_of v.kind) v.left boolean_is)
