use Rattle.std.proofs.Common.{◌-◌, ◌++◌, ap}
use Rattle.thrift_compact.specs.View.{code_of}
use Rattle.thrift_compact.specs.Values.{ReadAs, fields_by}
use Rattle.thrift_compact.specs.inner.Reading.{FieldsTaken}
use Rattle.thrift_compact.proofs.Refused.{refused}
use Rattle.thrift_compact.proofs.TakenParts.{struct_taken, taken_struct}
use Rattle.thrift_compact.proofs.unread.Unread.take_fields.Goals as goal

pub returns-in_ok-used-in-Struct-clause-stands : goal.returns-in_ok-used-in-Struct-clause-stands
returns-in_ok-used-in-Struct-clause-stands g c =
    let T = g.T.TakesFields in
    let self = c.args.self in
    taken_struct T.step (T.shown c.args.taker.now) (code_of self.kind) self.left self.bytes.now (T.shown c.fields_taken_at.new.taker) c.in_ok-used-in-Struct.used (ap code_of c.in-Struct.is) c.if-self-eq0.false c.in_ok-used-in-Struct.ensures.stands

pub returns-in_err-used-in-Struct-clause-which : goal.returns-in_err-used-in-Struct-clause-which
returns-in_err-used-in-Struct-clause-which g c =
    let T = g.T.TakesFields in
    let start = T.shown c.args.taker.now in
    let bytes = c.args.self.bytes.now in
    let code = code_of c.args.self.kind in
    let left = c.args.self.left in
    refused (FieldsTaken T.step start (left - 1)) bytes (ReadAs (fields_by T.step start) code left) bytes c.from_residual.result c.in_err-used-in-Struct.field-0.0 c.from_residual.ensures.1 c.in_err-used-in-Struct.ensures.which
    (λ more nothing held used s. nothing held used (struct_taken T.step start code left (bytes ++ more) held used (ap code_of c.in-Struct.is) s))
