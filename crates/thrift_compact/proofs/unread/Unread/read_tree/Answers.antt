use Rattle.std.proofs.Common.{◌-◌, arith}
use Rattle.thrift_compact.specs.Tree.{struct}
use Rattle.thrift_compact.specs.inner.Reading.{FieldsOf}
use Rattle.thrift_compact.specs.View.{code_of}
use Rattle.thrift_compact.specs.Values.{ValueOf}
use Rattle.thrift_compact.proofs.Refused.{refused}
use Rattle.thrift_compact.proofs.unread.Unread.read_tree.Goals as goal

pub returns-in_err-fields-in-Struct-clause-which : goal.returns-in_err-fields-in-Struct-clause-which
returns-in_err-fields-in-Struct-clause-which c =
    let bytes = c.args.self.bytes.now in
    let left = c.args.self.left in
    refused (FieldsOf (left - 1)) bytes (λ b y. ValueOf (code_of c.args.self.kind) left b (struct y)) bytes c.from_residual.result c.in_err-fields-in-Struct.field-0.0 c.from_residual.ensures.1 c.in_err-fields-in-Struct.ensures.which
    (λ more nothing y used s. nothing y used (omega (arith, s.1), s.2))
