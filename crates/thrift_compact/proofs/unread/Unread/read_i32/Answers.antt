use Rattle.thrift_compact.specs.Tree.{i32}
use Rattle.thrift_compact.specs.inner.Reading.{IsNumber}
use Rattle.thrift_compact.specs.View.{code_of}
use Rattle.thrift_compact.specs.Values.{ValueOf}
use Rattle.thrift_compact.proofs.Refused.{refused}
use Rattle.thrift_compact.proofs.unread.Unread.read_i32.Goals as goal

pub returns-in_err-int-in-I32-clause-which : goal.returns-in_err-int-in-I32-clause-which
returns-in_err-int-in-I32-clause-which c =
    let bytes = c.args.self.bytes.now in
    refused IsNumber bytes (λ b y. ValueOf (code_of c.args.self.kind) c.args.self.left b (i32 y)) bytes c.from_residual.result c.in_err-int-in-I32.field-0.0 c.from_residual.ensures.1 c.in_err-int-in-I32.ensures.which
    (λ more nothing y used s. nothing y used s.2)
