use Rattle.thrift_compact.specs.Tree.{binary}
use Rattle.thrift_compact.specs.Compact.{IsBinary}
use Rattle.thrift_compact.specs.View.{code_of}
use Rattle.thrift_compact.specs.Values.{ValueOf}
use Rattle.thrift_compact.proofs.Refused.{refused}
use Rattle.thrift_compact.proofs.unread.Unread.read_binary.Goals as goal

pub returns-in_err-text-in-Binary-clause-which : goal.returns-in_err-text-in-Binary-clause-which
returns-in_err-text-in-Binary-clause-which c =
    let bytes = c.args.self.bytes.now in
    refused IsBinary bytes (λ b y. ValueOf (code_of c.args.self.kind) c.args.self.left b (binary y)) bytes c.from_residual.result c.in_err-text-in-Binary.field-0.0 c.from_residual.ensures.1 c.in_err-text-in-Binary.ensures.which
    (λ more nothing y used s. nothing y used s.2)
