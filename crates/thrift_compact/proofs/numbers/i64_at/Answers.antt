use Rattle.bits.specs.Varint.{IsUleb, zigzag_of}
use Rattle.thrift_compact.specs.Compact.{IsSigned}
use Rattle.thrift_compact.proofs.Refused.{refused, uleb_refused}
use Rattle.thrift_compact.proofs.numbers.i64_at.Goals as goal

pub returns-in_err-n-clause-which : goal.returns-in_err-n-clause-which
returns-in_err-n-clause-which c =
    let bytes = c.args.bytes.now in
    refused IsUleb bytes IsSigned bytes c.from_residual.result c.in_err-n.field-0.0 c.from_residual.ensures.1
    (uleb_refused bytes c.in_err-n.field-0.0 c.in_err-n.ensures.only c.in_err-n.ensures.which c.in_err-n.ensures.truncated) (λ more nothing z used s. nothing (zigzag_of z) used s)
