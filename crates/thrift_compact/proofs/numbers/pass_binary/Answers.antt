use Rattle.std.proofs.Common.{length, arith}
use Rattle.bits.specs.Varint.{IsUleb}
use Rattle.thrift_compact.specs.Compact.{IsBinary}
use Rattle.thrift_compact.proofs.PassedOver.{binary_past}
use Rattle.thrift_compact.proofs.Refused.{refused, uleb_refused}
use Rattle.thrift_compact.proofs.numbers.pass_binary.Goals as goal

pub returns-in_err-size-clause-which : goal.returns-in_err-size-clause-which
returns-in_err-size-clause-which c =
    let bytes = c.args.bytes.now in
    refused IsUleb bytes IsBinary bytes c.from_residual.result c.in_err-size.field-0.0 c.from_residual.ensures.1
    (uleb_refused bytes c.in_err-size.field-0.0 c.in_err-size.ensures.only c.in_err-size.ensures.which c.in_err-size.ensures.truncated) (λ more nothing text used s. nothing (length text) s.head s.size)

pub returns-clause-stands : goal.returns-clause-stands
returns-clause-stands c = binary_past c.args.bytes.now c.in_ok-size.size c.in_ok-size.head c.in_ok-size.ensures.stands (omega (arith, c.if-size-bytes.false, c.in_ok-size.ensures.within))
