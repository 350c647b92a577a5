use Rattle.std.proofs.Common.{refl}
use Rattle.thrift_compact.specs.View.{code_of}
use Rattle.thrift_compact.specs.Values.{ValueOf, ReadAs, passed}
use Rattle.thrift_compact.proofs.Refused.{refused}
use Rattle.thrift_compact.proofs.unread.Unread.pass.Goals as goal

pub returns-clause-stands : goal.returns-clause-stands
returns-clause-stands c = let s = c.in_ok-used.ensures.stands in (s.0, s.1, refl)

pub returns-in_err-used-clause-which : goal.returns-in_err-used-clause-which
returns-in_err-used-clause-which c =
    let bytes = c.args.self.bytes.now in
    let code = code_of c.args.self.kind in
    let left = c.args.self.left in
    refused (ValueOf code left) bytes (ReadAs passed code left) bytes c.from_residual.result c.in_err-used.field-0.0 c.from_residual.ensures.1 c.in_err-used.ensures.which
    (λ more nothing y used s. nothing s.0 used s.1)
