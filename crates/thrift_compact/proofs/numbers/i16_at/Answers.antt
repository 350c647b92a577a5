use Rattle.std.proofs.Common.{subst}
use Rattle.std.specs.Prelude.{ℤ, FitsSigned}
use Rattle.std.specs.Int.{w16, w64}
use Rattle.std.proofs.lemmas.Int.{to_z-of_z}
use Rattle.thrift_compact.specs.Compact.{IsSigned}
use Rattle.thrift_compact.specs.inner.Reading.{IsShortNumber}
use Rattle.thrift_compact.proofs.Parts.{signed_fits}
use Rattle.thrift_compact.proofs.Refused.{refused}
use Rattle.thrift_compact.proofs.Stays.{same_signed}
use Rattle.thrift_compact.proofs.numbers.i16_at.Goals as goal

pub returns-in_err-z-clause-which : goal.returns-in_err-z-clause-which
returns-in_err-z-clause-which c =
    refused IsSigned c.args.bytes.now IsShortNumber c.args.bytes.now c.from_residual.result c.in_err-z.field-0.0 c.from_residual.ensures.1 c.in_err-z.ensures.which (λ more nothing z used s. nothing z used s.0)

pub returns-in-Err-clause-which : goal.returns-in-Err-clause-which
returns-in-Err-clause-which c more y used s =
    let e = same_signed c.args.bytes.now more y c.in_ok-z.z c.in_ok-z.used used c.in_ok-z.ensures.stands s.0 in
    let fits = subst (λ (t : ℤ). FitsSigned w16 t) e s.1 in
    c.in-Err.ensures (rw (to_z-of_z w64 c.in_ok-z.z (signed_fits c.in_ok-z.z c.in_ok-z.ensures.stands.fits)) fits)
