use Rattle.thrift_compact.specs.View.{code_of}
use Rattle.thrift_compact.specs.Values.{ReadAs}
use Rattle.thrift_compact.specs.inner.Reading.{ElementRead}
use Rattle.std.proofs.Common.{◌++◌}
use Rattle.thrift_compact.proofs.Refused.{refused}
use Rattle.thrift_compact.proofs.TakenParts.{value_of_element, plain_type}
use Rattle.thrift_compact.proofs.taking.element_taken.Goals as goal

pub returns-in_err-used-in_default-clause-which : goal.returns-in_err-used-in_default-clause-which
returns-in_err-used-in_default-clause-which g c =
    let T = g.T.TakesElements in
    let start = T.shown c.args.taker.now in
    let bytes = c.args.value.bytes.now in
    let code = code_of c.args.value.kind in
    let left = c.args.value.left in
    refused (ReadAs (T.step start) code left) bytes (ElementRead (T.step start) code left) bytes c.from_residual.result c.in_err-used-in_default.field-0.0 c.from_residual.ensures.1 c.in_err-used-in_default.ensures.which
    (λ more nothing y used s. nothing y used (value_of_element (T.step start) code left (bytes ++ more) y used (plain_type c.args.value.kind c.requires.named c.in_default.not-True c.in_default.not-False) s))
