use Rattle.std.proofs.Common.{ℕ, ◌++◌}
use Rattle.std.specs.Prelude.{ℤ}
use Rattle.thrift_compact.specs.Compact.{IsByte, IsFieldHead, IsSigned}
use Rattle.thrift_compact.specs.inner.Reading.{IsShortNumber}
use Rattle.thrift_compact.proofs.Parts.{field_head_byte, long_field}
use Rattle.thrift_compact.proofs.Refused.{refused}
use Rattle.thrift_compact.proofs.Stays.{byte_stays, in_rest}
use Rattle.thrift_compact.proofs.heads.field_head_at.Goals as goal

pub returns-in_err-byte-clause-which : goal.returns-in_err-byte-clause-which
returns-in_err-byte-clause-which c =
    let bytes = c.args.bytes.now in
    refused IsByte bytes (λ bytes (h : ℤ × ℕ). IsFieldHead c.args.previous bytes h.0 h.1) bytes c.from_residual.result c.in_err-byte.field-0.0 c.from_residual.ensures.1 c.in_err-byte.ensures.which
    (λ more nothing h used s. let b = field_head_byte c.args.previous (bytes ++ more) h.0 h.1 used s in nothing b.0 1 b.1)

pub returns-in_err-id-clause-which : goal.returns-in_err-id-clause-which
returns-in_err-id-clause-which c =
    let bytes = c.args.bytes.now in
    let rest = c.split_at.result.1.now in
    refused IsShortNumber rest (λ bytes (h : ℤ × ℕ). IsFieldHead c.args.previous bytes h.0 h.1) bytes c.from_residual-in_err-id.result c.in_err-id.field-0.0 c.from_residual-in_err-id.ensures.1 c.in_err-id.ensures.which
    (λ more nothing h used s.
    let r = long_field c.args.previous (bytes ++ more) h.0 h.1 used c.in_ok-byte.byte (byte_stays bytes more c.in_ok-byte.byte 1 c.in_ok-byte.ensures.stands) c.if-byte-ge16.false s in
    nothing h.0 r.rest (in_rest (λ b. IsSigned b h.0 r.rest) 1 bytes rest more c.split_at.ensures.back c.in_ok-byte.ensures.stands.some r.is, s.2))
