use Rattle.std.proofs.Common.{ℕ, ◌++◌}
use Rattle.bits.specs.Varint.{IsUleb}
use Rattle.thrift_compact.specs.Compact.{IsByte, IsListHead}
use Rattle.thrift_compact.proofs.Parts.{list_head_byte, long_list}
use Rattle.thrift_compact.proofs.Refused.{refused, uleb_refused}
use Rattle.thrift_compact.proofs.Stays.{byte_stays, in_rest}
use Rattle.thrift_compact.proofs.heads.list_head_at.Goals as goal

pub returns-in_err-byte-clause-which : goal.returns-in_err-byte-clause-which
returns-in_err-byte-clause-which c =
    let bytes = c.args.bytes.now in
    refused IsByte bytes (λ bytes (h : ℕ × ℕ). IsListHead bytes h.0 h.1) bytes c.from_residual.result c.in_err-byte.field-0.0 c.from_residual.ensures.1 c.in_err-byte.ensures.which
    (λ more nothing h used s. let b = list_head_byte (bytes ++ more) h.0 h.1 used s in nothing b.0 1 b.1)

pub returns-in_err-size-clause-which : goal.returns-in_err-size-clause-which
returns-in_err-size-clause-which c =
    let bytes = c.args.bytes.now in
    let rest = c.split_at.result.1.now in
    refused IsUleb rest (λ bytes (h : ℕ × ℕ). IsListHead bytes h.0 h.1) bytes c.from_residual-in_err-size.result c.in_err-size.field-0.0 c.from_residual-in_err-size.ensures.1
    (uleb_refused rest c.in_err-size.field-0.0 c.in_err-size.ensures.only c.in_err-size.ensures.which c.in_err-size.ensures.truncated)
    (λ more nothing h used s.
    let r = long_list (bytes ++ more) h.0 h.1 used c.in_ok-byte.byte (byte_stays bytes more c.in_ok-byte.byte 1 c.in_ok-byte.ensures.stands) c.if-byte-lt240.false s in
    nothing h.1 r.rest (in_rest (λ b. IsUleb b h.1 r.rest) 1 bytes rest more c.split_at.ensures.back c.in_ok-byte.ensures.stands.some r.is))
