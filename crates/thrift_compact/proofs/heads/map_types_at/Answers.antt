use Rattle.std.proofs.Common.{ℕ, ◌+◌, ◌*◌, ◌++◌, drop, subst}
use Rattle.bits.proofs.Facts.{one_uleb, uleb_stays}
use Rattle.thrift_compact.specs.Compact.{IsByte, IsMapHead}
use Rattle.thrift_compact.proofs.Refused.{refused}
use Rattle.thrift_compact.proofs.Stays.{in_rest}
use Rattle.thrift_compact.proofs.heads.map_types_at.Goals as goal

pub returns-in_err-byte-clause-which : goal.returns-in_err-byte-clause-which
returns-in_err-byte-clause-which c =
    let bytes = c.args.bytes.now in
    let rest = c.split_at.result.1.now in
    let size = c.args.size in
    refused IsByte rest (λ bytes (h : ℕ × ℕ). IsMapHead bytes h.0 h.1 size) bytes c.from_residual.result c.in_err-byte.field-0.0 c.from_residual.ensures.1 c.in_err-byte.ensures.which
    (λ more nothing h used s.
    let b : ℕ = 16 * h.0 + h.1 in
    let o = one_uleb (bytes ++ more) size size s.head c.args.head s.size (uleb_stays bytes more size c.args.head c.requires.size) in
    let byte = subst (λ (n : ℕ). IsByte (drop n (bytes ++ more)) b 1) o.1 s.byte in
    nothing b 1 (in_rest (λ t. IsByte t b 1) c.args.head bytes rest more c.split_at.ensures.back c.requires.size.within byte))
