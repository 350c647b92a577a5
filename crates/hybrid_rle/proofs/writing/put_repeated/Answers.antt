use Rattle.std.proofs.Common.{◌≡◌, ◌<◌, ◌^◌, ◌∙◌, ◌+◌, ◌/◌, ℕ, List, take, ap, arith}
use Rattle.hybrid_rle.specs.Hybrid.{little_endian}
use Rattle.hybrid_rle.proofs.Numbers.{low_bytes}
use Rattle.hybrid_rle.proofs.Putting.{repeated_put}
use Rattle.hybrid_rle.proofs.writing.put_repeated.Goals as goal

pub returns-clause-put : goal.returns-clause-put
returns-clause-put c = λ xs many within equal.
    let w = c.args.width in
    let number = c.args.number in
    let narrow : number < 2 ^ w = c.is_narrow.ensures.0 c.if-not-is_narrow.false in
    let size : c.div_ceil.result ≡ (w + 7) / 8 = omega (arith, c.div_ceil.ensures) in
    let body : c.split_at.result.0.now ≡ take ((w + 7) / 8) c.to_le_bytes.result = c.split_at.ensures.front ∙ ap (λ (k : ℕ). take k c.to_le_bytes.result) size in
    let value : little_endian c.split_at.result.0.now ≡ number = ap little_endian (body ∙ ap (λ (t : List ℕ). take ((w + 7) / 8) t) c.to_le_bytes.ensures) ∙ low_bytes w number c.requires.wide narrow in
    repeated_put w number c.args.count xs c.args.out.now.items c.write_uleb.new.out.items c.extend_from_slice.new.self.items c.split_at.result.0.now c.requires.wide narrow many within equal
    c.in_ok-write_uleb.ensures.stands c.in_ok-extend_from_slice.ensures.items (omega (arith, c.split_at.ensures.front_len, size)) value
