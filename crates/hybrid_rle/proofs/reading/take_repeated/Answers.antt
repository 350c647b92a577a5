use Rattle.std.proofs.Common.{◌≡◌, ◌∙◌, ◌/◌, ◌++◌, ◌<◌, ◌≤◌, ◌^◌, take, length, map, replicate, arith, ap, inl, inr, ◌⊎◌}
use Rattle.std.proofs.lemmas.Bool.{cases_lt}
use Rattle.std.proofs.Math.Pow.{pow_mono}
use Rattle.hybrid_rle.specs.Hybrid.{little_endian}
use Rattle.hybrid_rle.proofs.Taking.{repeated_taken, grown}
use Rattle.hybrid_rle.proofs.reading.take_repeated.Goals as goal

pub from_number-requires : goal.from_number-requires
from_number-requires g c =
    let narrow : c.number_of-value.result < 2 ^ c.args.width = c.is_narrow.ensures.0 c.if-not-is_narrow.false in
    let most : 2 ^ c.args.width ≤ 2 ^ g.T.Number.widest = pow_mono {i = c.args.width} {j = g.T.Number.widest} c.requires.wide in
    omega (arith, narrow, most)

pub returns-clause-numbers : goal.returns-clause-numbers
returns-clause-numbers g c =
    let w = c.args.width in
    let h = c.args.header in
    let seen = g.T.Number.seen in
    let bytes = c.args.bytes.now in
    let old = c.args.numbers.now.items in
    let new = c.resize.new.self.items in
    let count = c.min-count.result in
    let number = c.from_number.result in
    let size = c.div_ceil-size.result in
    let len : c.args.numbers.now.len ≡ length old = c.args.numbers.now.ok.0 in
    let long : c.len.result ≡ length old = omega (arith, c.len.ensures) in
    let value : seen number ≡ little_endian (take size bytes) = c.from_number.ensures ∙ c.number_of-value.ensures ∙ ap little_endian c.split_at.ensures.front in
    let seen_items : map seen new ≡ map seen old ++ replicate count (little_endian (take size bytes)) = grown seen old new c.len.result count (little_endian (take size bytes)) number long value (rw len at c.in_ok-resize.ensures.items) in
    let narrow : c.number_of-value.result < 2 ^ w = c.is_narrow.ensures.0 c.if-not-is_narrow.false in
    let which : (count ≡ c.args.left) ⊎ (count ≡ h / 2) = elim (cases_lt c.args.left (h / 2)) [ inl lt ↦ inl (omega (arith, c.min-count.ensures)) | inr le ↦ inr (omega (arith, c.min-count.ensures)) ] in
    rw seen_items (repeated_taken w h c.args.left size count bytes (map seen old) c.requires.even (omega (arith, c.div_ceil-size.ensures)) c.if-bytes-size.false (omega (arith, narrow, c.number_of-value.ensures, ap little_endian c.split_at.ensures.front)) (omega (arith, c.min-count.ensures)) (omega (arith, c.min-count.ensures)) which)
