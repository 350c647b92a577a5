use Rattle.std.proofs.Common.{◌≡◌, ◌*◌, ◌%◌, ◌/◌, ◌^◌, ◌<◌, ◌≤◌, ℕ, List, arith, get_or, drop, ap, ◌∙◌}
use Rattle.std.proofs.Math.Pow.{pow_mono}
use Rattle.byteorder.specs.Endian.{little_number}
use Rattle.bits.proofs.Loads.{load-is}
use Rattle.bits.proofs.lanes.lane.Goals as goal

pub returns : goal.returns
returns c =
    let word : c.read_u64-word.result ≡ little_number 8 (drop (c.args.start / 8) c.args.bytes.now) = c.read_u64-word.ensures ∙ ap (λ (t : List ℕ). little_number 8 t) c.split_at.ensures.back in
    let bytes : (i : ℕ) → get_or c.args.bytes.now i 0 < 256 = λ i. omega (arith, c.type_inv.bytes i) in
    let top : 2 ^ c.args.width ≤ 2 ^ 32 = pow_mono {i = c.args.width} {j = 32} (omega (arith, c.requires.narrow)) in
    let mask : 1 * 2 ^ c.args.width % 18446744073709551616 ≡ 2 ^ c.args.width = omega (arith, top) in
    rw (word, mask) (load-is c.args.bytes.now c.args.start c.args.width bytes c.requires.narrow c.requires.within)
