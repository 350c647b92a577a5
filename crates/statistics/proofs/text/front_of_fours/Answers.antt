use Rattle.std.proofs.Common.{◌≡◌, ◌-◌, ◌*◌, ◌%◌, ◌^◌, ◌<◌, ℕ, List, length, drop, get_or, ap, ◌∙◌, arith}
use Rattle.std.proofs.lemmas.Nat.{and_mask}
use Rattle.byteorder.specs.Endian.{big_number}
use Rattle.statistics.proofs.ShortFronts.{fours}
use Rattle.statistics.proofs.text.front_of_fours.Goals as goal

pub returns : goal.returns
returns c =
    let last : c.from-last.result ≡ big_number 4 (drop (length c.args.bytes.now - 4) c.args.bytes.now) =
    c.from-last.ensures ∙ c.read_u32-2.ensures ∙ ap (λ (t : List ℕ). big_number 4 t) c.split_at.ensures.back in
    let low : (i : ℕ) → get_or c.args.bytes.now i 0 < 256 = λ i. omega (arith, c.type_inv.bytes i) in
    let fits : c.from-first.result < 2 ^ 32 = omega (arith, c.from-first.ensures, c.read_u32.type_inv) in
    fours c.args.bytes.now c.from-first.result c.from-last.result low c.requires.least c.requires.most fits (c.from-first.ensures ∙ c.read_u32.ensures) last

pub overflow_add-result : goal.overflow_add-result
overflow_add-result c =
    omega (arith, c.from-first.ensures, c.read_u32.type_inv, and_mask (c.from-last.result * 2 ^ (64 - 8 * length c.args.bytes.now) % 18446744073709551616) 32)
