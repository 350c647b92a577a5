use Rattle.std.proofs.Common.{◌≡◌, ◌-◌, ◌*◌, ◌%◌, ◌^◌, ◌<◌, ℕ, List, length, drop, get_or, ap, ◌∙◌, arith}
use Rattle.std.proofs.lemmas.Nat.{and_mask}
use Rattle.byteorder.specs.Endian.{big_number}
use Rattle.statistics.proofs.ShortFronts.{twos}
use Rattle.statistics.proofs.text.front_of_twos.Goals as goal

pub returns : goal.returns
returns c =
    let last : c.from-last.result ≡ big_number 2 (drop (length c.args.bytes.now - 2) c.args.bytes.now) =
    c.from-last.ensures ∙ c.read_u16-2.ensures ∙ ap (λ (t : List ℕ). big_number 2 t) c.split_at.ensures.back in
    let low : (i : ℕ) → get_or c.args.bytes.now i 0 < 256 = λ i. omega (arith, c.type_inv.bytes i) in
    let fits : c.from-first.result < 2 ^ 16 = omega (arith, c.from-first.ensures, c.read_u16.type_inv) in
    twos c.args.bytes.now c.from-first.result c.from-last.result low c.requires.least c.requires.most fits (c.from-first.ensures ∙ c.read_u16.ensures) last

pub overflow_add-result : goal.overflow_add-result
overflow_add-result c =
    omega (arith, c.from-first.ensures, c.read_u16.type_inv, and_mask (c.from-last.result * 2 ^ (32 - 8 * length c.args.bytes.now) % 18446744073709551616) 16)
