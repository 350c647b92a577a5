use Rattle.std.proofs.Common.{◌≡◌, ◌+◌, ◌*◌, ◌/◌, ◌%◌, ◌^◌, ◌<◌, arith, eq-eqb}
use Rattle.std.proofs.lemmas.Bool.{eqb-true}
use Rattle.std.proofs.lemmas.Nat.{shr_split, mod_below, pow_pos, div_below}
use Rattle.hybrid_rle.proofs.number.is_narrow.Goals as goal

pub returns-else-width-eq64 : goal.returns-else-width-eq64
returns-else-width-eq64 c =
    let v = c.args.number in
    let unit = 2 ^ c.args.width in
    let split : v / 2 ^ c.args.width * 2 ^ c.args.width + v % 2 ^ c.args.width ≡ v = shr_split v c.args.width in
    let small : v % 2 ^ c.args.width < 2 ^ c.args.width = mod_below v (2 ^ c.args.width) (pow_pos c.args.width) in (
      λ t. let z : v / 2 ^ c.args.width ≡ 0 = eqb-true _ _ t in let w : 0 * 2 ^ c.args.width + v % 2 ^ c.args.width ≡ v = rw z at split in omega arith,
      λ lt. let z : v / 2 ^ c.args.width < 1 = div_below v (2 ^ c.args.width) 1 (pow_pos c.args.width) (omega arith) in eq-eqb _ _ (omega arith),
    )
