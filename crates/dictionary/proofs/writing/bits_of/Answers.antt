use Rattle.std.proofs.Common.{◌-◌, ◌≤◌, arith, refl}
use Rattle.std.specs.Int.Count.{count_leading_zeros}
use Rattle.std.proofs.lemmas.Nat.{leading_le}
use Rattle.dictionary.proofs.Widths.{bits_are}
use Rattle.dictionary.proofs.writing.bits_of.Goals as goal

pub returns : goal.returns
returns c =
    let leading = count_leading_zeros 32 c.args.index in
    let few : leading ≤ 32 = leading_le 32 c.args.index in
    let bits = bits_are c.args.index leading (32 - leading) (omega arith) refl (omega (arith, few)) in
    record { within = omega arith; holds = bits.holds; least = bits.least }
