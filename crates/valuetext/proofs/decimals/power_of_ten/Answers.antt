use Rattle.std.proofs.Common.{◌^◌, ◌≤◌, ◌<◌, arith}
use Rattle.std.proofs.Math.Nat.{pow-le-pow_right}
use Rattle.jiff_fmt.proofs.ReaderLemmas.{ten_pow-pos}
use Rattle.valuetext.proofs.decimals.power_of_ten.Goals as goal

pub pow-requires : goal.pow-requires
pow-requires c =
    let most : 10 ^ c.args.exponent ≤ 10 ^ 38 = pow-le-pow_right {n = 10} (omega arith) c.requires in
    omega (arith, most)

pub returns-clause-bound : goal.returns-clause-bound
returns-clause-bound c =
    let most : 10 ^ c.args.exponent ≤ 10 ^ 38 = pow-le-pow_right {n = 10} (omega arith) c.requires in
    let some : 0 < 10 ^ c.args.exponent = ten_pow-pos c.args.exponent in
    (omega (arith, some), omega (arith, most))
