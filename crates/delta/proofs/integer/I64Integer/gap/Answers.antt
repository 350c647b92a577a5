use Rattle.std.proofs.Common.{◌≡◌, subst, rules, FitsSigned}
use Rattle.std.specs.Prelude.{ℤ, pos, ◌+ℤ◌, ◌-ℤ◌, ◌≤ℤ◌}
use Rattle.std.specs.Int.{w64, int_wrap}
use Rattle.std.proofs.lemmas.Int.{to_z-of_z}
use Rattle.delta.proofs.Wrap.{leads, wide_bits}
use Rattle.delta.proofs.Least.{exact_64}
use Rattle.delta.proofs.integer.I64Integer.gap.Goals as goal

pub returns-clause-leads : goal.returns-clause-leads
returns-clause-leads c =
    let self_fits = c.ranges.self in
    let next_fits = c.ranges.next in
    let least_fits = c.ranges.least in
    let delta_fits : FitsSigned w64 c.difference.result = search rules in
    let gap_fits : FitsSigned w64 c.difference-2.result = search rules in
    let delta : c.difference.result ≡ int_wrap w64 (c.args.next -ℤ c.args.self) = simp to_z-of_z at c.difference.ensures in
    let gap : c.difference-2.result ≡ int_wrap w64 (c.difference.result -ℤ c.args.least) = simp to_z-of_z at c.difference-2.ensures in
    let number = simp to_z-of_z at c.cast_unsigned.ensures in
    leads w64 c.args.self c.args.next c.args.least c.difference.result c.difference-2.result c.cast_unsigned.result delta gap (wide_bits c.difference-2.result c.cast_unsigned.result gap_fits c.cast_unsigned.type_inv number) next_fits

pub returns-clause-exact : goal.returns-clause-exact
returns-clause-exact c = λ fits.
    let self_fits = c.ranges.self in
    let next_fits = c.ranges.next in
    let least_fits = c.ranges.least in
    let delta_fits : FitsSigned w64 c.difference.result = search rules in
    let gap_fits : FitsSigned w64 c.difference-2.result = search rules in
    let delta : c.difference.result ≡ int_wrap w64 (c.args.next -ℤ c.args.self) = simp to_z-of_z at c.difference.ensures in
    let gap : c.difference-2.result ≡ int_wrap w64 (c.difference.result -ℤ c.args.least) = simp to_z-of_z at c.difference-2.ensures in
    let number = simp to_z-of_z at c.cast_unsigned.ensures in
    subst (λ (z : ℤ). c.args.least ≤ℤ z → c.args.least +ℤ pos c.cast_unsigned.result ≡ z) delta (exact_64 c.args.least c.difference.result c.difference-2.result c.cast_unsigned.result least_fits delta_fits gap number)
