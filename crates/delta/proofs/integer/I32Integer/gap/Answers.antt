use Rattle.std.proofs.Common.{◌≡◌, ◌∙◌, ap, subst, rules, FitsSigned}
use Rattle.std.specs.Prelude.{ℤ, pos, ◌+ℤ◌, ◌-ℤ◌, ◌≤ℤ◌}
use Rattle.std.specs.Int.{w32, w64, int_wrap, cast_unsigned}
use Rattle.std.proofs.lemmas.Int.{to_z-of_z, int_wrap-sub_right, SFits-int_wrap}
use Rattle.delta.proofs.Wrap.{leads, narrow_bits, bits_are}
use Rattle.delta.proofs.Least.{exact_32}
use Rattle.delta.proofs.integer.I32Integer.gap.Goals as goal

pub returns-clause-leads : goal.returns-clause-leads
returns-clause-leads c =
    let self_fits = c.ranges.self in
    let next_fits = c.ranges.next in
    let least_fits = c.ranges.least in
    let delta_fits : FitsSigned w32 c.narrow_difference-delta.result = search rules in
    let gap_fits : FitsSigned w32 c.narrow_difference.result = search rules in
    let low_fits : FitsSigned w32 c.low.result = search rules in
    let delta : c.narrow_difference-delta.result ≡ int_wrap w32 (c.args.next -ℤ c.args.self) = simp to_z-of_z at c.narrow_difference-delta.ensures in
    let least : c.cast_unsigned.result ≡ cast_unsigned w64 c.args.least = simp to_z-of_z at c.cast_unsigned.ensures in
    let low : c.low.result ≡ int_wrap w32 c.args.least = c.low.ensures ∙ ap (λ k. int_wrap w32 (pos k)) least ∙ bits_are c.args.least least_fits in
    let gap : c.narrow_difference.result ≡ int_wrap w32 (c.narrow_difference-delta.result -ℤ c.low.result) = simp to_z-of_z at c.narrow_difference.ensures in
    let whole : c.narrow_difference.result ≡ int_wrap w32 (c.narrow_difference-delta.result -ℤ c.args.least) = gap ∙ ap (λ z. int_wrap w32 (c.narrow_difference-delta.result -ℤ z)) low ∙ int_wrap-sub_right w32 c.narrow_difference-delta.result c.args.least in
    let number : c.cast_unsigned-2.result ≡ cast_unsigned w32 c.narrow_difference.result = simp to_z-of_z at c.cast_unsigned-2.ensures in
    leads w32 c.args.self c.args.next c.args.least c.narrow_difference-delta.result c.narrow_difference.result c.from.result delta whole
    (ap (λ k. int_wrap w32 (pos k)) c.from.ensures ∙ narrow_bits c.narrow_difference.result c.cast_unsigned-2.result gap_fits c.cast_unsigned-2.type_inv number) next_fits

pub returns-clause-exact : goal.returns-clause-exact
returns-clause-exact c = λ fits.
    let self_fits = c.ranges.self in
    let next_fits = c.ranges.next in
    let least_fits = c.ranges.least in
    let low_least : FitsSigned w32 c.args.least = subst (λ (z : ℤ). FitsSigned w32 z) fits (SFits-int_wrap w32 c.args.least) in
    let delta_fits : FitsSigned w32 c.narrow_difference-delta.result = search rules in
    let gap_fits : FitsSigned w32 c.narrow_difference.result = search rules in
    let low_fits : FitsSigned w32 c.low.result = search rules in
    let delta : c.narrow_difference-delta.result ≡ int_wrap w32 (c.args.next -ℤ c.args.self) = simp to_z-of_z at c.narrow_difference-delta.ensures in
    let least : c.cast_unsigned.result ≡ cast_unsigned w64 c.args.least = simp to_z-of_z at c.cast_unsigned.ensures in
    let low : c.low.result ≡ int_wrap w32 c.args.least = c.low.ensures ∙ ap (λ k. int_wrap w32 (pos k)) least ∙ bits_are c.args.least least_fits in
    let gap : c.narrow_difference.result ≡ int_wrap w32 (c.narrow_difference-delta.result -ℤ c.low.result) = simp to_z-of_z at c.narrow_difference.ensures in
    let whole : c.narrow_difference.result ≡ int_wrap w32 (c.narrow_difference-delta.result -ℤ c.args.least) = gap ∙ ap (λ z. int_wrap w32 (c.narrow_difference-delta.result -ℤ z)) low ∙ int_wrap-sub_right w32 c.narrow_difference-delta.result c.args.least in
    let number : c.cast_unsigned-2.result ≡ cast_unsigned w32 c.narrow_difference.result = simp to_z-of_z at c.cast_unsigned-2.ensures in
    subst (λ (z : ℤ). c.args.least ≤ℤ z → c.args.least +ℤ pos c.from.result ≡ z) delta (exact_32 c.args.least c.narrow_difference-delta.result c.narrow_difference.result c.from.result low_least delta_fits whole (c.from.ensures ∙ number))
