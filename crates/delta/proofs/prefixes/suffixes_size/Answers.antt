use Rattle.std.proofs.Common.{◌≡◌, ℕ, List, [], ◌<◌, ◌≤◌, length, drop, get_or, arith, rules, subst, FitsSigned}
use Rattle.std.specs.Prelude.{pos}
use Rattle.std.specs.Int.{w32, cast_signed, cast_unsigned}
use Rattle.std.proofs.lemmas.Int.{to_z-of_z}
use Rattle.std.proofs.lemmas.List.{length-drop}
use Rattle.bits.specs.Refusals.{IsFault}
use Rattle.bits.proofs.Passing.{passes, passes_limit}
use Rattle.delta.specs.inner.Shared.{AreShared, IsSharedLong, IsLongPair}
use Rattle.delta.proofs.Cutting.{turn_limit}
use Rattle.delta.proofs.Completing.{sharing_fails, sharing_long, sharing_not_long, sharing_goes_on, sharing_ends, sharing_ends_short}
use Rattle.delta.proofs.prefixes.suffixes_size.Goals as goal

pub returns-in_err-prefix-clause-only : goal.returns-in_err-prefix-clause-only
returns-in_err-prefix-clause-only c =
    let ps = c.args.prefixes.now in
    let zs = c.args.lengths.now in
    let text = c.args.bytes.now in
    let i = c.loop-i.i in
    let x = get_or ps i (pos 0) in
    let y = get_or zs i (pos 0) in
    let p = cast_signed w32 (cast_unsigned w32 x) in
    let z = cast_signed w32 (cast_unsigned w32 y) in
    let p_fits : FitsSigned w32 x = search rules in
    let z_fits : FitsSigned w32 y = search rules in
    let more_z : i < length zs = omega (arith, c.loop-i-test.true, c.requires) in
    passes (λ e. IsFault e → (used : ℕ) → AreShared [] ps zs text used → ⊥) c.from_residual.result c.in_err-prefix.field-0.0 c.from_residual.ensures.1
    (λ fault. sharing_fails ps zs text c.loop-i.at c.loop-i.before i p z c.loop-i-test.true more_z (to_z-of_z w32 x p_fits) (to_z-of_z w32 y z_fits)
    (subst (λ (t : List ℕ). (m n : ℕ) → p ≡ pos m → z ≡ pos n → m ≤ c.loop-i.before → n ≤ length t → ⊥) c.split_at.ensures.back (c.in_err-prefix.ensures.only fault)) c.loop-i.invariant.sharing)

pub returns-in_err-prefix-clause-limit : goal.returns-in_err-prefix-clause-limit
returns-in_err-prefix-clause-limit c =
    let ps = c.args.prefixes.now in
    let zs = c.args.lengths.now in
    let text = c.args.bytes.now in
    let i = c.loop-i.i in
    let at = c.loop-i.at in
    let before = c.loop-i.before in
    let x = get_or ps i (pos 0) in
    let y = get_or zs i (pos 0) in
    let p = cast_signed w32 (cast_unsigned w32 x) in
    let z = cast_signed w32 (cast_unsigned w32 y) in
    let p_fits : FitsSigned w32 x = search rules in
    let z_fits : FitsSigned w32 y = search rules in
    let more_z : i < length zs = omega (arith, c.loop-i-test.true, c.requires) in
    let same_p = to_z-of_z w32 x p_fits in
    let same_z = to_z-of_z w32 y z_fits in
    passes_limit (IsSharedLong [] ps zs text) c.from_residual.result c.in_err-prefix.field-0.0 c.from_residual.ensures.1
    (turn_limit (IsLongPair p z before) (IsSharedLong [] ps zs text) c.in_err-prefix.field-0.0
    (λ long. sharing_long ps zs text at before i p z c.loop-i-test.true more_z same_p same_z long c.loop-i.invariant.sharing)
    (λ fault short. sharing_not_long ps zs text at before i p z c.loop-i-test.true more_z same_p same_z short
    (subst (λ (t : List ℕ). (m n : ℕ) → p ≡ pos m → z ≡ pos n → m ≤ before → n ≤ length t → ⊥) c.split_at.ensures.back (c.in_err-prefix.ensures.only fault)) c.loop-i.invariant.sharing)
    c.in_err-prefix.ensures.limit)

pub loop-i-preserved : goal.loop-i-preserved
loop-i-preserved c =
    let ps = c.args.prefixes.now in
    let zs = c.args.lengths.now in
    let text = c.args.bytes.now in
    let i = c.loop-i.i in
    let at = c.loop-i.at in
    let x = get_or ps i (pos 0) in
    let y = get_or zs i (pos 0) in
    let p = cast_signed w32 (cast_unsigned w32 x) in
    let z = cast_signed w32 (cast_unsigned w32 y) in
    let p_fits : FitsSigned w32 x = search rules in
    let z_fits : FitsSigned w32 y = search rules in
    let more_z : i < length zs = omega (arith, c.loop-i-test.true, c.requires) in
    let m = c.in_ok-prefix.prefix in
    let n = c.in_ok-prefix.size in
    let room : n ≤ length (drop at text) = subst (λ (t : List ℕ). n ≤ length t) c.split_at.ensures.back c.in_ok-prefix.ensures.within.1 in
    record {
      within = omega (arith, room, length-drop at text, c.loop-i.invariant.within);
      short = c.in_ok-prefix.ensures.short;
      sharing = sharing_goes_on ps zs text at c.loop-i.before i m n p z c.loop-i-test.true more_z (to_z-of_z w32 x p_fits) (to_z-of_z w32 y z_fits) c.in_ok-prefix.ensures.stands.0 c.in_ok-prefix.ensures.stands.1
          c.in_ok-prefix.ensures.within.0 room c.in_ok-prefix.ensures.limit c.loop-i.invariant.sharing;
    }

pub returns-clause-stands : goal.returns-clause-stands
returns-clause-stands c =
    sharing_ends c.args.prefixes.now c.args.lengths.now c.args.bytes.now c.loop-i.at c.loop-i.before c.loop-i.i (omega (arith, c.loop-i-test.false)) (omega (arith, c.loop-i-test.false, c.requires)) c.loop-i.invariant.sharing

pub returns-clause-limit : goal.returns-clause-limit
returns-clause-limit c =
    sharing_ends_short c.args.prefixes.now c.args.lengths.now c.args.bytes.now c.loop-i.at c.loop-i.before c.loop-i.i (omega (arith, c.loop-i-test.false)) c.loop-i.invariant.sharing
