use Rattle.std.proofs.Common.{◌≡◌, ◌∙◌, List, ℕ, ◌+◌, ◌*◌, map, length, subst, arith, sym, rules}
use Rattle.bits.specs.declared.refusal.Refusal.TheVariants.{Limit}
use Rattle.bits.specs.Refusals.{HasCause}
use Rattle.bits.specs.Codec.{Appends}
use Rattle.std.specs.Prelude.{All, ◌<◌, ◌^◌}
use Rattle.hybrid_rle.specs.Hybrid.{IsHybrid}
use Rattle.schema.specs.Borrowed.{value_ref_view}
use Rattle.bits.proofs.Passing.{passes}
use Rattle.pages.proofs.WrittenLevels.{seen_same}
use Rattle.pages.proofs.WrittenValues.{booleans_put, narrow_bits, only_narrow}
use Rattle.pages.proofs.value_writing.put_booleans.Goals as goal

pub returns-clause-stands : goal.returns-clause-stands
returns-clause-stands c =
    let vs = map value_ref_view c.args.values.now in
    let numbers = c.in_ok-bits.bits.items in
    let inside = c.encode.new.out.items in
    let p = subst (λ (l : List ℕ). Appends (λ bytes. IsHybrid 1 bytes (length l) l) (80 + 9 * length l) c.new-inside.result.items inside) (seen_same c.as_slice.result.now ∙ c.as_slice.ensures.value) c.in_ok-encode.ensures.stands in
    booleans_put vs numbers inside c.args.out.now.items c.extend_from_slice.new.self.items c.requires c.in_ok-bits.ensures.are (omega arith) (rw c.new-inside.ensures.items at p) (search rules)

pub returns-in_err-encode-clause-which : goal.returns-in_err-encode-clause-which
returns-in_err-encode-clause-which c =
    let narrow : All (λ x. x < 2 ^ 1) (map (λ n. n) c.as_slice.result.now)
    = subst (λ (l : List ℕ). All (λ x. x < 2 ^ 1) (map (λ n. n) l)) (sym (c.as_slice.ensures.value ∙ c.in_ok-bits.ensures.are)) (narrow_bits (map value_ref_view c.args.values.now)) in
    passes (HasCause (λ e. e ≡ Limit)) c.from_residual-in_err-encode.result c.in_err-encode.field-0.0 c.from_residual-in_err-encode.ensures.1
    (only_narrow (λ e. e ≡ Limit) c.in_err-encode.field-0.0 c.in_err-encode.ensures.which (λ fault. c.in_err-encode.ensures.unfit fault narrow))
