use Rattle.std.proofs.Common.{◌≡◌, ℕ, List, [], ◌∷◌, ◌++◌, ◌<◌, ◌^◌, ◌∙◌, length, get_or, map, ap, sym, subst, arith, to_z}
use Rattle.std.proofs.lemmas.Int.{to_z_pos}
use Rattle.std.specs.Prelude.{ℤ, pos}
use Rattle.std.specs.Int.{w32}
use Rattle.std.proofs.lemmas.List.{length-map, get_or-map}
use Rattle.std.proofs.lemmas.List.Elements.{All-get_or}
use Rattle.schema.specs.Values.{ValueTree}
use Rattle.plain.specs.Plain.{IsTooLong}
use Rattle.delta.specs.inner.Put.{text_of}
use Rattle.delta.proofs.Joining.{short_text, sizes_more}
use Rattle.delta.proofs.put_lengths.lengths_of.Goals as goal

pub overflow_cast-bytes_of : goal.overflow_cast-bytes_of
overflow_cast-bytes_of g c =
    let lent = g.V.Lends.lent in
    let values = c.args.values.now in
    let i = c.loop-value.value-index in
    let item = c.value-item.result in
    let seen : get_or (map lent values) i (lent item) ≡ lent item = get_or-map lent values i item (lent item) c.loop-value-test.true ∙ ap lent (sym c.value-item.is) in
    let short : IsTooLong (lent item) → ⊥ = subst (λ (v : ValueTree). IsTooLong v → ⊥) seen (All-get_or (λ v. IsTooLong v → ⊥) (map lent values) i (lent item) (omega (arith, length-map values lent, c.loop-value-test.true)) c.requires) in
    let small : length (text_of (lent item)) < 2 ^ 31 = short_text (lent item) short in
    record { sfits = omega (arith, small, ap (λ (t : List ℕ). length t) c.bytes_of.ensures) }

pub loop-value-preserved : goal.loop-value-preserved
loop-value-preserved g c =
    let lent = g.V.Lends.lent in
    let values = c.args.values.now in
    let i = c.loop-value.value-index in
    let item = c.value-item.result in
    let kept = c.loop-value.lengths.items in
    let seen : get_or (map lent values) i (lent item) ≡ lent item = get_or-map lent values i item (lent item) c.loop-value-test.true ∙ ap lent (sym c.value-item.is) in
    let short : IsTooLong (lent item) → ⊥ = subst (λ (v : ValueTree). IsTooLong v → ⊥) seen (All-get_or (λ v. IsTooLong v → ⊥) (map lent values) i (lent item) (omega (arith, length-map values lent, c.loop-value-test.true)) c.requires) in
    let small : length (text_of (lent item)) < 2 ^ 31 = short_text (lent item) short in
    let size : length c.bytes_of.result.now ≡ length (text_of (lent item)) = ap (λ (t : List ℕ). length t) c.bytes_of.ensures in
    let number : to_z w32 (length c.bytes_of.result.now) ≡ pos (length (text_of (lent item))) = to_z_pos w32 (length c.bytes_of.result.now) (omega (arith, small, size)) ∙ ap pos size in
    c.in_ok-push.ensures.items ∙ ap (λ (z : ℤ). kept ++ z ∷ []) number ∙ ap (λ (t : List ℤ). t ++ pos (length (text_of (lent item))) ∷ []) c.loop-value.invariant
    ∙ sym (sizes_more lent values i item c.loop-value-test.true c.value-item.is)
