use Rattle.std.proofs.Common.{◌≡◌, ℕ, List, [], ◌∷◌, ◌++◌, ◌<◌, ◌^◌, ◌∙◌, nat_eq, length, get_or, drop, map, ap, sym, subst, arith, to_z}
use Rattle.std.proofs.lemmas.Int.{to_z_pos}
use Rattle.std.specs.Prelude.{pos}
use Rattle.std.specs.Int.{w32}
use Rattle.std.proofs.lemmas.List.{length-map, get_or-map, map-append}
use Rattle.std.proofs.lemmas.List.Elements.{All-get_or}
use Rattle.std.proofs.lemmas.List.Sums.{common_prefix_len-le}
use Rattle.schema.specs.Values.{ValueTree, bytes}
use Rattle.schema.specs.Borrowed.{value_ref_view}
use Rattle.plain.specs.Plain.{IsTooLong}
use Rattle.delta.specs.ByteDeltas.{shared_size, longest_prefixes, shortest_suffixes}
use Rattle.delta.specs.inner.Put.{text_of, before_at}
use Rattle.delta.proofs.Joining.{short_text}
use Rattle.delta.proofs.Sharing.{text_at, prefixes_go_on, suffixes_go_on}
use Rattle.delta.proofs.put_prefixes.split_values.Goals as goal

pub overflow_cast-shared : goal.overflow_cast-shared
overflow_cast-shared g c =
    let lent = g.V.Lends.lent in
    let values = c.args.values.now in
    let i = c.loop-i.i in
    let item = c.index-values-i.result in
    let seen : get_or (map lent values) i (lent item) ≡ lent item = get_or-map lent values i item (lent item) c.loop-i-test.true ∙ ap lent (sym c.index-values-i.is) in
    let short : IsTooLong (lent item) → ⊥ = subst (λ (v : ValueTree). IsTooLong v → ⊥) seen (All-get_or (λ v. IsTooLong v → ⊥) (map lent values) i (lent item) (omega (arith, length-map values lent, c.loop-i-test.true)) c.requires) in
    let small : length (text_of (lent item)) < 2 ^ 31 = short_text (lent item) short in
    record { sfits = omega (arith, small, ap (λ (t : List ℕ). length t) c.bytes_of-value.ensures, c.shared_length-shared.ensures, (common_prefix_len-le nat_eq c.value_before.result.now c.bytes_of-value.result.now).1) }

pub split_at-requires : goal.split_at-requires
split_at-requires g c = omega (arith, c.shared_length-shared.ensures, (common_prefix_len-le nat_eq c.value_before.result.now c.bytes_of-value.result.now).1)

pub loop-i-preserved : goal.loop-i-preserved
loop-i-preserved g c =
    let lent = g.V.Lends.lent in
    let values = c.args.values.now in
    let i = c.loop-i.i in
    let item = c.index-values-i.result in
    let ts = map text_of (map lent values) in
    let before = c.value_before.result.now in
    let value = c.bytes_of-value.result.now in
    let shared = c.shared_length-shared.result in
    let more : i < length ts = omega (arith, length-map values lent, length-map (map lent values) text_of, c.loop-i-test.true) in
    let value_at : value ≡ get_or ts i [] = c.bytes_of-value.ensures ∙ sym (text_at lent values i item c.loop-i-test.true c.index-values-i.is) in
    let size : shared ≡ shared_size (before_at ts i) (get_or ts i []) =
    c.shared_length-shared.ensures ∙ ap (λ (t : List ℕ). shared_size t value) c.value_before.ensures ∙ ap (λ (t : List ℕ). shared_size (before_at ts i) t) value_at in
    let seen : get_or (map lent values) i (lent item) ≡ lent item = get_or-map lent values i item (lent item) c.loop-i-test.true ∙ ap lent (sym c.index-values-i.is) in
    let short : IsTooLong (lent item) → ⊥ = subst (λ (v : ValueTree). IsTooLong v → ⊥) seen (All-get_or (λ v. IsTooLong v → ⊥) (map lent values) i (lent item) (omega (arith, length-map values lent, c.loop-i-test.true)) c.requires) in
    let small : length (text_of (lent item)) < 2 ^ 31 = short_text (lent item) short in
    let fits : shared < 2 ^ 31 = omega (arith, small, ap (λ (t : List ℕ). length t) c.bytes_of-value.ensures, c.shared_length-shared.ensures, (common_prefix_len-le nat_eq before value).1) in
    let number : to_z w32 shared ≡ pos (shared_size (before_at ts i) (get_or ts i [])) = to_z_pos w32 shared fits ∙ ap pos size in
    let suffix = c.split_at.result.1.now in
    let suffix_is : suffix ≡ drop (shared_size (before_at ts i) (get_or ts i [])) (get_or ts i []) =
    c.split_at.ensures.back ∙ ap (λ (k : ℕ). drop k value) size ∙ ap (λ (t : List ℕ). drop (shared_size (before_at ts i) (get_or ts i [])) t) value_at in
    let old = c.loop-i.suffixes.items in
    let put : map value_ref_view c.push-in-loop-i.new.self.items ≡ map value_ref_view old ++ bytes suffix ∷ [] = ap (λ t. map value_ref_view t) c.in_ok-push-2.ensures.items ∙ map-append value_ref_view old _ in
    record {
      prefixes = prefixes_go_on ts i c.loop-i.prefixes.items c.push.new.self.items (map pos (longest_prefixes [] ts)) (to_z w32 shared) more number c.in_ok-push.ensures.items c.loop-i.invariant.prefixes;
      suffixes = suffixes_go_on ts i (map value_ref_view old) (map value_ref_view c.push-in-loop-i.new.self.items) (map bytes (shortest_suffixes [] ts)) suffix more suffix_is put c.loop-i.invariant.suffixes;
    }
