use Rattle.std.proofs.Common.{◌≡◌, ◌<◌, ◌++◌, ◌∷◌, [], List, false, length, get_or, map, refl, ap, sym, subst, ◌∙◌, arith}
use Rattle.std.specs.Prelude.{is_some}
use Rattle.std.specs.List.{AllByRecursion}
use Rattle.schema.specs.Keys.{key_columns_view}
use Rattle.partition.specs.Folders.{CanPartition}
use Rattle.partition.specs.Order.{is_same_key}
use Rattle.partition.proofs.Places.{found_at, absent_from}
use Rattle.gather.specs.declared.key_buffer.KeyBuffer.{KeyBuffer}
use Rattle.gather.specs.Parts.{parts_view}
use Rattle.gather.proofs.SameParts.{same_parts, by_kinds}
use Rattle.gather.proofs.Adding.{Key, not_among, keys_added, placed_new}
use Rattle.gather.proofs.key_buffers.KeyBuffers.place_of.Goals as goal

pub returns-in-Some-clause-placed : goal.returns-in-Some-clause-placed
returns-in-Some-clause-placed c = λ rows split.
    let parts = c.args.parts.now in
    let there = found_at (λ x. parts_view x.items) parts _ (λ x. same_parts _ (by_kinds _ (λ a b. refl) (λ a b. refl) (λ a b. refl) (λ a b. refl) (λ a b. refl) (λ a b. refl) (λ a b. refl) (λ a b. refl) (λ a b. refl)) parts.items x.items) c.args.self.now.places.keys c.in-Some.at (sym c.in-Some.ensures.index) in
    record { split = split; within = subst (λ (ks : List Key). c.in-Some.at < length ks) split.places there.0; key_is = subst (λ (ks : List Key). get_or ks c.in-Some.at (parts_view parts.items) ≡ parts_view parts.items) split.places there.1 }

pub returns-clause-placed : goal.returns-clause-placed
returns-clause-placed c = λ rows split.
    let old = c.args.self.now in
    let parts = c.args.parts.now in
    let k = parts_view parts.items in
    let none = sym c.get_index_of.ensures.found ∙ ap is_some c.in_default.is in
    let stored = absent_from (λ x. parts_view x.items) parts _ (λ x. same_parts _ (by_kinds _ (λ a b. refl) (λ a b. refl) (λ a b. refl) (λ a b. refl) (λ a b. refl) (λ a b. refl) (λ a b. refl) (λ a b. refl) (λ a b. refl)) parts.items x.items) old.places.keys none in
    let other = subst (AllByRecursion (λ (l : Key). is_same_key k l ≡ false)) split.places stored in
    let named = c.in_ok-key.ensures.stands ∙ ap parts_view c.as_slice.ensures.value in
    let can = subst (CanPartition (key_columns_view c.args.columns.now)) named (c.can_partition.ensures.0 c.if-not-can_partition.false) in
    let same : parts_view c.in_ok-copies.copies.items ≡ k = c.in_ok-copies.ensures.same ∙ ap parts_view c.as_slice-2.ensures.value in
    let absent = not_among (λ x. parts_view x.items) k _ (λ x. same_parts _ (by_kinds _ (λ a b. refl) (λ a b. refl) (λ a b. refl) (λ a b. refl) (λ a b. refl) (λ a b. refl) (λ a b. refl) (λ a b. refl) (λ a b. refl)) c.in_ok-copies.copies.items x.items ∙ ap (λ (l : Key). is_same_key l (parts_view x.items)) same) old.places.keys stored in
    let added = ap (map (λ x. parts_view x.items)) c.in_ok-insert.ensures.keys ∙ keys_added (λ x. parts_view x.items) _ old.places.keys c.in_ok-copies.copies absent ∙ (λ i. split.places i ++ same i ∷ []) in
    let one : KeyBuffer = record { key = c.in_ok-key.key; rows = c.in_ok-rows.rows } in
    let place : c.len-at.result ≡ length old.waiting.items = omega (arith, c.len-at.ensures) in
    placed_new (key_columns_view c.args.columns.now) old _ rows k _ c.len-at.result place refl refl refl can other named (record { schema = c.in_ok-rows.ensures.of; held = c.in_ok-rows.ensures.begins }) (c.in_ok-push.ensures.items ∙ ap (λ (bs : List KeyBuffer). bs ++ one ∷ []) c.reserve.ensures.items) added split
