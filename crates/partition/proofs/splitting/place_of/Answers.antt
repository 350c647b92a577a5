use Rattle.std.proofs.Common.{◌≡◌, ap, ◌∙◌, sym, subst, refl, inl, inr, ◌++◌, ◌∷◌, [], List, length, map, get_or, ◌<◌, false}
use Rattle.std.specs.Prelude.{is_some}
use Rattle.schema.specs.Values.{ValueTree}
use Rattle.schema.specs.Views.{key_view, rows_view}
use Rattle.std.specs.List.{AllByRecursion}
use Rattle.std.proofs.lemmas.List.{map_push}
use Rattle.partition.specs.Order.{is_same_key}
use Rattle.schema.specs.Keys.{key_columns_view}
use Rattle.partition.specs.Folders.{CanPartition}
use Rattle.partition.specs.Splitting.{key_rows_view}
use Rattle.partition.specs.inner.Parts.{parts_view}
use Rattle.partition.proofs.WithKeys.{long_views}
use Rattle.partition.proofs.Places.{found_at, absent_from, same_parts, by_kinds}
use Rattle.partition.proofs.splitting.place_of.Goals as goal

pub returns-in-Some-clause-placed : goal.returns-in-Some-clause-placed
returns-in-Some-clause-placed c =
    let k = parts_view c.args.parts.items in
    let there = found_at (λ x. parts_view x.items) c.args.parts _ (λ x. same_parts _ (by_kinds _ (λ a b. refl) (λ a b. refl) (λ a b. refl) (λ a b. refl) (λ a b. refl) (λ a b. refl) (λ a b. refl) (λ a b. refl) (λ a b. refl)) c.args.parts.items x.items) c.args.keys.now.keys c.in-Some.at (sym c.in-Some.ensures.index) in
    inl (record { same = refl; within = subst (λ (ks : List (List ValueTree)). c.in-Some.at < length ks) c.requires there.0; key_is = subst (λ (ks : List (List ValueTree)). get_or ks c.in-Some.at k ≡ k) c.requires there.1 })

pub returns-clause-placed : goal.returns-clause-placed
returns-clause-placed c =
    let k = parts_view c.args.parts.items in
    let none = sym c.get_index_of.ensures.found ∙ ap is_some c.in_default.is in
    let other = absent_from (λ x. parts_view x.items) c.args.parts _ (λ x. same_parts _ (by_kinds _ (λ a b. refl) (λ a b. refl) (λ a b. refl) (λ a b. refl) (λ a b. refl) (λ a b. refl) (λ a b. refl) (λ a b. refl) (λ a b. refl)) c.args.parts.items x.items) c.args.keys.now.keys none in
    let same : key_view c.in_ok-key.key ≡ k = c.in_ok-key.ensures.stands ∙ ap parts_view c.as_slice.ensures.value in
    inr (record {
      can = subst (CanPartition (key_columns_view c.args.columns.now)) same (c.can_partition.ensures.0 c.if-not-can_partition.false);
      other = subst (AllByRecursion (λ (l : List ValueTree). is_same_key k l ≡ false)) c.requires other;
      place = ap length c.as_slice-at.ensures.value ∙ sym (long_views c.args.split.now.items);
      added = ap (map key_rows_view) c.in_ok-push.ensures.items ∙ map_push key_rows_view c.args.split.now.items _
          ∙ (λ i. map key_rows_view c.args.split.now.items ++ record { key = same i; rows = rows_view (c.new.ensures.items i) } ∷ []);
    })
