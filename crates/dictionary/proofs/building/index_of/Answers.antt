use Rattle.std.proofs.Common.{◌≡◌, ◌++◌, ◌∷◌, [], map, refl, sym, ap, ◌∙◌, arith}
use Rattle.std.specs.Bool.{Decides}
use Rattle.std.proofs.lemmas.List.{length-map, map-append}
use Rattle.std.proofs.lemmas.Bool.{not-true as not_true}
use Rattle.schema.specs.Values.{view}
use Rattle.schema.specs.Borrowed.{value_ref_view}
use Rattle.dictionary.specs.declared.key.ValueKey.{ValueKey}
use Rattle.dictionary.specs.contracts.key.ValueKeyPartialEq.TheImpl.{ghosts}
use Rattle.dictionary.specs.inner.Keys.{key_view}
use Rattle.dictionary.proofs.ByKinds.{by_kinds, key_there, key_added, value_lacks}
use Rattle.dictionary.proofs.building.index_of.Goals.{then-is_new+else-len-eq-MOST_ENTRIES+in_ok-to_value+in_ok-push, else-is_new}
use Rattle.dictionary.proofs.building.index_of.Goals as goal

-- the equality of keys is that of their values
decided : (p q : ValueKey) → Decides (ghosts.eq p q) (key_view p ≡ key_view q)
decided = by_kinds ghosts.eq (λ a b. refl) (λ a b. refl) (λ a b. refl) (λ a b. refl) (λ a b. refl) (λ a b. refl) (λ a b. refl) (λ a b. refl) (λ a b. refl)

pub returns-then-len-eq-MOST_ENTRIES-clause-full : goal.returns-then-len-eq-MOST_ENTRIES-clause-full
returns-then-len-eq-MOST_ENTRIES-clause-full c =
    let value : key_view c.in-Some.key ≡ value_ref_view c.args.value = rw c.in-Some.key-is at c.in-Some.ensures in
    record {
      full = omega (arith, length-map c.args.entries.now.items view, c.args.entries.now.ok.0, c.len.ensures, c.if-len-eq-MOST_ENTRIES.true);
      other = value_lacks ghosts.eq decided c.args.keys.now.keys c.in-Some.key (map view c.args.entries.now.items) (value_ref_view c.args.value) (not_true _ (sym c.in_ok-at.ensures.added ∙ c.if-is_new.true)) c.requires.same value;
    }

pub returns-clause-placed : goal.returns-clause-placed
returns-clause-placed c =
    let value : key_view c.in-Some.key ≡ value_ref_view c.args.value = rw c.in-Some.key-is at c.in-Some.ensures in
    let es = map view c.args.entries.now.items in
    elim c.if-is_new.branch [
      | then-is_new+else-len-eq-MOST_ENTRIES+in_ok-to_value+in_ok-push w ↦
          let grown : map view c.if-is_new.entries.items ≡ es ++ value_ref_view c.args.value ∷ []
          = ap (λ e. map view e.items) w.entries-is ∙ ap (map view) w.in_ok-push.ensures.items ∙ map-append view c.args.entries.now.items (w.in_ok-to_value.field-0 ∷ []) ∙ (λ i. es ++ w.in_ok-to_value.ensures.same i ∷ []) in
          key_added ghosts.eq decided c.args.keys.now.keys _ c.in-Some.key c.in_ok-at.at c.in_ok-at.is_new es _ (value_ref_view c.args.value)
          c.in_ok-at.ensures.added c.in_ok-at.ensures.keys c.in_ok-at.ensures.stored c.requires.same value w.if-is_new.true grown
      | else-is_new w ↦ key_there ghosts.eq decided c.args.keys.now.keys _ c.in-Some.key c.in_ok-at.at c.in_ok-at.is_new es _ (value_ref_view c.args.value)
          c.in_ok-at.ensures.added c.in_ok-at.ensures.keys c.in_ok-at.ensures.stored c.requires.same value w.if-is_new.false (ap (λ e. map view e.items) w.entries-is)
    ]
