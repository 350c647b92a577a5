-- What stands at the fields of a group, from an index on.
use Rattle.std.proofs.Common.{◌≡◌, ℕ, zero, suc, ◌+◌, List, [], ◌∷◌, drop, Option, Some, None, Bor, refl, sym, ap, ◌∙◌}
use Rattle.std.specs.Prelude.{IfSome, IfNone}
use Rattle.rowtext.specs.declared.row_plan.Slot.{Slot as CodeSlot}
use Rattle.rowtext.specs.inner.Slots.{Slot, Slots, no_slots, slot, slot_view, slots_view}
use Rattle.rowtext.specs.inner.Levels.{slots_after}

after_drop : (i : ℕ) (ss : List CodeSlot) → slots_after i (slots_view ss) ≡ slots_view (drop i ss)
after_drop zero ss = refl
after_drop (suc i) [] = refl
after_drop (suc i) (s ∷ ss) = after_drop i ss

module _ (ss : List CodeSlot) (all : Slots) (same : slots_view ss ≡ all) where
  after_all : (i : ℕ) → slots_after i all ≡ slots_view (drop i ss)
  after_all i = ap (slots_after i) (sym same) ∙ after_drop i ss

  pub slot_after : (i : ℕ) (o : Option (Bor CodeSlot × ℕ)) → IfSome o (λ r. drop i ss ≡ r.0.now ∷ drop (i + 1) ss) → IfSome o (λ r. r.1 ≡ i + 1) → IfSome o (λ r. slots_after i all ≡ slot (slot_view r.0.now) (slots_after r.1 all))
  slot_after i None some next = tt
  slot_after i (Some r) some next = after_all i ∙ ap slots_view some ∙ ap (slot (slot_view r.0.now)) (ap (λ k. slots_view (drop k ss)) (sym next) ∙ sym (after_all r.1))

  pub none_after : (i : ℕ) (o : Option (Bor CodeSlot × ℕ)) → IfNone o (drop i ss ≡ []) → IfNone o (slots_after i all ≡ no_slots)
  none_after i None none = after_all i ∙ ap slots_view none
  none_after i (Some r) none = tt

  pub leaf_after : {X : Type 0} (is : X → Slot) (i : ℕ) (o : Option (X × ℕ)) → IfSome o (λ r. slots_view (drop i ss) ≡ slot (is r.0) (slots_view (drop r.1 ss))) → IfSome o (λ r. slots_after i all ≡ slot (is r.0) (slots_after r.1 all))
  leaf_after is i None some = tt
  leaf_after is i (Some r) some = after_all i ∙ some ∙ ap (slot (is r.0)) (sym (after_all r.1))
