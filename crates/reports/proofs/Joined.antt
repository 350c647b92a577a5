-- Problems that came in two steps, and of which group they are.
use Rattle.std.proofs.Common.{◌≡◌, ◌⊎◌, inl, inr, ℕ, ◌<◌, List, map, length, get_or, Option, Some, refl, ap, ◌∙◌}
use Rattle.std.specs.Prelude.{slice_get, Contains, option_map}
use Rattle.std.proofs.lemmas.Option.{slice_get_read, slice_get-map}
use Rattle.schema.specs.Shape.{Fields}
use Rattle.metadata.specs.Records.{GroupMeta}
use Rattle.metadata.specs.Views.{group_meta_view}
use Rattle.metadata.specs.declared.group_meta.GroupMeta.{GroupMeta as CodeGroup}
use Rattle.reports.specs.declared.inspect_report.Problem.{Problem}
use Rattle.reports.specs.Verdict.{CanBeRead, IsOfGroup, IsOfUnread}

-- what came in the second step, or in the first
pub joined : {A B C : Type 0} → (B → A ⊎ C) → B ⊎ C → A ⊎ C
joined first (inl b) = first b
joined first (inr c) = inr c

-- what came is so too
pub also : {A B C : Type 0} → C → A ⊎ B → A ⊎ (B × C)
also so (inl a) = inl a
also so (inr b) = inr (b, so)

-- the record at a place, as a clause sees it
record_at : (gs : List CodeGroup) (k : ℕ) (g : CodeGroup) → k < length gs → g ≡ get_or gs k g → slice_get (map group_meta_view gs) k ≡ Some (group_meta_view g)
record_at gs k g within is = slice_get-map group_meta_view gs k ∙ ap (option_map group_meta_view) (slice_get_read gs (length gs) k g refl within is)

-- problems of a group that cannot be read are of an unread group
pub of_unread : (front : List ℕ) (fs : Fields) (gs : List CodeGroup) (k : ℕ) (g : CodeGroup) → k < length gs → g ≡ get_or gs k g → (old new : List Problem)
    → ((p : Problem) → Contains new p → Contains old p ⊎ (IsOfGroup k p × (CanBeRead front fs (group_meta_view g) → ⊥)))
    → (p : Problem) → Contains new p → Contains old p ⊎ IsOfUnread front fs (map group_meta_view gs) p
of_unread front fs gs k g within is old new only p has =
    turned (only p has) where
      turned : Contains old p ⊎ (IsOfGroup k p × (CanBeRead front fs (group_meta_view g) → ⊥)) → Contains old p ⊎ IsOfUnread front fs (map group_meta_view gs) p
      turned (inl there) = inl there
      turned (inr (of, unread)) = inr (k, group_meta_view g, of, record_at gs k g within is, unread)
