-- The numbers of the groups that a store lists.
use Rattle.std.proofs.Common.{◌≡◌, List, [], ◌∷◌, map, ap, refl, sym, ◌∙◌}
use Rattle.disk.specs.State.{State as DiskState}
use Rattle.table.specs.declared.answer.GroupInfo.{GroupInfo}
use Rattle.table.specs.Plans.{GroupSummary, summary}
use Rattle.table.specs.Table.{Group}
use Rattle.table.specs.State.{State}
use Rattle.table.specs.Views.{info_view}
use Rattle.table.specs.Calls.{groups, listed}
use Rattle.table_state.specs.declared.standing.Core.{Core}
use Rattle.table_state.specs.Promises.{ActsFrom}
use Rattle.answers.proofs.Counted.{told_groups}

map_of : {A B C : Type 0} (f : B → C) (h : A → B) (xs : List A) → map (λ (x : A). f (h x)) xs ≡ map f (map h xs)
map_of f h [] = refl
map_of f h (x ∷ xs) = ap (λ ys. f (h x) ∷ ys) (map_of f h xs)

module _ {D : Type 0} (state : D → DiskState) where
  pub told_numbers : (old new : Core D) (s : State) (infos : List GroupInfo) → ActsFrom state old new groups (listed (map info_view infos)) s → map (λ (g : GroupInfo). g.number) infos ≡ map (λ (g : Group). g.number) s.table.groups
  told_numbers old new s infos acts =
      map_of (λ (g : GroupSummary). g.number) info_view infos ∙ (ap (map (λ (g : GroupSummary). g.number)) (told_groups state old new s infos acts) ∙ sym (map_of (λ (g : GroupSummary). g.number) summary s.table.groups))
