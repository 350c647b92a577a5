-- The places of the columns that a table's files have, found one after another.
use Rattle.std.proofs.Common.{◌≡◌, ◌<◌, ◌≤◌, ◌+◌, ◌++◌, ℕ, zero, suc, Bool, true, false, List, [], ◌∷◌, length, drop, refl, sym, ◌∙◌, ap, arith, add-one, append_assoc}
use Rattle.std.specs.Prelude.{if◌then◌else◌}
use Rattle.std.proofs.lemmas.List.{append-nil}
use Rattle.lists.proofs.Slices.{drop_past as drop_all}
use Rattle.schema.specs.declared.field.Field.{Field as CodeField}
use Rattle.schema.specs.Views.{field_views}
use Rattle.schema.specs.Cutting.{is_among}
use Rattle.table_commits.specs.Showing.{places_besides}

item_there : (fs : List CodeField) (i : ℕ) → i < length fs → (f : CodeField) × (drop i fs ≡ f ∷ drop (suc i) fs)
item_there [] i low = absurd (omega (arith, low))
item_there (f ∷ fs) zero low = (f, refl)
item_there (f ∷ fs) (suc i) low = item_there fs i (omega (arith, low))

module _ (keys : List ℕ) (fs : List CodeField) where
  -- the places from this one on
  abbrev from : ℕ → List ℕ
  from i = places_besides keys i (field_views (drop i fs))

  from_here : (i : ℕ) → i < length fs → (b : Bool) → is_among keys i ≡ b → from i ≡ (if b then from (i + 1) else i ∷ from (i + 1))
  from_here i low b e =
      let t = item_there fs i low in
      ap (λ (ds : List CodeField). places_besides keys i (field_views ds)) t.1
      ∙ ap (λ (c : Bool). if c then places_besides keys (suc i) (field_views (drop (suc i) fs)) else i ∷ places_besides keys (suc i) (field_views (drop (suc i) fs))) e
      ∙ ap (λ (n : ℕ). if b then from n else i ∷ from n) (sym (add-one i))

  pub place_gone : (i : ℕ) → i < length fs → (made : List ℕ) → is_among keys i ≡ true → made ++ from (i + 1) ≡ made ++ from i
  place_gone i low made e = ap (λ (ps : List ℕ). made ++ ps) (sym (from_here i low true e))

  pub place_made : (i : ℕ) → i < length fs → (made new : List ℕ) → is_among keys i ≡ false → new ≡ made ++ i ∷ [] → new ++ from (i + 1) ≡ made ++ from i
  place_made i low made new e is =
      ap (λ (ps : List ℕ). ps ++ from (i + 1)) is ∙ append_assoc made (i ∷ []) (from (i + 1)) ∙ ap (λ (ps : List ℕ). made ++ ps) (sym (from_here i low false e))

  pub all_made : (i : ℕ) → length fs ≤ i → (made : List ℕ) → made ≡ made ++ from i
  all_made i past made = sym (append-nil made) ∙ ap (λ (ds : List CodeField). made ++ places_besides keys i (field_views ds)) (sym (drop_all fs i past))
