-- A schema has the first fields of another one exactly when its elements begin that one's.
use Rattle.std.proofs.Common.{◌≡◌, ℕ, zero, suc, List, ◌++◌, refl, ap, sym, subst, ◌∙◌, append_assoc}
use Rattle.schema.specs.Elements.{Element}
use Rattle.schema.specs.Shape.{Fields, no_fields, field, count}
use Rattle.schema.specs.Listed.{listing, listings}
use Rattle.schema.specs.Law.{AreValid}
use Rattle.schema.specs.Listing.{Branches, AreFields}
use Rattle.schema.specs.Fronts.{first_fields, fields_after}
use Rattle.schema.specs.Growing.{IsFrontOf}
use Rattle.schema.specs.inner.Reading.{forest, join_fields}
use Rattle.schema.proofs.Trees.{join_branches, forest-listing}
use Rattle.schema.proofs.Again.{trees_of, are_listed, are_counted, are_fields}
use Rattle.schema.proofs.Relisted.{trees_after, split_fields}

first_of_joined : (fs rest : Fields) → first_fields (count fs) (join_fields fs rest) ≡ fs
first_of_joined no_fields rest = refl
first_of_joined (field f fs) rest = ap (field f) (first_of_joined fs rest)

pub listings_split : (n : ℕ) (fs : Fields) → listings fs ≡ listings (first_fields n fs) ++ listings (fields_after n fs)
listings_split zero fs = refl
listings_split (suc n) no_fields = refl
listings_split (suc n) (field f fs) = ap (λ (es : List Element). listing f ++ es) (listings_split n fs) ∙ sym (append_assoc (listing f) (listings (first_fields n fs)) (listings (fields_after n fs)))

-- the elements of one begin those of the other
pub Begins : Fields → Fields → Type 0
Begins fs gs = (later : List Element) × (listings gs ≡ listings fs ++ later)

pub front_begins : (fs gs : Fields) → IsFrontOf fs gs → (later : List Element) × (listings gs ≡ listings fs ++ later)
front_begins fs gs e = (listings (fields_after (count fs) gs), listings_split (count fs) gs ∙ ap (λ (x : Fields). listings x ++ listings (fields_after (count fs) gs)) (sym e))

pub begins_front : (fs gs : Fields) → AreValid fs → AreValid gs → (later : List Element) × (listings gs ≡ listings fs ++ later) → IsFrontOf fs gs
begins_front fs gs v w (later, e) =
    let same : trees_of gs ≡ join_branches (trees_of fs) (forest later) =
    sym (forest-listing (trees_of gs) (are_counted gs w)) ∙ ap forest (sym (are_listed gs)) ∙ ap forest e ∙ trees_after fs later v in
    let parts = split_fields (trees_of fs) (forest later) fs gs (are_fields fs v) (subst (λ (b : Branches). AreFields b gs) same (are_fields gs w)) in
    sym (ap (first_fields (count fs)) parts.1 ∙ first_of_joined fs parts.0)
