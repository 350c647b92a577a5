-- A row of a table, made of its key and of what the table's files have of it.
use Rattle.std.proofs.Common.{◌≡◌, ◌≤◌, ◌<◌, ◌+◌, ◌||◌, ◌==◌, ℕ, zero, suc, Bool, true, false, List, [], ◌∷◌, ◌++◌, length, take, Some, None, Option, refl, sym, ◌∙◌, ap, arith, eqb-true}
use Rattle.std.specs.Prelude.{cond}
use Rattle.std.proofs.lemmas.List.{take_all}
use Rattle.schema.specs.Values.{ValueTree, ValueTrees, no_values, value as item, trees_of, member_at}
use Rattle.schema.specs.Cutting.{is_among}
use Rattle.schema.specs.Keys.{KeyColumn, places_of, key_of_row, values_besides, width, IsRowOf}
use Rattle.filter.specs.RuledOut.{key_at}
use Rattle.scan.proofs.KeyValues.{key_value, key_some, key_none}
use Rattle.table_jobs.specs.Regathering.{whole_value}

-- ---- the values of a row as a list

abbrev pub list_of : ValueTrees → List ValueTree
list_of no_values = []
list_of (item v vs) = v ∷ list_of vs

pub back : (vs : ValueTrees) → trees_of (list_of vs) ≡ vs
back no_values = refl
back (item v vs) = ap (item v) (back vs)

pub as_wide : (vs : ValueTrees) → length (list_of vs) ≡ width vs
as_wide no_values = refl
as_wide (item v vs) = ap suc (as_wide vs)

pub wide : (vs : List ValueTree) → width (trees_of vs) ≡ length vs
wide [] = refl
wide (v ∷ vs) = ap suc (wide vs)

-- the values from a place on
abbrev pub past : ℕ → ValueTrees → ValueTrees
past zero vs = vs
past (suc n) no_values = no_values
past (suc n) (item v vs) = past n vs

past_at : (n : ℕ) (vs : ValueTrees) → n < width vs → past n vs ≡ item (member_at n vs) (past (suc n) vs)
past_at zero no_values h = absurd (omega (arith, h))
past_at (suc n) no_values h = absurd (omega (arith, h))
past_at zero (item v vs) h = refl
past_at (suc n) (item v vs) h = past_at n vs (omega (arith, h))

past_is : (n : ℕ) (vs : ValueTrees) (v : ValueTree) (ws : ValueTrees) → past n vs ≡ item v ws → (member_at n vs ≡ v) × (past (suc n) vs ≡ ws)
past_is zero no_values v ws e = absurd (cc)
past_is (suc n) no_values v ws e = absurd (cc)
past_is zero (item u us) v ws e = ((cc), (cc))
past_is (suc n) (item u us) v ws e = past_is n us v ws e

take_one : (n : ℕ) (vs : ValueTrees) → n < width vs → take (suc n) (list_of vs) ≡ take n (list_of vs) ++ member_at n vs ∷ []
take_one zero no_values h = absurd (omega (arith, h))
take_one (suc n) no_values h = absurd (omega (arith, h))
take_one zero (item v vs) h = refl
take_one (suc n) (item v vs) h = ap (λ (us : List ValueTree). v ∷ us) (take_one n vs (omega (arith, h)))

-- ---- value by value

module _ (keys : List KeyColumn) (key : List ValueTree) (stored whole : ValueTrees) (is : IsRowOf keys key stored whole) where
  abbrev gone : ℕ → Bool
  gone = is_among (places_of keys)

  -- the first values are made, and the stored ones before `next` are among them
  pub record IsMade (place next : ℕ) (made : List ValueTree) : Type 0 where
    pub first : made ≡ take place (list_of whole)
    pub left : values_besides gone place (past place whole) ≡ past next stored

  pub none_made : IsMade 0 0 []
  none_made = record { first = refl; left = is.besides }

  -- how many of the stored values come with the next one
  abbrev pub step : ℕ → Bool → ℕ
  step next true = next
  step next false = suc next

  by_key : (place next : ℕ) → place < width whole → gone place ≡ true → values_besides gone place (past place whole) ≡ past next stored → values_besides gone (suc place) (past (suc place) whole) ≡ past next stored
  by_key place next h goes left =
      sym (ap (values_besides gone place) (past_at place whole h) ∙ ap (λ (b : Bool). cond b (values_besides gone (suc place) (past (suc place) whole)) (item (member_at place whole) (values_besides gone (suc place) (past (suc place) whole)))) goes) ∙ left

  by_stored : (place next : ℕ) → place < width whole → gone place ≡ false → values_besides gone place (past place whole) ≡ past next stored
      → (member_at next stored ≡ member_at place whole) × (past (suc next) stored ≡ values_besides gone (suc place) (past (suc place) whole))
  by_stored place next h stays left =
      past_is next stored (member_at place whole) (values_besides gone (suc place) (past (suc place) whole))
      (sym left ∙ ap (values_besides gone place) (past_at place whole h) ∙ ap (λ (b : Bool). cond b (values_besides gone (suc place) (past (suc place) whole)) (item (member_at place whole) (values_besides gone (suc place) (past (suc place) whole)))) stays)

  -- the next value, and what is left then
  pub record IsNext (place next : ℕ) (v : ValueTree) : Type 0 where
    pub value_is : v ≡ member_at place whole
    pub left : values_besides gone (suc place) (past (suc place) whole) ≡ past (step next (gone place)) stored

  next_is : (place next : ℕ) → place < width whole → values_besides gone place (past place whole) ≡ past next stored → IsNext place next (whole_value (key_at (places_of keys) key place) (member_at next stored))
  next_is place next h left = by (key_at (places_of keys) key place) refl
    where
      at_key : key_at (places_of keys) key place ≡ key_at (places_of keys) (key_of_row keys whole) place
      at_key = ap (λ (k : List ValueTree). key_at (places_of keys) k place) (sym is.keyed)

      by : (o : Option ValueTree) → key_at (places_of keys) key place ≡ o → IsNext place next (whole_value o (member_at next stored))
      by (Some v) e =
          let goes = key_some keys whole place v (sym at_key ∙ e) in
          record {
            value_is = key_value keys whole place v (sym at_key ∙ e);
            left = by_key place next h goes left ∙ ap (λ (b : Bool). past (step next b) stored) (sym goes);
          }
      by None e =
          let stays = key_none keys whole place (sym at_key ∙ e) in
          let both = by_stored place next h stays left in
          record {
            value_is = both.0;
            left = sym both.1 ∙ ap (λ (b : Bool). past (step next b) stored) (sym stays);
          }

  pub one_made : (place next : ℕ) (made : List ValueTree) (v : ValueTree) → place < width whole → v ≡ whole_value (key_at (places_of keys) key place) (member_at next stored) → IsMade place next made
      → IsMade (suc place) (step next (gone place)) (made ++ v ∷ [])
  one_made place next made v h e so_far =
      let n = next_is place next h so_far.left in
      record {
        first = ap (λ (xs : List ValueTree). xs ++ v ∷ []) so_far.first ∙ ap (λ (x : ValueTree). take place (list_of whole) ++ x ∷ []) (e ∙ n.value_is) ∙ sym (take_one place whole h);
        left = n.left;
      }

  -- where all values are made it is the row
  pub all_made : (place next : ℕ) (made : List ValueTree) → width whole ≤ place → IsMade place next made → trees_of made ≡ whole
  all_made place next made h so_far =
      let long = as_wide whole in
      ap trees_of (so_far.first ∙ take_all place (list_of whole) (omega (arith, long, h))) ∙ back whole

-- the width of a row of a table
pub as_many : (keys : List KeyColumn) (key : List ValueTree) (stored : List ValueTree) (whole : ValueTrees) → IsRowOf keys key (trees_of stored) whole → width whole ≡ length stored + length keys
as_many keys key stored whole is = is.whole ∙ ap (λ (n : ℕ). n + length keys) (wide stored)
