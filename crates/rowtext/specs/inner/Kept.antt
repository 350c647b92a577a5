-- The text of values that are kept, by the slots of their fields.
use Rattle.std.specs.Prelude.{ℕ, get_or, Bool, true, false, List, [], ◌∷◌, ◌++◌, flat_map, Option, Some, None}
use Rattle.std.specs.List.{concat}
use Rattle.serde_json.specs.Written.{comma_if}
use Rattle.schema.specs.Values.{ValueTree, group, list, ValueTrees, no_values, value}
use Rattle.rowtext.specs.inner.Slots.{Slot, Slots, slot, key_in}
use Rattle.rowtext.specs.inner.Levels.{text_at, slots_in, order_in, braced}

-- the text at an index; no bytes if there is none
abbrev pub nth : List (List ℕ) → ℕ → List ℕ
nth ps i = get_or ps i []

-- the members of an object in this order, each with a comma before it; none is the order in which they stand
abbrev pub in_order : List (List ℕ) → Option (List ℕ) → List ℕ
in_order ps None = concat ps
in_order ps (Some order) = flat_map (nth ps) order

-- the text of an object with these members, put in this order; none is the order in which they stand
abbrev pub kept_object : List (List ℕ) → Option (List ℕ) → List ℕ
kept_object ps o = braced (in_order ps o) ++ 125 ∷ []

abbrev mutual
  pub kept_text : Slot → ValueTree → List ℕ
  kept_text s (group vs) = kept_object (kept_pieces (slots_in s) vs) (order_in s)
  kept_text s (list vs) = 91 ∷ (kept_items false s vs ++ 93 ∷ [])
  kept_text s v = text_at (Some s) v

  -- each but the first has a comma before it
  pub kept_items : Bool → Slot → ValueTrees → List ℕ
  kept_items later s no_values = []
  kept_items later s (value v vs) = comma_if later ++ (kept_text s v ++ kept_items true s vs)

  pub kept_pieces : Slots → ValueTrees → List (List ℕ)
  kept_pieces (slot s ss) (value v vs) = (key_in s ++ kept_text s v) ∷ kept_pieces ss vs
  kept_pieces _ _ = []
