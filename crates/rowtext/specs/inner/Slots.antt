-- How rows are printed: what stands at each field, and the order of the members of an object, made once for a schema.
use Rattle.std.specs.Ordering.{nat_cmp, match_ordering}
use Rattle.std.specs.Cmp.Lexicographic.{slice_cmp}
use Rattle.std.specs.Prelude.{ℕ, suc, Bool, true, false, ◌&&◌, ◌==◌, List, [], ◌∷◌, ◌++◌, map, length, Option, Some, None, option_map, String, string_bytes, if◌then◌else◌}
use Rattle.std.specs.declared.alloc.Global.{Global}
use Rattle.std.specs.Global.{Vec}
use Rattle.std.specs.Borrow.{Bor}
use Rattle.json.specs.Print.{quoted}
use Rattle.schema.specs.Annotations.{is_text, order_of as leaf_order}
use Rattle.schema.specs.Shape.{Field, leaf, fields, Fields, no_fields, field, name_of, count}
use Rattle.rowtext.specs.declared.scalars.Numbers.{Numbers}
use Rattle.rowtext.specs.declared.row_plan.Slot.{Slot as CodeSlot, fold-Slot}
use Rattle.rowtext.specs.declared.row_plan.Slot.TheOpen.{Slot-F}
use Rattle.rowtext.specs.inner.Scalars.{numbers_as}
use Rattle.leaftext.specs.Forms.{form_if}

-- a field: its name as it is printed, between a comma and a colon, and what its values are;
-- the order of a group is none where its fields stand in the order of their names
mutual
  pub data Slot : Type 0 where
    leaf_slot : List ℕ → Numbers → Bool → Slot
    group_slot : List ℕ → Slots → Option (List ℕ) → Slot

  pub data Slots : Type 0 where
    no_slots : Slots
    slot : Slot → Slots → Slots

-- the slots of a list, in their order
abbrev pub slots_from : List Slot → Slots
slots_from [] = no_slots
slots_from (s ∷ ss) = slot s (slots_from ss)

-- the items of a vector
abbrev pub vec_items : Vec ℕ → List ℕ
vec_items v = v.items

-- an order of fields that is borrowed; none if there is none
abbrev pub order_view : Option (Bor (List ℕ)) → Option (List ℕ)
order_view o = option_map (λ (x : Bor (List ℕ)). x.now) o

-- one level, with each slot inside already seen
abbrev pub slot_step : Slot-F Slot → Slot
slot_step (Slot-F.Leaf k n t) = leaf_slot k n t
slot_step (Slot-F.Group k ss o) = group_slot k (slots_from ss.items) (option_map vec_items o)

-- what the program's slot says of a field
abbrev pub slot_view : CodeSlot → Slot
slot_view = fold-Slot Slot slot_step

-- what the program's slots say of fields, in their order
abbrev pub slots_view : List CodeSlot → Slots
slots_view ss = slots_from (map slot_view ss)

-- the name of a slot's field as it is printed, between a comma and a colon
abbrev pub key_in : Slot → List ℕ
key_in (leaf_slot k n t) = k
key_in (group_slot k ss o) = k

-- ---- how it is made

-- a name as it is printed, between a comma and a colon
abbrev pub key_of : List ℕ → List ℕ
key_of name = 44 ∷ (quoted name ++ 58 ∷ [])

-- the names in a map of the program, as bytes, each with the index of its field
abbrev pub entries_view : List (String Global × ℕ) → List (List ℕ × ℕ)
entries_view es = map (λ e. (string_bytes e.0, e.1)) es

-- the names with their indices, with i at k
abbrev pub put_index : List ℕ → ℕ → List (List ℕ × ℕ) → List (List ℕ × ℕ)
put_index k i [] = (k, i) ∷ []
put_index k i (e ∷ es) = match_ordering (slice_cmp nat_cmp k e.0) ((k, i) ∷ e ∷ es) ((e.0, i) ∷ es) (e ∷ put_index k i es)

-- the names of fields in their byte order, with the indices of the fields, the first of which has this one
abbrev pub ordered : ℕ → Fields → List (List ℕ × ℕ)
ordered i no_fields = []
ordered i (field f fs) = put_index (name_of f) i (ordered (suc i) fs)

-- the index that stands with a name
abbrev pub second : List ℕ × ℕ → ℕ
second e = e.1

-- the indices of fields in the byte order of their names
abbrev pub indices_of : Fields → List ℕ
indices_of fs = map second (ordered 0 fs)

-- the list is the numbers from i on, in their order
abbrev pub is_counting : ℕ → List ℕ → Bool
is_counting i [] = true
is_counting i (j ∷ js) = (j == i) && is_counting (suc i) js

-- the indices are those of n fields, in the order of the fields
abbrev pub is_in_order : List ℕ → ℕ → Bool
is_in_order indices n = is_counting 0 indices && (length indices == n)

-- the indices of fields in the byte order of their names; none if the fields stand in that order
abbrev pub order_of : Fields → Option (List ℕ)
order_of fs = if is_in_order (indices_of fs) (count fs) then None else Some (indices_of fs)

abbrev mutual
  pub slot_as : Bool → Field → Slot
  slot_as texts (leaf n r t) = leaf_slot (key_of n) (numbers_as (form_if texts t) t.kind (leaf_order t)) (is_text t.kind t.annotation)
  slot_as texts (fields n r a fs) = group_slot (key_of n) (slots_as texts fs) (order_of fs)

  pub slots_as : Bool → Fields → Slots
  slots_as texts no_fields = no_slots
  slots_as texts (field f fs) = slot (slot_as texts f) (slots_as texts fs)

-- the same without texts
abbrev pub slot_of : Field → Slot
slot_of = slot_as false

-- the slots of fields, without texts
abbrev pub slots_made : Fields → Slots
slots_made = slots_as false
