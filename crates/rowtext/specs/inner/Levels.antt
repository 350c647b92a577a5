-- What a sink holds of the values that it was shown, as text.
use Rattle.std.specs.Prelude.{ℕ, zero, suc, ◌-◌, Bool, true, false, List, [], ◌∷◌, ◌++◌, map, reverse, length, take, drop, flat_map, Option, Some, None, option_map, nat_lt}
use Rattle.std.specs.Borrow.{Bor}
use Rattle.serde_json.specs.Data as json
use Rattle.serde_json.specs.Written.{compact_text, comma_if}
use Rattle.schema.specs.Values.{ValueTree}
use Rattle.schema.specs.Shape.{Fields}
use Rattle.assemble.specs.Sinks.{Token, single, group_begins, group_ends, list_begins, list_ends}
use Rattle.rowtext.specs.declared.row_plan.Slot.{Slot as CodeSlot}
use Rattle.rowtext.specs.declared.row_plan.RowPlan.{RowPlan}
use Rattle.rowtext.specs.declared.level.Level.{Level as CodeLevel}
use Rattle.rowtext.specs.declared.level.Level.TheVariants.{Row, SortedRow, Group, Unknown, List as ListOf}
use Rattle.rowtext.specs.declared.level.Outer.{Outer as CodeOuter}
use Rattle.rowtext.specs.declared.row_text.RowText.{RowText}
use Rattle.rowtext.specs.inner.LeafTexts.{value_text}
use Rattle.rowtext.specs.inner.Slots.{Slot, leaf_slot, group_slot, Slots, no_slots, slot, slot_view, slots_view, key_in, slots_as, order_of, vec_items}

-- the text of a value at a slot; null if the slot is not that of a leaf, or there is none
abbrev pub text_at : Option Slot → ValueTree → List ℕ
text_at (Some (leaf_slot k n t)) v = value_text n t v
text_at _ v = compact_text json.null

-- ---- levels

-- an object: the slots whose values are still to come, the order of its members, where its text begins, and how many pieces begin before it;
-- a list: what its items are, and whether there was one
pub data Level : Type 0 where
  object : Slots → Option (List ℕ) → ℕ → ℕ → Level
  items : Option Slot → Bool → Level

-- the text so far, where the pieces begin whose order may change, the innermost object or list, and those around it, innermost first
pub record State : Type 0 where
  pub text : List ℕ
  pub starts : List ℕ
  pub here : Level
  pub outer : List Level

-- a state by its text, where its pieces begin, the innermost level, and those around it
abbrev pub held : List ℕ → List ℕ → Level → List Level → State
held text starts here outer = record { text = text; starts = starts; here = here; outer = outer }

-- the slot of the next value; none if no value is awaited
abbrev pub next_slot : Level → Option Slot
next_slot (object no_slots o f n) = None
next_slot (object (slot s ss) o f n) = Some s
next_slot (items o later) = o

-- what is printed before the next value
abbrev pub before : Level → List ℕ
before (object no_slots o f n) = []
before (object (slot s ss) o f n) = key_in s
before (items o later) = comma_if later

-- where pieces begin, and then these, which are needed only where their order may change
abbrev pub with_starts : Option (List ℕ) → List ℕ → List ℕ → List ℕ
with_starts None starts added = starts
with_starts (Some order) starts added = starts ++ added

-- where pieces begin, and then that of the next value
abbrev pub started : Level → List ℕ → ℕ → List ℕ
started (object no_slots o f n) starts at = starts
started (object (slot s ss) o f n) starts at = with_starts o starts (at ∷ [])
started (items o later) starts at = starts

-- the level after its next value
abbrev pub passed : Level → Level
passed (object no_slots o f n) = object no_slots o f n
passed (object (slot s ss) o f n) = object ss o f n
passed (items o later) = items o true

-- where the text of an object begins
abbrev pub from_of : Level → ℕ
from_of (object ss o f n) = f
from_of (items o later) = 0

-- a value begins
abbrev pub begun : State → State
begun s = held (s.text ++ before s.here) (started s.here s.starts (length s.text)) (passed s.here) s.outer

-- a state with more bytes after its text
abbrev pub more : State → List ℕ → State
more s t = held (s.text ++ t) s.starts s.here s.outer

-- a group or a list begins, whose values are at this level
abbrev pub entered : State → Level → State
entered s l = held s.text s.starts l (s.here ∷ s.outer)

-- a group or a list ends, and the first of the levels around it is the innermost one; if there is none, the level stays
abbrev pub left_to : List ℕ → List ℕ → Level → List Level → State
left_to text starts here [] = held text starts here []
left_to text starts here (l ∷ ls) = held text starts l ls

-- the innermost group or list ends, and the level around it is the innermost one
abbrev pub left : State → State
left s = left_to s.text s.starts s.here s.outer

-- what stands inside a slot, where its text and its pieces begin
abbrev pub inside : Option Slot → ℕ → ℕ → Level
inside (Some (group_slot k ss o)) f n = object ss o f n
inside _ f n = object no_slots None f n

-- ---- the end of an object

-- the bytes of a text from an index up to another
abbrev pub between : List ℕ → ℕ → ℕ → List ℕ
between text from to = take (to - from) (drop from text)

-- the first number of a list; n if it has none
abbrev pub first_or : ℕ → List ℕ → ℕ
first_or n [] = n
first_or n (x ∷ xs) = x

-- a piece, by where it and those after it begin
abbrev pub piece_at : List ℕ → List ℕ → List ℕ
piece_at text [] = []
piece_at text (s ∷ ss) = between text s (first_or (length text) ss)

-- the piece of this index, by where the pieces begin; no bytes if there is no such piece
abbrev pub piece : List ℕ → List ℕ → ℕ → List ℕ
piece text starts i = piece_at text (drop i starts)

-- a text with the pieces from an index on in another order; none is the order in which they stand
abbrev pub sorted : List ℕ → List ℕ → ℕ → Option (List ℕ) → List ℕ
sorted text starts from None = text
sorted text starts from (Some order) = take from text ++ flat_map (piece text starts) order

-- a text with a brace in place of its first byte, the comma before the first member; only a brace if it is empty
abbrev pub braced : List ℕ → List ℕ
braced [] = 123 ∷ []
braced (x ∷ s) = 123 ∷ s

-- a text with a brace in place of the byte at an index, the comma before the first member
abbrev pub braced_at : ℕ → List ℕ → List ℕ
braced_at from text = take from text ++ braced (drop from text)

-- where pieces begin that are not of this object
abbrev pub kept_starts : Option (List ℕ) → ℕ → List ℕ → List ℕ
kept_starts None n starts = starts
kept_starts (Some order) n starts = take n starts

-- the text of an object ends: its members are put in order, between braces; a list is left as it is
abbrev pub closed_at : List ℕ → List ℕ → Level → List Level → State
closed_at text starts (object ss o f n) outer = held (braced_at f (sorted text (drop n starts) f o) ++ 125 ∷ []) (kept_starts o n starts) (object ss o f n) outer
closed_at text starts (items o later) outer = held text starts (items o later) outer

-- the text of the innermost object ends
abbrev pub closed : State → State
closed s = closed_at s.text s.starts s.here s.outer

-- ---- all that is shown

-- the state after one more token
abbrev pub step : State → Token → State
step s (single v) = more (begun s) (text_at (next_slot s.here) v)
step s group_begins = entered (begun s) (inside (next_slot s.here) (length (begun s).text) (length (begun s).starts))
step s group_ends = left (closed s)
step s list_begins = more (entered (begun s) (items (next_slot s.here) false)) (91 ∷ [])
step s list_ends = left (more s (93 ∷ []))

-- the state after tokens, one after another
abbrev pub run : State → List Token → State
run s [] = s
run s (t ∷ ts) = run (step s t) ts

-- nothing is shown yet of a row, after these lines, with texts or without
abbrev pub root_as : Bool → List ℕ → Fields → State
root_as texts lines fs = held lines [] (object (slots_as texts fs) (order_of fs) (length lines) 0) []

-- the same without texts
abbrev pub root : List ℕ → Fields → State
root = root_as false

-- ---- what the code holds

-- what a slot of the program that is borrowed says of a field
abbrev pub seen : Bor CodeSlot → Slot
seen s = slot_view s.now

-- the slots of the fields of a group; none for a leaf
abbrev pub slots_in : Slot → Slots
slots_in (group_slot k ss o) = ss
slots_in (leaf_slot k n t) = no_slots

-- the indices of the fields of a group in the byte order of their names; none if the fields stand in that order, and for a leaf
abbrev pub order_in : Slot → Option (List ℕ)
order_in (group_slot k ss o) = o
order_in (leaf_slot k n t) = None

-- the slots from an index on
abbrev pub slots_after : ℕ → Slots → Slots
slots_after zero ss = ss
slots_after (suc i) no_slots = no_slots
slots_after (suc i) (slot s ss) = slots_after i ss

-- a level of the program of which so many values were shown; the fields of a row are those of the plan, and a sorted row has the plan's order
abbrev pub level_at : RowPlan → CodeLevel → ℕ → Level
level_at p (Row f) shown = object (slots_view (drop shown p.slots.items)) None f 0
level_at p (SortedRow f) shown = object (slots_view (drop shown p.slots.items)) (option_map vec_items p.order) f 0
level_at p (Group s f n) shown = object (slots_after shown (slots_in (seen s))) (order_in (seen s)) f n
level_at p (Unknown f n) shown = object no_slots None f n
level_at p (ListOf s) shown = items (option_map seen s) (nat_lt 0 shown)

-- a level of the program that is around another, with the values that were shown of it
abbrev pub outer_view : RowPlan → CodeOuter → Level
outer_view p o = level_at p o.level o.shown

-- the level of a row, whose text begins here
abbrev pub top_of : RowPlan → ℕ → Level
top_of p from = object (slots_view p.slots.items) (option_map vec_items p.order) from 0

-- the text, the starts of pieces and the levels that a `RowText` holds
abbrev pub state_of : RowText → State
state_of r = held r.text.items r.starts.items (level_at r.plan.now r.here r.shown) (reverse (map (outer_view r.plan.now) r.outer.items))
