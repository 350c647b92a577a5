-- A value that is put after the bytes of others.
use Rattle.std.specs.Prelude.{◌≡◌, ℕ, Bool, true, false, List, ◌++◌, length, Option}
use Rattle.schema.specs.Values.{ValueTree}
use Rattle.shred.specs.declared.slot.Slot.{Slot}
use Rattle.shred.specs.Slots.{slot_size, slot_value}

-- the bytes of the value, if it has any, come after the old ones
pub record IsPut (slot : Slot) (value : Option ValueTree) (old new : List ℕ) : Type 0 where
  pub own : List ℕ
  pub joined : new ≡ old ++ own
  pub size : slot_size slot ≡ length own
  pub shows : slot_value slot own ≡ value

-- true: the items are put after the others; false: the others stay as they are
abbrev pub AppendsIf : {X : Type 0} → Bool → List X → List X → List X → Type 0
AppendsIf true old xs new = new ≡ old ++ xs
AppendsIf false old xs new = new ≡ old
