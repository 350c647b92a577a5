-- What entries show whose bytes lie one after the other.
use Rattle.std.specs.Prelude.{◌≡◌, ℕ, ◌+◌, ◌≤◌, List, [], ◌∷◌, length, take, drop, Option, Some, None}
use Rattle.schema.specs.Values.{ValueTree, null, boolean, integer, bytes}
use Rattle.schema.specs.Stripe.{Entry}
use Rattle.shred.specs.declared.slot.Slot.{Slot}
use Rattle.shred.specs.declared.slot.Slot.TheVariants.{Missing, Null, Bool, Int, Bytes}
use Rattle.shred.specs.declared.slot.KeptEntry.{KeptEntry}
use Rattle.shred.specs.declared.slot.PackedEntry.{PackedEntry}
use Rattle.shred.specs.inner.Packed.{unpacked_each}

-- how many bytes a value has
abbrev pub slot_size : Slot → ℕ
slot_size (Bytes n) = n
slot_size _ = 0

-- the value whose bytes, if it has any, come first
abbrev pub slot_value : Slot → List ℕ → Option ValueTree
slot_value Missing bs = None
slot_value Null bs = Some null
slot_value (Bool b) bs = Some (boolean b)
slot_value (Int z) bs = Some (integer z)
slot_value (Bytes n) bs = Some (bytes (take n bs))

-- how many bytes the values have
abbrev pub total_size : List KeptEntry → ℕ
total_size [] = 0
total_size (e ∷ es) = slot_size e.slot + total_size es

-- the entries, with the bytes of their values one after the other
abbrev pub entries_in : List ℕ → List KeptEntry → List Entry
entries_in bs [] = []
entries_in bs (e ∷ es) = record { repetition = e.repetition; definition = e.definition; value = slot_value e.slot bs } ∷ entries_in (drop (slot_size e.slot) bs) es

-- the bytes are those of the entries, and the first ones are those of the entries that are marked
pub record AreKept (packed : List PackedEntry) (bytes : List ℕ) (marked size : ℕ) : Type 0 where
  pub filled : total_size (unpacked_each packed) ≡ length bytes
  pub within : marked ≤ length packed
  pub first : total_size (unpacked_each (take marked packed)) ≡ size
