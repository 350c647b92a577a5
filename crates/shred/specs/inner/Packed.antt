-- Entries in 16 bytes, those without value as runs.
use Rattle.std.specs.Prelude.{◌≡◌, ℕ, List, [], ◌∷◌, ◌++◌, None, replicate}
use Rattle.std.specs.List.{flat_map}
use Rattle.schema.specs.Stripe.{Entry}
use Rattle.shred.specs.declared.run.Run.{Run}
use Rattle.shred.specs.declared.slot.Slot.{Slot}
use Rattle.shred.specs.declared.slot.Slot.TheVariants.{Missing as NoValue, Null as NullValue, Bool as BoolValue, Int as IntValue, Bytes as BytesValue}
use Rattle.shred.specs.declared.slot.KeptEntry.{KeptEntry}
use Rattle.shred.specs.declared.slot.PackedEntry.{PackedEntry}
use Rattle.shred.specs.declared.slot.PackedEntry.TheVariants.{Missing, Null, Bool, Int, Bytes}

-- an entry of these levels
abbrev pub entry_at : ℕ → ℕ → Slot → KeptEntry
entry_at r d s = record { repetition = r; definition = d; slot = s }

-- the entry that is packed, or each of the entries that are
abbrev pub entry_of : PackedEntry → KeptEntry
entry_of (Missing r d n) = entry_at r d NoValue
entry_of (Null r d) = entry_at r d NullValue
entry_of (Bool r d b) = entry_at r d (BoolValue b)
entry_of (Int r d z) = entry_at r d (IntValue z)
entry_of (Bytes r d n) = entry_at r d (BytesValue n)

-- how many entries are packed
abbrev pub many : PackedEntry → ℕ
many (Missing r d n) = n
many (Null r d) = 1
many (Bool r d b) = 1
many (Int r d z) = 1
many (Bytes r d n) = 1

-- the entries that are packed as one
abbrev pub unpacked : PackedEntry → List KeptEntry
unpacked p = replicate (many p) (entry_of p)

-- the entries that packed ones stand for, one after another
abbrev pub unpacked_each : List PackedEntry → List KeptEntry
unpacked_each ps = flat_map unpacked ps

-- the entries of a run, as they are kept
abbrev pub run_entries : Run → List KeptEntry
run_entries run = replicate run.count (entry_at run.repetition run.definition NoValue)

-- what the entries of a run show: no value, at the levels of the run
abbrev pub absent : Run → List Entry
absent run = replicate run.count (record { repetition = run.repetition; definition = run.definition; value = None })

-- the entries are packed as one more after the others
pub record Gains (old new : List PackedEntry) (entries : List KeptEntry) : Type 0 where
  pub last : PackedEntry
  pub joined : new ≡ old ++ last ∷ []
  pub are : unpacked last ≡ entries
