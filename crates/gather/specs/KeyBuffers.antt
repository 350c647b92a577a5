-- The rows that wait in buffers, each under its key.
use Rattle.std.specs.Prelude.{◌≡◌, ℕ, ◌<◌, List, [], ◌∷◌, ◌++◌, length, map, get_or, set, Contains, Option, Some, None}
use Rattle.std.specs.List.{AllByRecursion, AllZip}
use Rattle.schema.specs.Values.{ValueTree, ValueTrees}
use Rattle.schema.specs.Shape.{Fields}
use Rattle.schema.specs.Views.{key_view}
use Rattle.schema.specs.Keys.{KeyColumn, key_of_row}
use Rattle.shred.specs.Buffer.{schema_of, holds}
use Rattle.partition.specs.Folders.{CanPartition}
use Rattle.partition.specs.Splitting.{KeyRows, HaveKeys}
use Rattle.partition.specs.inner.Parts.{AreDifferent}
use Rattle.gather.specs.declared.key_buffer.KeyBuffer.{KeyBuffer}
use Rattle.gather.specs.declared.key_buffer.KeyFault.{KeyFault}
use Rattle.gather.specs.declared.key_buffers.KeyBuffers.{KeyBuffers}
use Rattle.gather.specs.Parts.{parts_view}
use Rattle.gather.specs.Buffers.{keys_of}
use Rattle.gather.specs.Groups.{waiting_rows, full_groups, AreGroups}

-- the buffer holds these rows of the schema
pub record HoldsRows (fs : Fields) (rows : List ValueTrees) (buffer : KeyBuffer) : Type 0 where
  pub schema : schema_of buffer.rows ≡ fs
  pub held : holds buffer.rows rows

-- each buffer holds the rows that this says of its key
abbrev pub HoldEach : Fields → (List ValueTree → List ValueTrees) → List KeyBuffer → Type 0
HoldEach fs rows buffers = AllByRecursion (λ (b : KeyBuffer). HoldsRows fs (rows (key_view b.key)) b) buffers

-- Each key of the rows has one buffer, which holds its rows that fill no group; the keys can partition.
pub record AreWaiting (columns : List KeyColumn) (size : ℕ) (fs : Fields) (rows : List ValueTrees) (buffers : List KeyBuffer) : Type 0 where
  pub different : AreDifferent (keys_of buffers)
  pub can : AllByRecursion (λ k. CanPartition columns k) (keys_of buffers)
  pub each : HoldEach fs (λ k. waiting_rows columns size k rows) buffers
  pub every : AllByRecursion (λ row. Contains (keys_of buffers) (key_of_row columns row)) rows

-- the buffer holds a group
pub record HoldsGroup (fs : Fields) (buffer : KeyBuffer) (g : KeyRows) : Type 0 where
  pub key : key_view buffer.key ≡ g.key
  pub rows : HoldsRows fs g.rows buffer

-- the buffers hold these groups, one for each and in their order
abbrev pub Hold : Fields → List KeyBuffer → List KeyRows → Type 0
Hold fs buffers groups = AllZip (HoldsGroup fs) buffers groups

-- the buffers hold the groups of the rows
pub record HoldGroups (columns : List KeyColumn) (size : ℕ) (fs : Fields) (rows : List ValueTrees) (buffers : List KeyBuffer) : Type 0 where
  pub groups : List KeyRows
  pub are : AreGroups columns size rows groups
  pub held : Hold fs buffers groups

-- The first of the rows whose key cannot partition: its number, counted from 0, and its key.
pub record IsFirstFault (columns : List KeyColumn) (rows : List ValueTrees) (number : ℕ) (key : List ValueTree) : Type 0 where
  pub before : List ValueTrees
  pub row : ValueTrees
  pub after : List ValueTrees
  pub are : rows ≡ before ++ row ∷ after
  pub place : number ≡ length before
  pub keyed : key ≡ key_of_row columns row
  pub cannot : CanPartition columns (key_of_row columns row) → ⊥
  pub fine : HaveKeys columns before

-- all rows wait or are in full groups
pub record AreSplit (columns : List KeyColumn) (k : KeyBuffers) (rows : List ValueTrees) : Type 0 where
  pub full : Hold k.stored.now k.full.items (full_groups columns k.size rows)
  pub waiting : AreWaiting columns k.size k.stored.now rows k.waiting.items
  pub places : map (λ parts. parts_view parts.items) k.places.keys ≡ keys_of k.waiting.items

-- all rows are split, or the first is known whose key cannot partition
abbrev pub AreSplitOr : List KeyColumn → KeyBuffers → List ValueTrees → Option KeyFault → Type 0
AreSplitOr columns k rows None = AreSplit columns k rows
AreSplitOr columns k rows (Some f) = IsFirstFault columns rows f.row (key_view f.key)

-- these rows were taken
pub record HaveTaken (columns : List KeyColumn) (k : KeyBuffers) (rows : List ValueTrees) : Type 0 where
  pub counted : k.count ≡ length rows
  pub split : AreSplitOr columns k rows k.fault

-- the key waits at this place, and all rows are split
pub record IsPlaced (columns : List KeyColumn) (k : KeyBuffers) (rows : List ValueTrees) (key : List ValueTree) (at : ℕ) : Type 0 where
  pub split : AreSplit columns k rows
  pub within : at < length (keys_of k.waiting.items)
  pub key_is : get_or (keys_of k.waiting.items) at key ≡ key

-- the rows that wait at a place are the last of the full groups now, and none wait there
pub record PutsAside (at : ℕ) (fs : Fields) (waiting full waiting_new full_new : List KeyBuffer) : Type 0 where
  pub old : KeyBuffer
  pub was : old ≡ get_or waiting at old
  pub fresh : KeyBuffer
  pub aside : KeyBuffer
  pub waits : waiting_new ≡ set waiting at fresh
  pub grows : full_new ≡ full ++ aside ∷ []
  pub fresh_key : key_view fresh.key ≡ key_view old.key
  pub fresh_rows : HoldsRows fs [] fresh
  pub aside_key : key_view aside.key ≡ key_view old.key
  pub aside_rows : aside.rows ≡ old.rows

-- only keys were added, with buffers for their rows
pub record AddsKeys (old new : KeyBuffers) : Type 0 where
  pub stored : new.stored ≡ old.stored
  pub size : new.size ≡ old.size
  pub count : new.count ≡ old.count
  pub full : new.full ≡ old.full
  pub fault : new.fault ≡ old.fault

-- only the rows that wait and the full groups changed
pub record KeepsKeys (old new : KeyBuffers) : Type 0 where
  pub stored : new.stored ≡ old.stored
  pub size : new.size ≡ old.size
  pub count : new.count ≡ old.count
  pub places : new.places ≡ old.places
  pub fault : new.fault ≡ old.fault
