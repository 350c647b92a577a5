-- What a `MemDisk` says of itself.
use Rattle.std.specs.Prelude.{length, Result}
use Rattle.disk.specs.State.{State, IsLawful, IsOneMore}
use Rattle.disk.specs.declared.fault.Fault.{Fault}
use Rattle.mem_disk.specs.declared.fuse.Done.{Done}
use Rattle.mem_disk.specs.declared.MemDisk.{MemDisk}
use Rattle.mem_disk.specs.Loose.{Loose, empty, replayed}
use Rattle.mem_disk.specs.States.{state_with}
use Rattle.mem_disk.specs.Fuses.{trip_of}
use Rattle.mem_disk.specs.Failing.{HasDone, IsToBeDone, StaysUnlessShort}
use Rattle.mem_disk.specs.Laws.{lawful_with}

-- the state of a `MemDisk`, by the record of its calls and its counts of failures and reads
abbrev pub state_of : MemDisk → State
state_of disk = state_with disk.held.calls.items disk.failures disk.reads

-- the state of each `MemDisk` is lawful
pub lawful_of : (disk : MemDisk) → IsLawful (state_of disk)
lawful_of disk = lawful_with disk.held.calls.items (length disk.held.nodes.items) disk.failures disk.reads disk.held.kept.sound

-- what a `MemDisk` holds, and what of it is loose
abbrev pub loose_in : MemDisk → Loose
loose_in disk = replayed empty disk.held.calls.items

-- shortages are counted only where a call fails that can be done, and is to do it
abbrev pub ShortOnlyWhere : {T : Type 0} → Type 0 → MemDisk → MemDisk → Result T Fault → Type 0
ShortOnlyWhere Can old new result = StaysUnlessShort (IsToBeDone (trip_of old.fuse) Can) result old.shortages new.shortages

-- where the fuse trips, the record goes on by what the pick says, or one shortage more is counted
abbrev pub FailsBy : (Done → Loose → Loose) → MemDisk → MemDisk → Type 0
FailsBy step old new = HasDone step (trip_of old.fuse) old.held.calls.items new.held.calls.items (IsOneMore old.shortages new.shortages)
