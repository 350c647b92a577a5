-- What is kept of a disk, as a disk, and what a call makes of it.
use Rattle.std.specs.Prelude.{◌≡◌, ℕ, List, length, false, Result, IsErrOf}
use Rattle.disk.specs.State.{Image, State}
use Rattle.disk.specs.declared.binding.Binding.TheVariants.{File}
use Rattle.disk.specs.declared.fault.Fault.{Fault}
use Rattle.disk.specs.declared.fault.Fault.TheVariants.{Memory}
use Rattle.mem_disk.specs.declared.fuse.Done.{Done}
use Rattle.mem_disk.specs.declared.fuse.Trip.{Trip}
use Rattle.mem_disk.specs.declared.held.Held.{Held}
use Rattle.mem_disk.specs.Loose.{Loose, empty, replayed, image_of}
use Rattle.mem_disk.specs.States.{state_with}
use Rattle.mem_disk.specs.Failing.{HasDone}

-- what is kept of a disk, as a disk, and what of it is loose
abbrev pub loose_held : Held → Loose
loose_held held = replayed empty held.calls.items

-- the image that the disk reads
abbrev pub image_held : Held → Image
image_held held = image_of (loose_held held)

-- the state of the disk, with these counts of failures and reads
abbrev pub state_held : Held → ℕ → ℕ → State
state_held held failures reads = state_with held.calls.items failures reads

-- the node that the next new file gets
abbrev pub next_node : Held → ℕ
next_node held = length held.nodes.items

-- this path names the file of this node
abbrev pub IsFileAt : Held → List ℕ → ℕ → Type 0
IsFileAt held path node = (loose_held held).names path ≡ File node

-- no sync of this node has failed
abbrev pub IsSure : Held → ℕ → Type 0
IsSure held node = (loose_held held).doubted node ≡ false

-- a call that fails with this pick makes this of the disk, or is out of memory
abbrev pub DoesBy : {T : Type 0} → (Done → Loose → Loose) → Trip → Held → Held → Result T Fault → Type 0
DoesBy step trip old new result = HasDone step trip old.calls.items new.calls.items (IsErrOf result Memory)
