-- What a disk holds, and what a stop may leave of it.
use Rattle.std.specs.Prelude.{◌≡◌, ◌≢◌, ◌≤◌, ◌<◌, ◌⊎◌, ◌+◌, ◌-◌, ◌^◌, ℕ, List, [], Option, Some, None}
use Rattle.disk.specs.Paths.{folder_of}
use Rattle.disk.specs.declared.binding.Binding.{Binding}
use Rattle.disk.specs.declared.binding.Binding.TheVariants.{Nothing, Folder, File}

-- a disk at rest: what each path names, and the bytes of each node
pub record Image : Type 0 where
  pub names : List ℕ → Binding
  pub bytes : ℕ → List ℕ

-- the bytes that a binding stands for
abbrev pub held : Image → Binding → Option (List ℕ)
held image Nothing = None
held image Folder = None
held image (File node) = Some (image.bytes node)

-- the bytes of the file at a path, where one is there
abbrev pub content : Image → List ℕ → Option (List ℕ)
content image path = held image (image.names path)

-- the dataset's folder is there, and each name lies in a folder that is there: below an absent one is nothing
pub record IsWhole (image : Image) : Type 0 where
  pub top : image.names [] ≡ Folder
  pub below : (path : List ℕ) → image.names path ≢ Nothing → image.names (folder_of path) ≡ Folder

-- what a disk says of itself
pub record State : Type 1 where
  -- as it reads
  pub seen : Image
  -- the moment, a number that does not fall; a call may take many
  pub moment : ℕ
  -- what a stop at a moment may leave, for each moment so far
  pub images : ℕ → Image → Type 0
  -- the nodes of which a sync has failed
  pub doubted : ℕ → Type 0
  -- how often the disk has failed
  pub failures : ℕ
  -- how often a range was read
  pub reads : ℕ
  -- the disk keeps its rules
  pub honest : Type 0

-- what a stop may leave now
abbrev pub may_leave : State → Image → Type 0
may_leave state image = state.images state.moment image

-- what holds of each honest disk
pub record IsLawful (state : State) : Type 0 where
  -- a stop may leave the disk as it reads
  pub seen_may_stay : state.honest → may_leave state state.seen
  -- whatever a stop leaves is whole
  pub whole : state.honest → (m : ℕ) (image : Image) → state.images m image → IsWhole image

-- a node that no stop leaves a name or bytes for, nor is it in doubt
pub record IsFresh (state : State) (node : ℕ) : Type 0 where
  pub unnamed : (image : Image) → may_leave state image → (path : List ℕ) → image.names path ≢ File node
  pub empty : (image : Image) → may_leave state image → image.bytes node ≡ []
  pub sure : state.doubted node → ⊥

-- nothing is loose, and no sync has failed: a stop leaves the disk as it reads
pub record IsAtRest (state : State) : Type 0 where
  pub firm : (image : Image) → may_leave state image → image ≡ state.seen
  pub sure : (node : ℕ) → state.doubted node → ⊥

-- a count that goes up by one, and stays at the greatest u64
pub record IsOneMore (old new : ℕ) : Type 0 where
  pub no_less : old ≤ new
  pub no_more : new ≤ old + 1
  pub grows : (old < new) ⊎ (2 ^ 64 - 1 ≤ old)
