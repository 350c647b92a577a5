-- What stands above the disk's model: which bytes each path has in each image that a stop may leave.
use Rattle.std.specs.Prelude.{◌≡◌, ◌≢◌, ◌≤◌, ◌⊎◌, ℕ, List, Option, Some, None, Vec, codes}
use Rattle.std.specs.declared.alloc.Global.{Global}
use Rattle.disk.specs.State.{Image, State, content, may_leave}
use Rattle.disk.specs.declared.binding.Binding.TheVariants.{Nothing, Folder, File}

-- the bytes of the file at each path, where one is there
abbrev pub View : Type 0
View = List ℕ → Option (List ℕ)

-- the path of the root
abbrev pub root_path : List ℕ
root_path = codes "_metadata"

-- the path where the next root is written before it is renamed
abbrev pub next_path : List ℕ
next_path = codes "_metadata.new"

-- the path is not one of the root's two
abbrev pub IsNoRoot : List ℕ → Type 0
IsNoRoot path = (path ≢ root_path) × (path ≢ next_path)

-- whatever a stop leaves has these bytes at this path
abbrev pub IsKept : State → List ℕ → List ℕ → Type 0
IsKept state path bytes = (c : Image) → may_leave state c → content c path ≡ Some bytes

-- At a moment from old to new whatever a stop leaves has these bytes at this path, and a stop may leave something then.
pub record WasKept (path bytes : List ℕ) (old new : State) : Type 0 where
  pub moment : ℕ
  pub from : old.moment ≤ moment
  pub until : moment ≤ new.moment
  pub possible : (c : Image) × new.images moment c
  pub each : (c : Image) → new.images moment c → content c path ≡ Some bytes

-- at this moment the file that the root names in one image has the same bytes in each: it has no write that a stop may tear
abbrev pub IsRootedAt : State → ℕ → Type 0
IsRootedAt state m = (c d : Image) (node : ℕ) → state.images m c → state.images m d → c.names root_path ≡ File node → d.bytes node ≡ c.bytes node

-- the file that the root names in one image has the same bytes in each image now
abbrev pub IsRooted : State → Type 0
IsRooted state = IsRootedAt state state.moment

-- at each moment from old to new the file that the root names in one image has the same bytes in each
abbrev pub StaysRooted : State → State → Type 0
StaysRooted old new = (m : ℕ) → old.moment ≤ m → m ≤ new.moment → IsRootedAt new m

-- whatever a stop leaves has the root that is read
abbrev pub IsSettled : State → Type 0
IsSettled state = (c : Image) → may_leave state c → content c root_path ≡ content state.seen root_path

-- no name stands at this path, as the disk reads
abbrev pub IsGone : State → List ℕ → Type 0
IsGone state path = state.seen.names path ≡ Nothing

-- no folder stands at this path, as the disk reads
abbrev pub IsNoFolder : State → List ℕ → Type 0
IsNoFolder state path = state.seen.names path ≢ Folder

-- no file stands at this path, as the disk reads
abbrev pub IsNoFile : State → List ℕ → Type 0
IsNoFile state path = content state.seen path ≡ None

-- the bytes of a root that was read
abbrev pub bytes_of : Option (Vec ℕ Global) → Option (List ℕ)
bytes_of None = None
bytes_of (Some bytes) = Some bytes.items

-- the disk reads this root, or none
abbrev pub ReadsRoot : State → Option (Vec ℕ Global) → Type 0
ReadsRoot state root = content state.seen root_path ≡ bytes_of root

-- all paths have what they had
abbrev pub Same : View → View → Type 0
Same u v = (q : List ℕ) → v q ≡ u q

-- all but one path have what they had
abbrev pub AllBut : List ℕ → View → View → Type 0
AllBut path u v = (q : List ℕ) → q ≢ path → v q ≡ u q

-- the root is the old one or this one, whole; all but it and the next root have what they had
pub record Swaps (root : List ℕ) (u v : View) : Type 0 where
  pub either : (v root_path ≡ u root_path) ⊎ (v root_path ≡ Some root)
  pub others : (q : List ℕ) → q ≢ root_path → q ≢ next_path → v q ≡ u q

-- At each moment from old to new a stop leaves this change, or none, of what one could have left at old: each image
-- by itself. The past stays as it was.
pub record LeavesAfter (Change : View → View → Type 0) (old new : State) : Type 0 where
  pub later : old.moment ≤ new.moment
  pub history : (m : ℕ) (c : Image) → m ≤ old.moment → new.images m c → old.images m c
  pub keeps : (m : ℕ) (c : Image) → m ≤ old.moment → old.images m c → new.images m c
  pub each : (m : ℕ) (c : Image) → old.moment ≤ m → m ≤ new.moment → new.images m c → (d : Image) × may_leave old d × Change (content d) (content c)

-- the disk reads this change, or none
abbrev pub ReadsAs : (View → View → Type 0) → State → State → Type 0
ReadsAs Change old new = Change (content old.seen) (content new.seen)

-- the disk reads the same names but for one
abbrev pub LeavesNames : List ℕ → State → State → Type 0
LeavesNames path old new = (q : List ℕ) → q ≢ path → new.seen.names q ≡ old.seen.names q
