-- What a stop leaves of a list of names and a list of nodes.
use Rattle.std.specs.Prelude.{◌≡◌, ◌≤◌, ◌⊎◌, ℕ, zero, suc, List, [], ◌∷◌, length, false, string_bytes}
use Rattle.disk.specs.Paths.{folder_of}
use Rattle.disk.specs.declared.binding.Binding.{Binding}
use Rattle.disk.specs.declared.binding.Binding.TheVariants.{Nothing, Folder, File}
use Rattle.mem_disk.specs.declared.name.Name.{Name}
use Rattle.mem_disk.specs.declared.node.Node.{Node}
use Rattle.mem_disk.specs.Tables.{Among, name_in}
use Rattle.mem_disk.specs.Loose.{MayHold}

-- two lists of one length, of which each member goes with its own
abbrev pub EachOf : {A B : Type 0} → (A → B → Type 0) → List A → List B → Type 0
EachOf R [] [] = Unit {0}
EachOf R [] (y ∷ ys) = ⊥
EachOf R (x ∷ xs) [] = ⊥
EachOf R (x ∷ xs) (y ∷ ys) = R x y × EachOf R xs ys

-- a name with one of the bindings that it may have, which is durable
pub record IsPicked (old new : Name) : Type 0 where
  pub path : string_bytes new.path ≡ string_bytes old.path
  pub now : (new.now ≡ old.now) ⊎ Among new.now old.had.items
  pub had : new.had.items ≡ []

-- what is there of a binding, by what its folder's path stands for: below what is no folder is nothing
abbrev pub below : Binding → Binding → Binding
below Folder binding = binding
below Nothing binding = Nothing
below (File node) binding = Nothing

-- what is there of a path of at most so many bytes
abbrev pub left_within : List Name → ℕ → List ℕ → Binding
left_within names n [] = Folder
left_within names zero (b ∷ path) = Nothing
left_within names (suc n) (b ∷ path) = below (left_within names n (folder_of (b ∷ path))) (name_in names (b ∷ path))

-- what is there of a path, where each name has picked its binding
abbrev pub left_in : List Name → List ℕ → Binding
left_in names path = left_within names (length path) path

-- a name that stands for what is there of it, which is durable
pub record IsLeft (there : List ℕ → Binding) (old new : Name) : Type 0 where
  pub path : string_bytes new.path ≡ string_bytes old.path
  pub now : new.now ≡ there (string_bytes old.path)
  pub had : new.had.items ≡ []

-- a node with bytes that this one may hold, which are durable
pub record IsTorn (old new : Node) : Type 0 where
  pub holds : old.synced ≤ length old.bytes.items → MayHold old.synced old.bytes.items new.bytes.items
  pub synced : new.synced ≡ length new.bytes.items
  pub sure : new.doubted ≡ false

-- a node with the same bytes, as many of them synced, and in doubt where that one is
pub record IsCopy (old new : Node) : Type 0 where
  pub bytes : new.bytes.items ≡ old.bytes.items
  pub synced : new.synced ≡ old.synced
  pub doubted : new.doubted ≡ old.doubted
