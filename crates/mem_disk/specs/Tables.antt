-- What a list of names and a list of nodes say.
use Rattle.std.specs.Prelude.{◌≡◌, ◌≢◌, ◌⊎◌, ℕ, zero, suc, List, [], ◌∷◌, ◌++◌, if◌then◌else◌, bytes_eq, string_bytes, Option, Some, None, option_map, unwrap_or}
use Rattle.disk.specs.declared.binding.Binding.{Binding}
use Rattle.disk.specs.declared.binding.Binding.TheVariants.{Nothing, Folder}
use Rattle.disk.specs.Paths.{folder_of}
use Rattle.mem_disk.specs.declared.name.Name.{Name}
use Rattle.mem_disk.specs.declared.node.Node.{Node}

-- what is there without a name in the list: only the dataset's own folder
abbrev pub at_first : List ℕ → Binding
at_first [] = Folder
at_first (b ∷ path) = Nothing

-- what the first name with a path has, and `none` without one
abbrev pub of_name : {T : Type 0} → (Name → T) → (List ℕ → T) → List Name → List ℕ → T
of_name f none [] q = none q
of_name f none (e ∷ es) q = if bytes_eq q (string_bytes e.path) then f e else of_name f none es q

-- what a path names
abbrev pub name_in : List Name → List ℕ → Binding
name_in es q = of_name (λ (e : Name). e.now) at_first es q

-- what else a path has named since its folder's last sync
abbrev pub had_in : List Name → List ℕ → List Binding
had_in es q = of_name (λ (e : Name). e.had.items) (λ _. []) es q

-- where the first name with a path is
abbrev pub place_in : List Name → List ℕ → Option ℕ
place_in [] q = None
place_in (e ∷ es) q = if bytes_eq q (string_bytes e.path) then Some 0 else option_map suc (place_in es q)

-- the places, and this one for a path that has none
abbrev pub placed_at : (List ℕ → Option ℕ) → List ℕ → ℕ → List ℕ → Option ℕ
placed_at places path at q = if bytes_eq path q then Some (unwrap_or (places path) at) else places q

-- no name of the list has this path
abbrev pub FindsNone : List Name → List ℕ → Type 0
FindsNone [] path = Unit {0}
FindsNone (e ∷ es) path = (string_bytes e.path ≢ path) × FindsNone es path

-- the first name with this path is here
abbrev pub Finds : List Name → List ℕ → ℕ → Type 0
Finds [] path i = ⊥
Finds (e ∷ es) path zero = string_bytes e.path ≡ path
Finds (e ∷ es) path (suc i) = (string_bytes e.path ≢ path) × Finds es path i

-- no two names have one path
abbrev pub AreApart : List Name → Type 0
AreApart [] = Unit {0}
AreApart (e ∷ es) = FindsNone es (string_bytes e.path) × AreApart es

-- what the node at a place has, and `none` past the end
abbrev pub of_node : {T : Type 0} → (Node → T) → T → List Node → ℕ → T
of_node f none [] n = none
of_node f none (x ∷ xs) zero = f x
of_node f none (x ∷ xs) (suc n) = of_node f none xs n

-- a binding stands in a list
abbrev pub Among : Binding → List Binding → Type 0
Among b [] = ⊥
Among b (x ∷ xs) = (b ≡ x) ⊎ Among b xs

-- the path is bound, and all else is as it was
pub record Rebinds (path : List ℕ) (to : Binding) (old new : List Name) : Type 0 where
  pub names : (q : List ℕ) → name_in new q ≡ (if bytes_eq q path then to else name_in old q)
  pub had : (q : List ℕ) → had_in new q ≡ (if bytes_eq q path then had_in old q ++ name_in old q ∷ [] else had_in old q)

-- two lists that say the same
pub record SaysTheSame (old new : List Name) : Type 0 where
  pub names : (q : List ℕ) → name_in new q ≡ name_in old q
  pub had : (q : List ℕ) → had_in new q ≡ had_in old q

-- the names in a folder have been nothing else, and all else is as it was
pub record Settles (folder : List ℕ) (old new : List Name) : Type 0 where
  pub names : (q : List ℕ) → name_in new q ≡ name_in old q
  pub had : (q : List ℕ) → had_in new q ≡ (if bytes_eq (folder_of q) folder then [] else had_in old q)

-- a name after its folder's sync
pub record Settled (folder : List ℕ) (old new : Name) : Type 0 where
  pub path : string_bytes new.path ≡ string_bytes old.path
  pub now : new.now ≡ old.now
  pub had : new.had.items ≡ (if bytes_eq (folder_of (string_bytes old.path)) folder then [] else old.had.items)

-- that no name of a list has a path is a proposition: it has at most one proof
finds_none_once : (es : List Name) (p : List ℕ) → IsProp (FindsNone es p)
finds_none_once [] p = hlevel
finds_none_once (e ∷ es) p = let rest = finds_none_once es p in hlevel rest

-- that no two names have one path is a proposition: it has at most one proof
pub apart_once : (es : List Name) → IsProp (AreApart es)
apart_once [] = hlevel
apart_once (e ∷ es) = let none = finds_none_once es (string_bytes e.path) in let rest = apart_once es in hlevel (none, rest)
