-- What each reader reads, in at most `left` more levels.
use Rattle.std.specs.Prelude.{◌≡◌, ℕ, ◌≤◌, ℤ, pos, List, Option, Some, FitsSigned}
use Rattle.std.specs.Int.{w16, w32}
use Rattle.thrift_compact.specs.declared.tree.ElementType.{ElementType}
use Rattle.thrift_compact.specs.declared.tree.ElementType.TheVariants.{List as ListType, Set, Map, Struct}
pub use Rattle.thrift_compact.specs.Values.{IsRefusedFor, ValueOf}
use Rattle.thrift_compact.specs.Tree.{Node, Nodes, list, Pairs, Fields, nest, nodes_nest, pairs_nest, fields_nest, count, count_pairs}
use Rattle.thrift_compact.specs.Values.{folded, folded_each}
use Rattle.thrift_compact.specs.Compact.{IsSigned, IsElement, IsValue, AreElements, ArePairs, AreFields}

-- something stands in the first `used` bytes
abbrev pub SomethingStands : {Y : Type 0} → (List ℕ → Y → ℕ → Type 0) → List ℕ → ℕ → Type 0
SomethingStands {Y} Stands bytes used = (y : Y) × Stands bytes y used

-- an i16 at the start of the bytes
abbrev pub IsShortNumber : List ℕ → ℤ → ℕ → Type 0
IsShortNumber bytes z used = IsSigned bytes z used × FitsSigned w16 z

-- an i32 at the start of the bytes
abbrev pub IsNumber : List ℕ → ℤ → ℕ → Type 0
IsNumber bytes z used = IsSigned bytes z used × FitsSigned w32 z

-- a type whose values nest
abbrev pub IsNesting : ElementType → Type 0
IsNesting ListType = Unit {0}
IsNesting Set = Unit {0}
IsNesting Map = Unit {0}
IsNesting Struct = Unit {0}
IsNesting _ = ⊥

-- an element of the type of this code at the start of the bytes, in which lists, sets, maps and structs nest at most `left` levels
abbrev pub ElementOf : ℕ → ℕ → List ℕ → Node → ℕ → Type 0
ElementOf code left bytes x used = IsElement code x × (nest x ≤ left) × IsValue x bytes used

-- `size` elements of the type of this code at the start of the bytes, each nested at most `left` levels
abbrev pub ElementsOf : ℕ → ℕ → ℕ → List ℕ → Nodes → ℕ → Type 0
ElementsOf code left size bytes xs used = (count xs ≡ size) × (nodes_nest xs ≤ left) × AreElements xs code bytes used

-- a list at the start of the bytes, by the code of its element type and its elements, each nested at most `left` levels
abbrev pub ListOf : ℕ → List ℕ → ℕ × Nodes → ℕ → Type 0
ListOf left bytes l used = (nodes_nest l.1 ≤ left) × IsValue (list l.0 l.1) bytes used

-- `size` pairs of a key and a value of the types of these codes at the start of the bytes, each nested at most `left` levels
abbrev pub PairsOf : ℕ → ℕ → ℕ → ℕ → List ℕ → Pairs → ℕ → Type 0
PairsOf key value left size bytes ps used = (count_pairs ps ≡ size) × (pairs_nest ps ≤ left) × ArePairs ps key value bytes used

-- the fields of a struct at the start of the bytes, up to the byte that ends them, with values nested at most `left` levels
abbrev pub FieldsOf : ℕ → List ℕ → Fields → ℕ → Type 0
FieldsOf left bytes fs used = (fields_nest fs ≤ left) × AreFields fs (pos 0) bytes used

-- the fields of a struct at the start of the bytes, with values nested at most `left` levels, each of them taken from what `start` holds on: what is held at their end
abbrev pub FieldsTaken : {S : Type 0} → (S → ℤ → Node → Option S) → S → ℕ → List ℕ → S → ℕ → Type 0
FieldsTaken step start left bytes held used = (fs : Fields) × FieldsOf left bytes fs used × (folded step start fs ≡ Some held)

-- an element of the type of this code at the start of the bytes, nested at most `left` levels, which `read` reads as y
abbrev pub ElementRead : {Y : Type 0} → (Node → Option Y) → ℕ → ℕ → List ℕ → Y → ℕ → Type 0
ElementRead read code left bytes y used = (x : Node) × ElementOf code left bytes x used × (read x ≡ Some y)

-- `size` elements of the type of this code at the start of the bytes, each nested at most `left` levels and taken from what `start` holds on: what is held at their end
abbrev pub ElementsTaken : {S : Type 0} → (S → Node → Option S) → S → ℕ → ℕ → ℕ → List ℕ → S → ℕ → Type 0
ElementsTaken step start code left size bytes held used = (xs : Nodes) × ElementsOf code left size bytes xs used × (folded_each step start xs ≡ Some held)

-- a list at the start of the bytes, its elements nested at most `left` levels and taken from what `start` holds on: what is held at their end
abbrev pub ListTaken : {S : Type 0} → (S → Node → Option S) → S → ℕ → List ℕ → S → ℕ → Type 0
ListTaken step start left bytes held used = (l : ℕ × Nodes) × ListOf left bytes l used × (folded_each step start l.1 ≡ Some held)
