-- Values that are read where they stand, and what takes the fields of a struct or the elements of a list one after the other.
use Rattle.std.specs.Prelude.{◌≡◌, ℕ, ◌≤◌, ℤ, Bool, List, Option, Some, None, option_and_then, if◌then◌else◌}
use Rattle.bits.specs.declared.refusal.Refusal.{Refusal}
use Rattle.bits.specs.declared.refusal.Refusal.TheVariants.{Truncated, Thrift}
use Rattle.bits.specs.Codec.{NothingStands, NothingStandsEver}
use Rattle.thrift_compact.specs.Tree.{Node, yes, no, list, struct, Nodes, no_nodes, node, Fields, no_fields, field, nest}
use Rattle.thrift_compact.specs.Compact.{kind, IsValue}

-- a refusal for the bytes: Truncated where nothing stands there, Thrift where nothing does whatever follows
abbrev pub IsRefusedFor : {Y : Type 0} → (List ℕ → Y → ℕ → Type 0) → List ℕ → Refusal → Type 0
IsRefusedFor Stands bytes Truncated = NothingStands (Stands bytes)
IsRefusedFor Stands bytes Thrift = NothingStandsEver Stands bytes
IsRefusedFor Stands bytes _ = ⊥

-- a value of the type of this code at the start of the bytes, in which lists, sets, maps and structs nest at most `left` levels
abbrev pub ValueOf : ℕ → ℕ → List ℕ → Node → ℕ → Type 0
ValueOf code left bytes x used = (kind x ≡ code) × (nest x ≤ left) × IsValue x bytes used

-- a value of the type of this code at the start of the bytes, nested at most `left` levels, which `read` reads as y
abbrev pub ReadAs : {Y : Type 0} → (Node → Option Y) → ℕ → ℕ → List ℕ → Y → ℕ → Type 0
ReadAs read code left bytes y used = (x : Node) × ValueOf code left bytes x used × (read x ≡ Some y)

-- a boolean field
abbrev pub truth_of : Bool → Node
truth_of b = if b then yes else no

-- what is held after the fields of a struct, each of them taken by `step`; None if one of them cannot be taken
abbrev pub folded : {S : Type 0} → (S → ℤ → Node → Option S) → S → Fields → Option S
folded step held no_fields = Some held
folded step held (field id x fs) = option_and_then (λ next. folded step next fs) (step held id x)

-- what is held after the elements of a list, each of them taken by `step`; None if one of them cannot be taken
abbrev pub folded_each : {S : Type 0} → (S → Node → Option S) → S → Nodes → Option S
folded_each step held no_nodes = Some held
folded_each step held (node x xs) = option_and_then (λ next. folded_each step next xs) (step held x)

-- what is held after the fields of a struct; None for a value of another type
abbrev pub fields_by : {S : Type 0} → (S → ℤ → Node → Option S) → S → Node → Option S
fields_by step start (struct fs) = folded step start fs
fields_by step start _ = None

-- what is held after the elements of a list; None for a value of another type
abbrev pub elements_by : {S : Type 0} → (S → Node → Option S) → S → Node → Option S
elements_by step start (list k xs) = folded_each step start xs
elements_by step start _ = None

-- nothing of a value, whatever it is
abbrev pub passed : Node → Option (Unit {0})
passed x = Some tt
