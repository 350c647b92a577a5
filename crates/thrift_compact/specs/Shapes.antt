-- Which structs have the shape of one that can be written, the ranges of their numbers aside: Thrift's compact protocol, "Struct Encoding", "List and Set", "Map".
use Rattle.std.specs.Prelude.{◌≡◌, ℕ, ◌≤◌, ◌-◌, IsTrue, nat_lt, ◌==◌, Bool, true, false, ◌&&◌, ◌||◌}
use Rattle.bits.specs.declared.refusal.Refusal.{Refusal}
use Rattle.bits.specs.declared.refusal.Refusal.TheVariants.{Thrift}
use Rattle.thrift_compact.specs.Tree.{Node, yes, no, flag, list, set, empty_map, map, struct, Nodes, no_nodes, node, Pairs, no_pairs, pair, Fields, no_fields, field, fields_nest, count_pairs}
use Rattle.thrift_compact.specs.Compact.{kind}
use Rattle.thrift_compact.specs.Writable.{HasBytes}

-- what an element of this type may be: a boolean one is a byte
abbrev pub is_of_type : ℕ → Node → Bool
is_of_type k yes = false
is_of_type k no = false
is_of_type k (flag b) = k == 1 || k == 2
is_of_type k x = k == kind x

-- a value has a type that a field may have
abbrev pub is_member : Node → Bool
is_member x = nat_lt (kind x) 16

-- a map of these types can have this number of pairs: there is one
abbrev pub may_be_map : ℕ → ℕ → ℕ → Bool
may_be_map k v pairs = nat_lt k 16 && (nat_lt v 16 && nat_lt 0 pairs)

-- a value, in which lists, sets, maps and structs nest at most `deep` levels
abbrev mutual
  pub has_shape : ℕ → Node → Bool
  has_shape deep (list k xs) = nat_lt 0 deep && (nat_lt k 16 && each_has_shape (deep - 1) k xs)
  has_shape deep (set k xs) = nat_lt 0 deep && (nat_lt k 16 && each_has_shape (deep - 1) k xs)
  has_shape deep empty_map = nat_lt 0 deep
  has_shape deep (map k v ps) = nat_lt 0 deep && (may_be_map k v (count_pairs ps) && pairs_have_shape (deep - 1) k v ps)
  has_shape deep (struct fs) = nat_lt 0 deep && fields_have_shape (deep - 1) fs
  has_shape deep _ = true

  -- the elements of a list or a set of this type
  pub each_has_shape : ℕ → ℕ → Nodes → Bool
  each_has_shape deep k no_nodes = true
  each_has_shape deep k (node x xs) = (is_of_type k x && has_shape deep x) && each_has_shape deep k xs

  -- the pairs of a map of these types
  pub pairs_have_shape : ℕ → ℕ → ℕ → Pairs → Bool
  pairs_have_shape deep k v no_pairs = true
  pairs_have_shape deep k v (pair x y ps) = ((is_of_type k x && has_shape deep x) && (is_of_type v y && has_shape deep y)) && pairs_have_shape deep k v ps

  -- the fields of a struct
  pub fields_have_shape : ℕ → Fields → Bool
  fields_have_shape deep no_fields = true
  fields_have_shape deep (field id x fs) = (is_member x && has_shape deep x) && fields_have_shape deep fs

-- a pair of a map of these types
abbrev pub pair_has_shape : ℕ → ℕ → ℕ → Node → Node → Bool
pair_has_shape deep k v x y = (is_of_type k x && has_shape deep x) && (is_of_type v y && has_shape deep y)

-- the refusal is Thrift, and what was to be written does not have the shape of what can be
abbrev pub IsShapeless : Bool → Refusal → Type 0
IsShapeless has_shape e = (e ≡ Thrift) × (has_shape ≡ false)

-- a struct that some bytes have has the shape
abbrev pub StructsWithBytesHaveTheShape : Type 0
StructsWithBytesHaveTheShape = (deep : ℕ) (fs : Fields) → fields_nest fs ≤ deep → HasBytes fs → IsTrue (fields_have_shape deep fs)

-- a struct of this shape nests at most so deep
abbrev pub ShapesNest : Type 0
ShapesNest = (deep : ℕ) (fs : Fields) → IsTrue (fields_have_shape deep fs) → fields_nest fs ≤ deep
