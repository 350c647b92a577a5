-- The tree of a value, apart from where it lies in memory.
use Rattle.std.specs.Prelude.{ℕ, ◌+◌, ℤ, Bool, nat_le, ◌&&◌, List, [], ◌∷◌, map, if◌then◌else◌}
use Rattle.thrift_compact.specs.declared.tree.ElementType.{ElementType}
use Rattle.thrift_compact.specs.declared.tree.ElementType.TheVariants.{True, False, I8, I16, I32, I64, Double, Binary, List as ListType, Set, Map, Struct, Other}
use Rattle.thrift_compact.specs.declared.tree.Node.{Node as CodeNode}
use Rattle.thrift_compact.specs.declared.tree.Node.TheOpen.{Node-F, Field-F}
use Rattle.thrift_compact.specs.declared.tree.Node.TheOpen as layer
use Rattle.thrift_compact.specs.declared.tree.Node.TheFolds.{fold-Node, fold-Field}
use Rattle.thrift_compact.specs.declared.tree.Field.{Field as CodeField}
use Rattle.thrift_compact.specs.declared.tree.Tree.{Tree}
use Rattle.thrift_compact.specs.Tree as tree
use Rattle.thrift_compact.specs.Tree.{Node, Nodes, no_nodes, node, Pairs, no_pairs, pair, Fields, no_fields, field}

-- 1 to 12, the numbers of the types
abbrev pub is_type : ℕ → Bool
is_type code = nat_le 1 code && nat_le code 12

-- The protocol's number of a type. `Other` of a named type's code is 16 more than it: no bytes have a number from 16 on.
abbrev pub code_of : ElementType → ℕ
code_of True = 1
code_of False = 2
code_of I8 = 3
code_of I16 = 4
code_of I32 = 5
code_of I64 = 6
code_of Double = 7
code_of Binary = 8
code_of ListType = 9
code_of Set = 10
code_of Map = 11
code_of Struct = 12
code_of (Other code) = if is_type code then 16 + code else code

-- the elements in a list of trees, in their order
abbrev pub nodes_of : List Node → Nodes
nodes_of [] = no_nodes
nodes_of (x ∷ xs) = node x (nodes_of xs)

-- the pairs in a list of keys and values, in their order
abbrev pub pairs_of : List (Node × Node) → Pairs
pairs_of [] = no_pairs
pairs_of (p ∷ ps) = pair p.0 p.1 (pairs_of ps)

-- the fields in a list of ids and values, in their order
abbrev pub fields_of : List (ℤ × Node) → Fields
fields_of [] = no_fields
fields_of (f ∷ fs) = field f.0 f.1 (fields_of fs)

-- one value, with the trees of the values in it
abbrev pub view_step : Node-F Node (ℤ × Node) → Node
view_step (layer.Bool b) = if b then tree.yes else tree.no
view_step (layer.Flag b) = tree.flag b
view_step (layer.I8 z) = tree.i8 z
view_step (layer.I16 z) = tree.i16 z
view_step (layer.I32 z) = tree.i32 z
view_step (layer.I64 z) = tree.i64 z
view_step (layer.Double bytes) = tree.double bytes
view_step (layer.Binary text) = tree.binary text.items
view_step (layer.List k xs) = tree.list (code_of k) (nodes_of xs.items)
view_step (layer.Set k xs) = tree.set (code_of k) (nodes_of xs.items)
view_step layer.EmptyMap = tree.empty_map
view_step (layer.Map k v ps) = tree.map (code_of k) (code_of v) (pairs_of ps.items)
view_step (layer.Struct fs) = tree.struct (fields_of fs.items)

-- one field: its id, and the tree of its value
abbrev pub field_step : Field-F Node (ℤ × Node) → ℤ × Node
field_step f = (f.id, f.value)

-- the tree of a value of the program
abbrev pub view : CodeNode → Node
view = fold-Node Node (ℤ × Node) view_step field_step

-- the id of a field of the program, and the tree of its value
abbrev pub field_view : CodeField → ℤ × Node
field_view = fold-Field Node (ℤ × Node) view_step field_step

-- the trees of values of the program, in their order
abbrev pub views : List CodeNode → Nodes
views xs = nodes_of (map view xs)

-- the trees of a key and a value of the program
abbrev pub pair_view : CodeNode × CodeNode → Node × Node
pair_view p = (view p.0, view p.1)

-- the trees of the keys and values of a map of the program, in their order
abbrev pub pair_views : List (CodeNode × CodeNode) → Pairs
pair_views ps = pairs_of (map pair_view ps)

-- the ids of the fields of a struct of the program, and the trees of their values, in their order
abbrev pub field_views : List CodeField → Fields
field_views fs = fields_of (map field_view fs)

-- the fields of a struct
abbrev pub tree_view : Tree → Fields
tree_view t = field_views t.fields.items
