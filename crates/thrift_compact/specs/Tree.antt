-- Trees of the compact protocol, apart from where they lie in memory.
use Rattle.std.specs.Prelude.{ℕ, suc, max, ℤ, List}

mutual
  pub data Node : Type 0 where
    yes : Node
    no : Node
    flag : ℕ → Node
    i8 : ℤ → Node
    i16 : ℤ → Node
    i32 : ℤ → Node
    i64 : ℤ → Node
    double : List ℕ → Node
    binary : List ℕ → Node
    list : ℕ → Nodes → Node
    set : ℕ → Nodes → Node
    empty_map : Node
    map : ℕ → ℕ → Pairs → Node
    struct : Fields → Node

  pub data Nodes : Type 0 where
    no_nodes : Nodes
    node : Node → Nodes → Nodes

  pub data Pairs : Type 0 where
    no_pairs : Pairs
    pair : Node → Node → Pairs → Pairs

  pub data Fields : Type 0 where
    no_fields : Fields
    field : ℤ → Node → Fields → Fields

-- how deep lists, sets, maps and structs nest
abbrev mutual
  pub nest : Node → ℕ
  nest yes = 0
  nest no = 0
  nest (flag b) = 0
  nest (i8 z) = 0
  nest (i16 z) = 0
  nest (i32 z) = 0
  nest (i64 z) = 0
  nest (double bytes) = 0
  nest (binary text) = 0
  nest (list k xs) = suc (nodes_nest xs)
  nest (set k xs) = suc (nodes_nest xs)
  nest empty_map = 1
  nest (map k v ps) = suc (pairs_nest ps)
  nest (struct fs) = suc (fields_nest fs)

  pub nodes_nest : Nodes → ℕ
  nodes_nest no_nodes = 0
  nodes_nest (node x xs) = max (nest x) (nodes_nest xs)

  pub pairs_nest : Pairs → ℕ
  pairs_nest no_pairs = 0
  pairs_nest (pair x y ps) = max (max (nest x) (nest y)) (pairs_nest ps)

  pub fields_nest : Fields → ℕ
  fields_nest no_fields = 0
  fields_nest (field id x fs) = max (nest x) (fields_nest fs)

-- how many elements there are
abbrev pub count : Nodes → ℕ
count no_nodes = 0
count (node x xs) = suc (count xs)

-- how many pairs there are
abbrev pub count_pairs : Pairs → ℕ
count_pairs no_pairs = 0
count_pairs (pair x y ps) = suc (count_pairs ps)
