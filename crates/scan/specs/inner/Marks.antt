-- Which rows satisfy, by readers of leaves, for the clauses of private functions.
use Rattle.std.specs.Prelude.{◌≡◌, ◌⊎◌, ℕ, false, IsTrue, List, [], ◌∷◌, map}
use Rattle.std.specs.List.{AllByRecursion}
use Rattle.schema.specs.Cutting.{is_among}
use Rattle.schema.specs.Values.{ValueTree, ValueTrees, trees_of, member_at, group}
use Rattle.schema.specs.Stripe.{Step, Leaf, column, columns, leaves_of}
use Rattle.schema.specs.Fits.{RowsFit}
use Rattle.schema.specs.Keys.{KeyColumn, places_of}
use Rattle.schema.specs.Shape.{Fields}
use Rattle.assemble.specs.Standing.{AllStand}
use Rattle.filter.specs.Test.{Test, is_single, steps_of, value_at, value_of}
use Rattle.row_group.specs.declared.chunk_reader.ChunkReader.{ChunkReader}
use Rattle.row_group.specs.Left.{chunk_stands}
use Rattle.manifest.specs.Groups.{Group}
use Rattle.scan.specs.declared.leaf_uses.LeafUse.{LeafUse}
use Rattle.scan.specs.inner.Fills.{given}
use Rattle.scan.specs.inner.Texts.{AreHeld}
use Rattle.scan.specs.Cost.{place_of, is_stored}

-- a value for each leaf: that of the key in a key column, and null in another one
abbrev pub cells_of : List ℕ → List ValueTree → List Leaf → List ValueTree
cells_of keys key leaves = map (λ (l : Leaf). given keys key (place_of l.steps)) leaves

-- A term's leaf is among those with these indexes, and this is the path to it; or its value in the row is the one given.
abbrev pub IsGiven : Test → List ℕ → List (List Step) → List ValueTree → ValueTrees → Type 0
IsGiven t [] [] cells row = member_at t.leaf (trees_of cells) ≡ value_of t row
IsGiven t (n ∷ ns) (p ∷ ps) cells row = ((n ≡ t.leaf) × (p ≡ steps_of t) × (is_among ns t.leaf ≡ false)) ⊎ ((n ≡ t.leaf → ⊥) × IsGiven t ns ps cells row)
IsGiven t _ _ cells row = ⊥

-- for each term of a filter: its leaf is among those with these indexes, or its value in the row is the one given
abbrev pub AreGiven : List (List Test) → List ℕ → List (List Step) → List ValueTree → ValueTrees → Type 0
AreGiven tests ns ps cells row = AllByRecursion (AllByRecursion (λ t. IsGiven t ns ps cells row)) tests

-- the readers stand for the columns that these rows have at their leaves, which are below no repeated field; the values of other leaves are given
pub record MayFilter (tests : List (List Test)) (rs : List ChunkReader) (numbers : List ℕ) (cells : List ValueTree) (rows : List ValueTrees) : Type 0 where
  pub paths : List (List Step)
  pub single : AllByRecursion (AllByRecursion (λ s. IsTrue (is_single s))) paths
  pub stand : AllStand chunk_stands rs (map (column rows) paths)
  pub given : AllByRecursion (λ row. AreGiven tests numbers paths cells row) rows

-- the value of each leaf that the file does not have is the same in each row: that of the key, or null
abbrev pub HaveCells : List ℕ → List ValueTree → ℕ → List Leaf → List ValueTrees → Type 0
HaveCells keys key width leaves rows = AllByRecursion (λ (l : Leaf). is_stored keys width (place_of l.steps) ≡ false
    → AllByRecursion (λ row. value_at l.steps (group row) ≡ given keys key (place_of l.steps)) rows) leaves

-- the value of each column that the file does not have is the same in each row, of so many columns
abbrev pub HaveFills : List ℕ → List ValueTree → ℕ → List ValueTrees → Type 0
HaveFills keys key width rows = (place : ℕ) → is_stored keys width place ≡ false → AllByRecursion (λ row. member_at place row ≡ given keys key place) rows

-- the rows fit, the bytes hold the columns of the leaves that are wanted, and the other values are given
pub record MaySelect (keys : List KeyColumn) (fs : Fields) (g : Group) (uses : List LeafUse) (first later : List (List ℕ)) (rows : List ValueTrees) : Type 0 where
  pub fit : RowsFit fs rows
  pub held : AreHeld false g.chunks (leaves_of fs) uses first later (columns fs rows)
  pub fills : HaveFills (places_of keys) g.key g.width rows
