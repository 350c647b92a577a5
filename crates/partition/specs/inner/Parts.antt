-- How rows go to their keys, one after another.
use Rattle.std.specs.Prelude.{◌≡◌, ℕ, zero, suc, ◌<◌, Bool, false, List, [], ◌∷◌, ◌++◌, ◌⊎◌, length, map, get_or, Contains, IsTrue, if◌then◌else◌}
use Rattle.std.specs.List.{AllByRecursion}
use Rattle.schema.specs.declared.key.KeyKind.{KeyKind}
use Rattle.schema.specs.Values.{ValueTree, ValueTrees, boolean, integer, bytes}
use Rattle.schema.specs.Keys.{KeyColumn, key_of_row}
use Rattle.partition.specs.declared.splitting.Part.{Part}
use Rattle.partition.specs.declared.splitting.Part.TheVariants.{Boolean, Number, Text}
use Rattle.partition.specs.Folders.{CanPartition, is_key_value, is_key}
use Rattle.partition.specs.Order.{is_same_key}
use Rattle.partition.specs.Splitting.{KeyRows, rows_with}

-- the value that a part of a key stands for
abbrev pub part_view : Part → ValueTree
part_view (Boolean b) = boolean b
part_view (Number z) = integer z
part_view (Text t) = bytes t.items

-- the key that its parts stand for, one value for each part
abbrev pub parts_view : List Part → List ValueTree
parts_view parts = map part_view parts

-- no key column can have this value
abbrev pub IsNoKeyValue : ValueTree → Type 0
IsNoKeyValue v = (kind : KeyKind) → is_key_value kind v ≡ false

-- the row has no key in these columns
abbrev pub HasNoKey : List KeyColumn → ValueTrees → Type 0
HasNoKey columns row = IsTrue (is_key columns (key_of_row columns row)) → ⊥

-- these are the parts of the row's key
abbrev pub AreOfRow : List KeyColumn → ValueTrees → List Part → Type 0
AreOfRow columns row parts = parts_view parts ≡ key_of_row columns row

-- no key comes twice
abbrev pub AreDifferent : List (List ValueTree) → Type 0
AreDifferent [] = Unit {0}
AreDifferent (k ∷ ks) = AllByRecursion (λ l. is_same_key k l ≡ false) ks × AreDifferent ks

-- the rows `done` are with their keys: each key once, with its rows in their order
pub record AreWithKeys (columns : List KeyColumn) (done : List ValueTrees) (parts : List KeyRows) : Type 0 where
  pub different : AreDifferent (map (λ p. p.key) parts)
  pub each : AllByRecursion (λ (p : KeyRows). CanPartition columns p.key × (p.rows ≡ rows_with columns p.key done)) parts
  pub used : AllByRecursion (λ k. Contains (map (key_of_row columns) done) k) (map (λ p. p.key) parts)
  pub every : AllByRecursion (λ row. Contains (map (λ p. p.key) parts) (key_of_row columns row)) done

-- the key is at this place already, and nothing is added
pub record IsThere (parts : List KeyRows) (key : List ValueTree) (at : ℕ) (new : List KeyRows) : Type 0 where
  pub same : new ≡ parts
  pub within : at < length (map (λ p. p.key) parts)
  pub key_is : get_or (map (λ p. p.key) parts) at key ≡ key

-- the key is none of those that have rows, and is added at the end without rows
pub record IsAdded (columns : List KeyColumn) (parts : List KeyRows) (key : List ValueTree) (at : ℕ) (new : List KeyRows) : Type 0 where
  pub can : CanPartition columns key
  pub other : AllByRecursion (λ k. is_same_key key k ≡ false) (map (λ p. p.key) parts)
  pub place : at ≡ length parts
  pub added : new ≡ parts ++ record { key = key; rows = [] } ∷ []

-- the key is at this place: it was there already, or it was added at the end without rows
abbrev pub IsPlaced : List KeyColumn → List KeyRows → List ValueTree → ℕ → List KeyRows → Type 0
IsPlaced columns parts key at new = IsThere parts key at new ⊎ IsAdded columns parts key at new

-- one more row for the key at this place
abbrev pub with_row : ℕ → ValueTrees → List KeyRows → List KeyRows
with_row at r [] = []
with_row zero r (p ∷ ps) = record { key = p.key; rows = p.rows ++ r ∷ [] } ∷ ps
with_row (suc at) r (p ∷ ps) = p ∷ with_row at r ps

-- the values without those at the places that are `gone`; the first of them is at place `i`
abbrev pub besides : (ℕ → Bool) → ℕ → List ValueTree → List ValueTree
besides gone i [] = []
besides gone i (v ∷ vs) = if gone i then besides gone (suc i) vs else v ∷ besides gone (suc i) vs
