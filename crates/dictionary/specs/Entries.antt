-- The entries of a dictionary, and the indexes of values: parquet-format, Encodings.md, "Dictionary Encoding".
use Rattle.std.specs.Prelude.{◌≡◌, ℕ, ◌<◌, List, length, map, take, All, Contains, slice_get, Some}
use Rattle.schema.specs.Values.{ValueTree, boolean, integer, bytes, view}
use Rattle.dictionary.specs.declared.dictionary.Dictionary.{Dictionary}

-- the entries of a dictionary, in the order of their indexes
abbrev pub entries_of : Dictionary → List ValueTree
entries_of d = map view d.entries.items

-- the indexes of the values that a dictionary was built from; none of one that was read
abbrev pub indexes_of : Dictionary → List ℕ
indexes_of d = d.indexes.items

-- a value that a leaf can have: no null, group or list
abbrev pub IsLeafValue : ValueTree → Type 0
IsLeafValue (boolean b) = Unit {0}
IsLeafValue (integer z) = Unit {0}
IsLeafValue (bytes text) = Unit {0}
IsLeafValue _ = ⊥

-- no value stands twice
abbrev pub AreDifferent : List ValueTree → Type 0
AreDifferent vs = (i j : ℕ) (v : ValueTree) → slice_get vs i ≡ Some v → slice_get vs j ≡ Some v → i ≡ j

-- each index stands for its value: the value is the entry at the index
abbrev pub AreEntriesAt : List ValueTree → List ℕ → List ValueTree → Type 0
AreEntriesAt entries indexes values = map (slice_get entries) indexes ≡ map (λ v. Some v) values

-- index k comes, and only lower ones come before it
abbrev pub ComesInTurn : List ℕ → ℕ → Type 0
ComesInTurn indexes k = (at : ℕ) × (slice_get indexes at ≡ Some k) × All (λ i. i < k) (take at indexes)

-- the entries are the values, each once, in the order in which they first come, and each index stands for its value
pub record IsIndexed (values entries : List ValueTree) (indexes : List ℕ) : Type 0 where
  pub stand : AreEntriesAt entries indexes values
  pub once : AreDifferent entries
  pub in_order : (k : ℕ) → k < length entries → ComesInTurn indexes k

-- more than n of the values are different
pub record AreMoreThan (n : ℕ) (values : List ValueTree) : Type 0 where
  pub some : List ValueTree
  pub many : n < length some
  pub among : All (Contains values) some
  pub different : AreDifferent some

-- a list of values has at most one list of entries, and at most one list of indexes
abbrev pub AtMostOneDictionary : Type 0
AtMostOneDictionary = (values entries others : List ValueTree) (indexes places : List ℕ)
    → IsIndexed values entries indexes → IsIndexed values others places → (entries ≡ others) × (indexes ≡ places)
