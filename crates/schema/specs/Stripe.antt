-- Leaves, their greatest levels, and the columns of rows: parquet-format, "Nested Encoding", as the Dremel paper has it.
use Rattle.std.specs.Prelude.{ℕ, suc, ◌+◌, List, [], ◌∷◌, ◌++◌, map, flat_map, Option, Some, None}
use Rattle.schema.specs.declared.value.Repetition.{Repetition}
use Rattle.schema.specs.declared.value.Repetition.TheVariants.{Required, Optional, Repeated}
use Rattle.schema.specs.Annotations.{LeafType}
use Rattle.schema.specs.Values.{ValueTree, null, group, list, ValueTrees, no_values, value as item, member}
use Rattle.schema.specs.Shape.{Field, leaf, fields, Fields, no_fields, field, repetition_of, name_of}

-- a field on the path to a leaf: its place in its group, and its repetition
pub record Step : Type 0 where
  pub place : ℕ
  pub repetition : Repetition

-- what a field adds to the greatest definition level of the leaves at and below it
abbrev pub definitions : Repetition → ℕ
definitions Required = 0
definitions Optional = 1
definitions Repeated = 1

-- what a field adds to the greatest repetition level of the leaves at and below it
abbrev pub repetitions : Repetition → ℕ
repetitions Required = 0
repetitions Optional = 0
repetitions Repeated = 1

-- the greatest definition level at the end of a path: how many of its fields are OPTIONAL or REPEATED
abbrev pub greatest_definition : List Step → ℕ
greatest_definition [] = 0
greatest_definition (s ∷ steps) = definitions s.repetition + greatest_definition steps

-- the greatest repetition level at the end of a path: how many of its fields are REPEATED
abbrev pub greatest_repetition : List Step → ℕ
greatest_repetition [] = 0
greatest_repetition (s ∷ steps) = repetitions s.repetition + greatest_repetition steps

-- a leaf: the names on the path to it, the steps of the path, what its values are, and its greatest levels
pub record Leaf : Type 0 where
  pub path : List (List ℕ)
  pub steps : List Step
  pub leaf_type : LeafType
  pub greatest_repetition : ℕ
  pub greatest_definition : ℕ

-- a leaf by the path to it
abbrev pub leaf_at : List (List ℕ) → List Step → LeafType → Leaf
leaf_at path steps t = record { path = path; steps = steps; leaf_type = t; greatest_repetition = greatest_repetition steps; greatest_definition = greatest_definition steps }

-- a leaf at or below the field f, which is at the place i, seen from the group of that field
abbrev pub below : ℕ → Field → Leaf → Leaf
below i f l = leaf_at (name_of f ∷ l.path) (record { place = i; repetition = repetition_of f } ∷ l.steps) l.leaf_type

-- the leaves at and below a field, and below some fields, the first of which has this place
abbrev mutual
  pub leaves : Field → List Leaf
  leaves (leaf n r t) = leaf_at [] [] t ∷ []
  leaves (fields n r a fs) = leaves_from 0 fs

  pub leaves_from : ℕ → Fields → List Leaf
  leaves_from i no_fields = []
  leaves_from i (field f fs) = map (below i f) (leaves f) ++ leaves_from (suc i) fs

-- the leaves of a schema, depth first
abbrev pub leaves_of : Fields → List Leaf
leaves_of fs = leaves_from 0 fs

-- an entry of a column: its levels, and its value; None if a field on the path to the leaf is null or an empty list
pub record Entry : Type 0 where
  pub repetition : ℕ
  pub definition : ℕ
  pub value : Option ValueTree

-- one entry with these levels and this value
abbrev pub entry : ℕ → ℕ → Option ValueTree → List Entry
entry r d v = record { repetition = r; definition = d; value = v } ∷ []

-- what a value gives to a leaf, from a repetition level, a definition level, and the number of REPEATED fields passed
abbrev pub Striping : Type 0
Striping = ValueTree → ℕ → ℕ → ℕ → List Entry

-- the entries of a list's items after the first: each item begins with the list's own repetition level
abbrev pub later_items : Striping → ValueTrees → ℕ → ℕ → List Entry
later_items s no_values d k = []
later_items s (item v vs) d k = s v k d k ++ later_items s vs d k

-- the entries of a list: an empty one gives one entry, without a value
abbrev pub list_items : Striping → ValueTrees → ℕ → ℕ → ℕ → List Entry
list_items s no_values r d k = entry r d None
list_items s (item v vs) r d k = s v r (suc d) (suc k) ++ later_items s vs (suc d) (suc k)

-- the entries of a field's value by the field's repetition: a null gives one entry, without a value
abbrev pub stripe_as : Repetition → Striping → Striping
stripe_as Required s v r d k = s v r d k
stripe_as Optional s null r d k = entry r d None
stripe_as Optional s v r d k = s v r (suc d) k
stripe_as Repeated s (list vs) r d k = list_items s vs r d k
stripe_as Repeated s _ r d k = []

-- down the path to the leaf, which gives its value
abbrev pub stripe : List Step → Striping
stripe [] v r d k = entry r d (Some v)
stripe (s ∷ steps) v r d k = stripe_as s.repetition (stripe steps) (member s.place v) r d k

-- the column of a leaf: the stripes of all rows, each begun with levels 0
abbrev pub column : List ValueTrees → List Step → List Entry
column rows steps = flat_map (λ row. stripe steps (group row) 0 0 0) rows

-- the columns of all leaves
abbrev pub columns : Fields → List ValueTrees → List (List Entry)
columns fs rows = map (λ l. column rows l.steps) (leaves_of fs)
