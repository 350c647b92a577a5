-- Schemas whose fields are all REQUIRED leaves: each row has one entry in each column.
use Rattle.std.specs.Prelude.{◌≡◌, ℕ, ◌<◌, Bool, true, false, ◌&&◌, List, [], ◌∷◌, length}
use Rattle.std.specs.List.{AllByRecursion}
use Rattle.schema.specs.declared.value.Repetition.TheVariants.{Required}
use Rattle.schema.specs.Values.{ValueTrees}
use Rattle.schema.specs.Shape.{Field, leaf, Fields, no_fields, field}
use Rattle.schema.specs.Stripe.{Entry, Leaf, leaves_of}
use Rattle.schema.specs.Law.{IsEntryOf}
use Rattle.assemble.specs.Columns.{Columns}
use Rattle.assemble.specs.Sinks.{Token, Adds, tokens_each}
use Rattle.assemble.specs.RowsOf.{AreRowsOf, StandForRows}

-- a REQUIRED field that has no fields below it
abbrev pub is_required_leaf : Field → Bool
is_required_leaf (leaf n Required t) = true
is_required_leaf _ = false

-- each of the fields is a REQUIRED leaf
abbrev pub is_flat : Fields → Bool
is_flat no_fields = true
is_flat (field f fs) = is_required_leaf f && is_flat fs

-- a column for each leaf, with n entries, each of which is one of the leaf's
abbrev pub HaveEntries : ℕ → List Leaf → Columns → Type 0
HaveEntries n [] [] = Unit {0}
HaveEntries n (l ∷ ls) (es ∷ cs) = (length es ≡ n) × AllByRecursion (IsEntryOf l) es × HaveEntries n ls cs
HaveEntries n _ _ = ⊥

-- columns of a flat schema with n entries for each leaf, each one of the leaf's, are those of n rows that fit
abbrev pub FlatColumnsHaveRows : Type 0
FlatColumnsHaveRows = (fs : Fields) (n : ℕ) (cs : Columns) → is_flat fs ≡ true → HaveEntries n (leaves_of fs) cs → (rows : List ValueTrees) × ((length rows ≡ n) × AreRowsOf fs cs rows)

-- P holds of each rows of a flat schema, one at least, for which the sources stand
abbrev pub OfFlatRows : {A : Type 0} → (A → List Entry → Type 0) → List A → (Fields → List ValueTrees → Type 0) → Type 0
OfFlatRows S xs P = (fs : Fields) (rows : List ValueTrees) → is_flat fs ≡ true → StandForRows S xs fs rows → 0 < length rows → P fs rows

-- the first of these rows was shown, and T holds of the others
pub record ShowsFirst (T : List ValueTrees → Type 0) (from to : List Token → Type 0) (rows : List ValueTrees) : Type 0 where
  pub first : ValueTrees
  pub rest : List ValueTrees
  pub split : rows ≡ first ∷ rest
  pub stands : T rest
  pub shown : Adds from to (tokens_each first)
