-- What a sink is shown of rows: each null and each value of a leaf, and where groups and lists begin and end.
use Rattle.std.specs.Prelude.{List, [], ◌∷◌, ◌++◌}
use Rattle.schema.specs.Values.{ValueTree, group, list, ValueTrees, no_values, value as item}

-- what a sink is shown at once: a null or a value of a leaf, or where a group or a list begins or ends
pub data Token : Type 0 where
  single : ValueTree → Token
  group_begins : Token
  group_ends : Token
  list_begins : Token
  list_ends : Token

-- a value, in order; some values, one after another
abbrev mutual
  pub tokens : ValueTree → List Token
  tokens (group vs) = group_begins ∷ (tokens_each vs ++ group_ends ∷ [])
  tokens (list vs) = list_begins ∷ (tokens_each vs ++ list_ends ∷ [])
  tokens v = single v ∷ []

  pub tokens_each : ValueTrees → List Token
  tokens_each no_values = []
  tokens_each (item v vs) = tokens v ++ tokens_each vs

-- what was shown before and then these tokens are shown now
abbrev pub Adds : (List Token → Type 0) → (List Token → Type 0) → List Token → Type 0
Adds old new ts = (before : List Token) → old before → new (before ++ ts)

-- some value of which P holds is shown
abbrev pub Visits : {V : Type 0} → (List Token → Type 0) → (List Token → Type 0) → (V → List Token) → (V → Type 0) → Type 0
Visits {V} old new spelled P = (v : V) × (P v × Adds old new (spelled v))
