-- What a row's builder holds of what it was shown.
use Rattle.std.specs.Prelude.{◌≡◌, ℕ, ◌≤◌, List, [], ◌∷◌, drop, length, reverse, Option, Some, None, take}
use Rattle.schema.specs.declared.value.Value.{Value}
use Rattle.schema.specs.Values.{ValueTree, ValueTrees, no_values, value as item, group, list, views}
use Rattle.assemble.specs.declared.row_builder.RowBuilder.{RowBuilder}
use Rattle.assemble.specs.Sinks.{Token, single, group_begins, group_ends, list_begins, list_ends}

-- values with one more at the end
abbrev pub snoc : ValueTrees → ValueTree → ValueTrees
snoc no_values v = item v no_values
snoc (item u vs) v = item u (snoc vs v)

-- the values of the innermost group or list, and of those around it, innermost first
pub record Frames : Type 0 where
  pub here : ValueTrees
  pub outer : List ValueTrees

-- nothing was shown yet
abbrev pub no_frames : Frames
no_frames = record { here = no_values; outer = [] }

-- one more value in the innermost group or list, or in the row
abbrev pub more : Frames → ValueTree → Frames
more f v = record { here = snoc f.here v; outer = f.outer }

-- a group or a list begins, which has no values yet
abbrev pub begun : Frames → Frames
begun f = record { here = no_values; outer = f.here ∷ f.outer }

-- the innermost group or list ends, and is made a value of what is around it; with nothing around it, the values stay
abbrev pub closed : (ValueTrees → ValueTree) → ValueTrees → List ValueTrees → Frames
closed make here [] = record { here = here; outer = [] }
closed make here (o ∷ os) = record { here = snoc o (make here); outer = os }

-- what is held after one more token
abbrev pub step : Frames → Token → Frames
step f (single v) = more f v
step f group_begins = begun f
step f group_ends = closed group f.here f.outer
step f list_begins = begun f
step f list_ends = closed list f.here f.outer

-- what is held after tokens, one after another
abbrev pub run : Frames → List Token → Frames
run f [] = f
run f (t ∷ ts) = run (step f t) ts

-- the values of the innermost group or list are taken off, if one has begun
abbrev pub IsEnded : Frames → Frames → Option ValueTrees → Type 0
IsEnded f g None = (f.outer ≡ []) × (g ≡ f)
IsEnded f g (Some vs) = (vs ≡ f.here) × (f.outer ≡ g.here ∷ g.outer)

-- n values hold those of groups and lists that begin there, innermost first
abbrev pub AreBegun : List ℕ → ℕ → Type 0
AreBegun [] n = Unit {0}
AreBegun (m ∷ ms) n = (m ≤ n) × AreBegun ms m

-- the values of the innermost group or list, or those of the row if none has begun
abbrev pub here_in : ValueTrees → List Value → List ℕ → ValueTrees
here_in row inner [] = row
here_in row inner (m ∷ ms) = views (drop m inner)

-- the values of the groups and lists around the innermost one, and of the row, innermost first
abbrev pub outer_in : ValueTrees → List Value → List ℕ → List ValueTrees
outer_in row inner [] = []
outer_in row inner (m ∷ ms) = here_in row (take m inner) ms ∷ outer_in row (take m inner) ms

-- what is held by the values of the row, those of groups and lists, and where each of these begins, innermost first
abbrev pub frames_in : ValueTrees → List Value → List ℕ → Frames
frames_in row inner ms = record { here = here_in row inner ms; outer = outer_in row inner ms }

-- what a builder holds of what it was shown
abbrev pub frames_of : RowBuilder → Frames
frames_of b = frames_in (views b.values.items) b.inner.items (reverse b.begun.items)

-- the groups and lists of a builder begin one after the other among its values
abbrev pub IsInOrder : RowBuilder → Type 0
IsInOrder b = AreBegun (reverse b.begun.items) (length b.inner.items)

-- what a builder holds changes by f
abbrev pub Turns : (Frames → Frames) → RowBuilder → RowBuilder → Type 0
Turns f old new = IsInOrder old → IsInOrder new × (frames_of new ≡ f (frames_of old))

-- what a builder holds gains this value
abbrev pub Gains : ValueTree → RowBuilder → RowBuilder → Type 0
Gains v = Turns (λ f. more f v)

-- the values of a builder's innermost group or list are taken off, if one has begun
abbrev pub TakesOff : RowBuilder → RowBuilder → Option ValueTrees → Type 0
TakesOff old new ended = IsInOrder old → IsInOrder new × IsEnded (frames_of old) (frames_of new) ended

-- what a builder holds is what these tokens show
abbrev pub builder_shows : RowBuilder → List Token → Type 0
builder_shows b ts = IsInOrder b × (frames_of b ≡ run no_frames ts)
