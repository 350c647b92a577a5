-- The values that a cursor over split values still gives.
use Rattle.std.specs.Prelude.{◌≡◌, Bool, true, false, List, [], ◌∷◌}
use Rattle.std.specs.Option.{option_map_or}
use Rattle.schema.specs.Values.{ValueTree, null}
use Rattle.plain.specs.ValuesFrom.{value_at, values_from}
use Rattle.plain.specs.declared.split_cursor.SplitValues.{SplitValues}

-- the values that are not taken yet
abbrev pub values_left : SplitValues → List ValueTree
values_left c = values_from c.kind c.left c.at c.text.items

-- the value that was taken last, null before the first one
abbrev pub last_taken : SplitValues → ValueTree
last_taken c = option_map_or (λ index. value_at c.kind index c.text.items) c.taken null

-- one value is taken, or none at the end
abbrev pub Advances : SplitValues → SplitValues → Bool → Type 0
Advances old new true = values_left old ≡ last_taken new ∷ values_left new
Advances old new false = (values_left old ≡ []) × (values_left new ≡ []) × (last_taken new ≡ last_taken old)
