-- The values of a key, as they are taken from a row.
use Rattle.std.specs.Prelude.{ℕ, pos, List, [], ◌∷◌, map, if◌then◌else◌, nat_eq}
use Rattle.schema.specs.Values.{ValueTree, boolean, integer, bytes}
use Rattle.gather.specs.declared.part.Part.{Part}
use Rattle.gather.specs.declared.part.Part.TheVariants.{Boolean, Number, Text}

-- the value that a part of a key stands for
abbrev pub part_view : Part → ValueTree
part_view (Boolean b) = boolean b
part_view (Number z) = integer z
part_view (Text t) = bytes t.items

-- the key that its parts stand for, one value for each part
abbrev pub parts_view : List Part → List ValueTree
parts_view parts = map part_view parts

-- a value as a key has it; 0 in place of a value that no key has
abbrev pub kept_value : ValueTree → ValueTree
kept_value (boolean b) = boolean b
kept_value (integer z) = integer z
kept_value (bytes s) = bytes s
kept_value _ = integer (pos 0)

-- a value of a row put into the key, where the key has a column at its place
abbrev pub put_at : List ℕ → ℕ → ValueTree → List ValueTree → List ValueTree
put_at [] place v key = key
put_at (at ∷ places) place v [] = []
put_at (at ∷ places) place v (k ∷ key) = if nat_eq at place then v ∷ key else k ∷ put_at places place v key
