-- What a set of values holds.
use Rattle.schema.specs.Values.{ValueTree, boolean, integer, bytes}
use Rattle.dictionary.specs.declared.key.ValueKey.{ValueKey}
use Rattle.dictionary.specs.declared.key.ValueKey.TheVariants.{Boolean, Number, Bytes}

-- the value that a key in a set of values is
abbrev pub key_view : ValueKey → ValueTree
key_view (Boolean b) = boolean b
key_view (Number z) = integer z
key_view (Bytes s) = bytes s.now
