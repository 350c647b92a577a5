use Rattle.std.proofs.Common.{◌≡◌, drop}
use Rattle.std.specs.Prelude.{option_map}
use Rattle.thrift_compact.specs.View.{field_views}
use Rattle.metadata.specs.FieldValues.{known}
use Rattle.metadata.proofs.Found.{over}
use Rattle.metadata.proofs.known.known_as.Given as goal

-- what was found and the fields that are left give what all fields give
abbrev pub invariant-loop-field : goal.invariant-loop-field
invariant-loop-field g l =
    let read = g.T.FromNode.read in
    over (option_map g.T.FromNode.shown l.found) (known read l.id (field_views (drop l.field-index l.fields))) ≡ known read l.id (field_views l.fields)
