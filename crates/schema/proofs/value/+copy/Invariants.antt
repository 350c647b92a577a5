use Rattle.std.proofs.Common.{◌≡◌, map, take}
use Rattle.schema.specs.Values.{view}
use Rattle.schema.proofs.value.+copy.Given as goal

abbrev pub invariant-copies-loop-value : goal.invariant-copies-loop-value
invariant-copies-loop-value l = map view l.copies.items ≡ map view (take l.value-index l.values)
