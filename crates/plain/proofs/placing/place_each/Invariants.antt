use Rattle.std.proofs.Common.{map, take}
use Rattle.std.specs.List.{flat_map}
use Rattle.plain.specs.Plain.{spelling}
use Rattle.plain.specs.inner.Placed.{Placed}
use Rattle.plain.proofs.placing.place_each.Given as goal

-- the spellings so far are there
abbrev pub invariant-loop-value : goal.invariant-loop-value
invariant-loop-value g l = Placed l.fn.room l.room l.start (flat_map (spelling l.kind) (take l.value-index (map g.V.Lends.lent l.values))) l.at
