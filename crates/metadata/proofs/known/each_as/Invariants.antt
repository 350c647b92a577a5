use Rattle.std.proofs.Common.{◌≡◌, drop}
use Rattle.std.specs.Prelude.{map}
use Rattle.thrift_compact.specs.View.{views}
use Rattle.metadata.specs.FieldValues.{each_of}
use Rattle.metadata.proofs.Found.{before}
use Rattle.metadata.proofs.known.each_as.Given as goal

-- what was read and the values that are left give what all values give
abbrev pub invariant-loop-value : goal.invariant-loop-value
invariant-loop-value g l =
    let read = g.T.FromNode.read in
    before (map g.T.FromNode.shown l.items.items) (each_of read (views (drop l.value-index l.values))) ≡ each_of read (views l.values)
