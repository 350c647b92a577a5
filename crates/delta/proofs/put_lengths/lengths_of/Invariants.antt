use Rattle.std.proofs.Common.{◌≡◌, map, take}
use Rattle.delta.specs.ByteDeltas.{sizes}
use Rattle.delta.specs.inner.Put.{text_of}
use Rattle.delta.proofs.put_lengths.lengths_of.Given as goal

abbrev pub invariant-loop-value : goal.invariant-loop-value
invariant-loop-value g l = l.lengths.items ≡ sizes (map text_of (map g.V.Lends.lent (take l.value-index l.values)))
