use Rattle.std.proofs.Common.{◌≡◌, ◌+◌, drop}
use Rattle.delta.specs.ByteDeltas.{shared_size}
use Rattle.delta.proofs.put_prefixes.shared_length.Given as goal

abbrev pub invariant-loop-i : goal.invariant-loop-i
invariant-loop-i l = shared_size l.before l.value ≡ l.i + shared_size (drop l.i l.before) (drop l.i l.value)
