use Rattle.std.proofs.Common.{◌≡◌, ◌+◌, length, drop}
use Rattle.partition.specs.Folders.{escaped}
use Rattle.partition.proofs.checks.room_after.Given as goal

abbrev pub invariant-loop-byte : goal.invariant-loop-byte
invariant-loop-byte l = l.left + length (escaped l.text) ≡ l.room + length (escaped (drop l.byte-index l.text))
