use Rattle.std.proofs.Common.{◌≡◌, length}
use Rattle.gather.proofs.part.new_parts.Given as goal

-- a part for each column so far
abbrev pub invariant-loop-column : goal.invariant-loop-column
invariant-loop-column l = length l.parts.items ≡ l.column-index
