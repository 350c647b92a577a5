use Rattle.std.proofs.Common.{◌≡◌, ◌++◌, length}
use Rattle.rowtext.specs.inner.Escapes.{unescape}
use Rattle.rowtext.proofs.escapes.unescape.Given as goal

abbrev pub invariant-rest : goal.invariant-rest
invariant-rest l = l.buffer.items ++ unescape l.rest ≡ unescape l.content

abbrev pub decreases-rest : goal.decreases-rest
decreases-rest l = length l.rest
