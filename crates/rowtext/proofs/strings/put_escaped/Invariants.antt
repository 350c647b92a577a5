use Rattle.std.proofs.Common.{◌≡◌, ◌++◌, length}
use Rattle.json.specs.Print.{escape}
use Rattle.rowtext.proofs.strings.put_escaped.Given as goal

abbrev pub invariant-rest : goal.invariant-rest
invariant-rest l = l.out.items ++ escape l.rest ≡ l.fn.out.items ++ escape l.bytes

abbrev pub decreases-rest : goal.decreases-rest
decreases-rest l = length l.rest
