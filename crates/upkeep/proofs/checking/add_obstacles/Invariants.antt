use Rattle.std.proofs.Common.{◌≡◌, []}
use Rattle.upkeep.proofs.checking.add_obstacles.Given as goal

abbrev pub invariant-loop-path : goal.invariant-loop-path
invariant-loop-path l = l.findings.items ≡ [] → l.fn.findings.items ≡ []
