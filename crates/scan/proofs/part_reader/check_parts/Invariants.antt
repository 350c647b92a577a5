use Rattle.scan.proofs.SideBySide.{HoldSoFar}
use Rattle.scan.proofs.part_reader.check_parts.Given as goal

abbrev pub invariant-loop-part : goal.invariant-loop-part
invariant-loop-part l = HoldSoFar l.held l.parts l.count l.part-index
