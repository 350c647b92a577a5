use Rattle.thrift_compact.proofs.Appending.{pushed}
use Rattle.thrift_compact.proofs.WrittenPieces.{struct_ended}
use Rattle.thrift_compact.proofs.piecewise.put_end.Goals as goal

pub returns-clause-stands : goal.returns-clause-stands
returns-clause-stands c = λ fs old. struct_ended fs old c.args.out.now.items c.push.new.self.items (pushed c.args.out.now.items c.push.new.self.items 0 c.in_ok-push.ensures.items)
