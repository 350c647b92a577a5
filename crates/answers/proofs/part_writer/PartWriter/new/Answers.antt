use Rattle.answers.proofs.PartsGiven.{begins}
use Rattle.answers.proofs.part_writer.PartWriter.new.Goals as goal

pub returns-clause-begins : goal.returns-clause-begins
returns-clause-begins c = λ from. begins from _ c.in_ok-writer.ensures.begins c.in_ok-writer.ensures.of.0 c.in_ok-writer.ensures.of.1
