use Rattle.answers.proofs.PartsGiven.{ends_with}
use Rattle.answers.proofs.part_writer.PartWriter.finish.Goals as goal

pub returns : goal.returns
returns c = record { ends = ends_with c.args.self c.finish.result c.finish.ensures.means c.finish.ensures.laid_out c.finish.ensures.in_range }
