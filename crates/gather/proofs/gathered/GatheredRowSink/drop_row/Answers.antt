use Rattle.gather.proofs.Gathering.{same_base, dropped, whole_dropped}
use Rattle.gather.proofs.gathered.GatheredRowSink.drop_row.Goals as goal

pub returns-clause-whole : goal.returns-clause-whole
returns-clause-whole c = whole_dropped c.args.self.now _ (same_base c.args.self.now c.restart.new.self c.restart.ensures.same_parts) c.restart.ensures.begins

pub returns-clause-dropped : goal.returns-clause-dropped
returns-clause-dropped c = λ rows below. dropped c.args.self.now _ rows (same_base c.args.self.now c.restart.new.self c.restart.ensures.same_parts) c.restart.ensures.begins below

pub returns-clause-same_base : goal.returns-clause-same_base
returns-clause-same_base c = same_base c.args.self.now c.restart.new.self c.restart.ensures.same_parts
