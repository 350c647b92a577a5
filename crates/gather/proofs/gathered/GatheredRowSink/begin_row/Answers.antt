use Rattle.gather.proofs.Gathering.{whole_begins, begins}
use Rattle.gather.proofs.gathered.GatheredRowSink.begin_row.Goals as goal

pub returns-clause-whole : goal.returns-clause-whole
returns-clause-whole c = whole_begins c.args.self.now

pub returns-clause-begins : goal.returns-clause-begins
returns-clause-begins c = begins c.args.self.now
