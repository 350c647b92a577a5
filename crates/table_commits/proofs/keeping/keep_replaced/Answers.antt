use Rattle.table_commits.proofs.FreePaths.{stands_keeping}
use Rattle.table_commits.proofs.keeping.keep_replaced.Goals as goal

pub returns-clause-stands : goal.returns-clause-stands
returns-clause-stands g c s stands = stands_keeping g.D.Disk.state c.args.store.now s stands
