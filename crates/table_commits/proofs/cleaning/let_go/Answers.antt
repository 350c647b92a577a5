use Rattle.table_commits.proofs.AfterCleanings.{nothing_cleared}
use Rattle.table_commits.proofs.cleaning.let_go.Goals as goal

pub returns-else-not-store-clause-clears : goal.returns-else-not-store-clause-clears
returns-else-not-store-clause-clears g c honest s shows is_open = nothing_cleared g.D.Disk.state c.args.store.now s shows is_open
