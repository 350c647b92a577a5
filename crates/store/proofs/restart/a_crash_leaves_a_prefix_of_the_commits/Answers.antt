use Rattle.store.proofs.PrefixLaws.{runs_leave_the_prefix, runs_happen}
use Rattle.store.proofs.restart.a_crash_leaves_a_prefix_of_the_commits.Goals as goal

pub returns-clause-prefix : goal.returns-clause-prefix
returns-clause-prefix g c = runs_leave_the_prefix g.D.Disk.state

pub returns-clause-history : goal.returns-clause-history
returns-clause-history g c = runs_happen g.D.Disk.state
