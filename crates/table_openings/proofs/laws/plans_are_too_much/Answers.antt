use Rattle.table_commits.proofs.PlannedWeights.{plans_are_too_much}
use Rattle.table_openings.proofs.laws.plans_are_too_much.Goals as goal

pub returns : goal.returns
returns g c = plans_are_too_much g.D.Disk.state
