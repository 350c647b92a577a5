use Rattle.table_commits.proofs.CommitsFromParts.{commits_act, refusals_act, appends_ask}
use Rattle.table_openings.proofs.laws.parts_make_calls.Goals as goal

pub returns-clause-commits : goal.returns-clause-commits
returns-clause-commits g c = commits_act g.D.Disk.state

pub returns-clause-refusals : goal.returns-clause-refusals
returns-clause-refusals g c = refusals_act g.D.Disk.state

pub returns-clause-appends : goal.returns-clause-appends
returns-clause-appends g c = appends_ask
