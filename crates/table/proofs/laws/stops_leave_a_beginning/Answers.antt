use Rattle.table.proofs.Beginnings.{numbered_histories, numbered_beginnings, numbered_parts}
use Rattle.table.proofs.CommitsOf.{runs_are_of_commits}
use Rattle.table.proofs.laws.stops_leave_a_beginning.Goals as goal

pub returns-clause-history : goal.returns-clause-history
returns-clause-history c = numbered_histories

pub returns-clause-beginning : goal.returns-clause-beginning
returns-clause-beginning c = numbered_beginnings

pub returns-clause-parts : goal.returns-clause-parts
returns-clause-parts c = numbered_parts

pub returns-clause-commits : goal.returns-clause-commits
returns-clause-commits c = runs_are_of_commits
