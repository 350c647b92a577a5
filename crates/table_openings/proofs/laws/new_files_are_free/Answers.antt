use Rattle.table_commits.proofs.FreePaths.{new_files_are_free}
use Rattle.table_openings.proofs.laws.new_files_are_free.Goals as goal

pub returns : goal.returns
returns g c = new_files_are_free g.D.Disk.state
