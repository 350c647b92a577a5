use Rattle.row_group.proofs.Laid.{group_means}
use Rattle.row_group.proofs.laws.an_appended_group_has_its_rows.Goals as goal

pub returns : goal.returns
returns c = group_means
