use Rattle.row_group.proofs.WantedRows.{cut_means}
use Rattle.row_group.proofs.laws.cut_groups_have_cut_rows.Goals as goal

pub returns : goal.returns
returns c = cut_means c.cut_rows_are_of_wanted_leaves.ensures.fit c.cut_rows_are_of_wanted_leaves.ensures.columns
