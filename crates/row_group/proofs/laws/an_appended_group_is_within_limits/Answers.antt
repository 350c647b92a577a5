use Rattle.row_group.proofs.ShortChunks.{group_within}
use Rattle.row_group.proofs.laws.an_appended_group_is_within_limits.Goals as goal

pub returns : goal.returns
returns c = group_within
