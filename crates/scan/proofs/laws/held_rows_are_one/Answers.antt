use Rattle.scan.proofs.HeldOnce.{one_list_held}
use Rattle.scan.proofs.laws.held_rows_are_one.Goals as goal

pub returns : goal.returns
returns c = one_list_held c.one_meaning.ensures.chunk c.columns_determine_rows.ensures
