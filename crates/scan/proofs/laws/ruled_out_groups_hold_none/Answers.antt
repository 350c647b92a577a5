use Rattle.scan.proofs.Pruned.{ruled_out_groups_hold_none}
use Rattle.scan.proofs.laws.ruled_out_groups_hold_none.Goals as goal

pub returns : goal.returns
returns c = ruled_out_groups_hold_none c.known_of_parts_holds.ensures c.completed_is_the_same.ensures c.ruled_out_holds_no_row.ensures
