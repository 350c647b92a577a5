use Rattle.filter.proofs.Soundness.{ruled_out_holds_no_row}
use Rattle.filter.proofs.laws.ruled_out_holds_no_row.Goals as goal

pub returns : goal.returns
returns c = ruled_out_holds_no_row
