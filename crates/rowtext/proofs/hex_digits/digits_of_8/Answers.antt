use Rattle.std.proofs.Common.{arith}
use Rattle.rowtext.proofs.LaneTests.{digits_counted}
use Rattle.rowtext.proofs.hex_digits.digits_of_8.Goals as goal

pub returns : goal.returns
returns c =
    let run = digits_counted c.args.bytes.now c.args.at 8 c.first_set.result c.requires (omega arith) c.type_inv.bytes c.first_set.ensures in
    record { within = run.0; digits = run.1 }
