use Rattle.std.proofs.Common.{arith}
use Rattle.rowtext.proofs.LaneTests.{plain_counted}
use Rattle.rowtext.proofs.plain_front.plain_of_8.Goals as goal

pub returns : goal.returns
returns c =
    let run = plain_counted c.args.bytes.now c.args.at 8 c.first_set.result c.requires (omega arith) c.type_inv.bytes c.first_set.ensures in
    record { within = run.0; plain = run.1 }
