use Rattle.std.proofs.Common.{arith}
use Rattle.schema.proofs.AsciiLanes.{ascii_from_lanes}
use Rattle.schema.proofs.ascii_text.are_16_ascii.Goals as goal

pub returns : goal.returns
returns c = ascii_from_lanes c.args.bytes.now c.args.at 16 c.requires (omega arith)
