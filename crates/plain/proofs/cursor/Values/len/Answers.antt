use Rattle.std.proofs.Common.{sym}
use Rattle.plain.proofs.Places.{count_from}
use Rattle.plain.proofs.cursor.Values.len.Goals as goal

pub returns : goal.returns
returns c = let s = c.args.self.now in sym (count_from s.kind s.left s.at s.bytes.now)
