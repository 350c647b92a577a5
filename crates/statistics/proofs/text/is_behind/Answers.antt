use Rattle.statistics.proofs.Fronts.{fronts_decide}
use Rattle.statistics.proofs.text.is_behind.Goals as goal

pub returns-then-text-other : goal.returns-then-text-other
returns-then-text-other c = (fronts_decide c.args.text.bytes.now c.args.other.bytes.now c.args.text.front c.args.other.front c.args.text.of_bytes c.args.other.of_bytes c.if-text-other.true).1
