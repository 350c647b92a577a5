use Rattle.std.proofs.Common.{rules, ◌≡◌, []}
use Rattle.std.proofs.lemmas.Result.{IfOk-weaker}
use Rattle.shred.specs.Kept.{others_view}
use Rattle.shred.specs.Waiting.{plain_view, waiting}
use Rattle.shred.proofs.Slotted.{appends_plain}
use Rattle.shred.proofs.kept_column.KeptColumn.copy_plain.Goals as goal

pub returns-clause-taken : goal.returns-clause-taken
returns-clause-taken c =
    let none : others_view c.args.self.now ≡ [] = search rules in
    IfOk-weaker c.take_waiting.result _ _ (λ put is. appends_plain put (waiting c.args.self.now.plain) (waiting c.take_waiting.new.plain) (plain_view c.args.plain.now) (others_view c.args.self.now) none is) c.take_waiting.ensures.put
