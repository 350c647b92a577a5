use Rattle.std.proofs.Common.{rules, ◌≡◌, [], arith}
use Rattle.std.proofs.lemmas.Result.{IfOk-weaker}
use Rattle.shred.specs.Kept.{others_view}
use Rattle.shred.specs.Waiting.{waiting}
use Rattle.shred.proofs.Slotted.{appends_flat}
use Rattle.shred.proofs.kept_column.KeptColumn.put_plain.Goals as goal

pub returns-clause-put : goal.returns-clause-put
returns-clause-put g c =
    let none : others_view c.args.self.now ≡ [] = search rules in
    let flat : c.args.repetition ≡ 0 = omega (arith, c.if-repetition-gt0.false) in
    let there : c.args.definition ≡ 0 = omega (arith, c.if-definition-gt0.false) in
    IfOk-weaker c.put_waiting.result _ _ (λ put is. appends_flat put (waiting c.args.self.now.plain) (waiting c.put_waiting.new.plain) c.args.repetition c.args.definition (g.V.Single.meant c.args.value) (others_view c.args.self.now) flat there none is) c.put_waiting.ensures.put
