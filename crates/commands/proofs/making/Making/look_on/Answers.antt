use Rattle.std.proofs.Common.{sym, subst}
use Rattle.commands.specs.Looking.{LooksOnly}
use Rattle.commands.proofs.making.Making.look_on.Goals as goal

pub returns-clause-looks : goal.returns-clause-looks
returns-clause-looks g c =
    let state = g.D.Disk.state in
    let contents = g.W.Write.contents in
    let looked = c.look_at_root-looked in
    let looks = LooksOnly state c.args.self.now.call.now.texts c.args.look.now c.args.bytes.now (contents c.args.out.now) (contents looked.new.out) in
    let begun = subst (λ (d : g.row.D.Denot). looks d looked.new.vault.disk looked.result) c.start-vault.ensures looked.ensures.looks in
    subst (λ (d : g.row.D.Denot). looks c.args.disk d looked.result) (sym c.into_disk.ensures) begun
