use Rattle.std.proofs.Common.{OnOk, sym, subst}
use Rattle.manifest.specs.Groups.{root_of}
use Rattle.dataset_words.specs.declared.call.Look.{Look}
use Rattle.commands.specs.Looking.{Finds}
use Rattle.commands.proofs.making.Making.look_at_table.Goals as goal

pub returns-in-Files-clause-finds : goal.returns-in-Files-clause-finds
returns-in-Files-clause-finds g c = λ honest.
    let contents = g.W.Write.contents in
    subst (λ (k : Look). OnOk c.look_at_files.result (Finds c.args.self.now.call.now.texts k c.args.bytes.now (g.D.Disk.state c.args.vault.now.disk).seen (root_of c.args.table.now)
    (contents c.args.out.now) (contents c.look_at_files.new.out))) (sym c.in-Files.is) (c.look_at_files.ensures.held honest)
