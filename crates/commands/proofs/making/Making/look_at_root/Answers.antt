use Rattle.std.proofs.lemmas.Result.{on_ok_weaker}
use Rattle.manifest.specs.Groups.{root_of}
use Rattle.recovery.proofs.Sweeping.{reads_on}
use Rattle.commands.proofs.LooksFound.{found_table}
use Rattle.commands.proofs.making.Making.look_at_root.Goals as goal

pub returns-in-Ok-clause-looks : goal.returns-in-Ok-clause-looks
returns-in-Ok-clause-looks g c =
    let state = g.D.Disk.state in
    let contents = g.W.Write.contents in
    let old = state c.args.vault.now.disk in
    let mid = state c.described.new.vault.disk in
    let call = c.args.self.now.call.now in
    record {
      leaves = λ honest.
          reads_on old mid (state c.look_at_table.new.vault.disk) (c.described.ensures.unchanged honest) (c.look_at_table.ensures.leaves (c.described.ensures.honest.0 honest));
      right = λ honest.
          let stands = c.in-Ok.ensures.stands honest in
          on_ok_weaker c.look_at_table.result
          (found_table old.seen mid.seen (c.described.ensures.unchanged honest).seen (root_of c.in-Ok.table) stands.0 stands.1 stands.2
          call.texts c.args.look.now c.args.bytes.now (contents c.args.out.now) (contents c.look_at_table.new.out))
          (c.look_at_table.ensures.finds (c.described.ensures.honest.0 honest));
    }
