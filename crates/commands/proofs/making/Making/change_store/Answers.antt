use Rattle.std.proofs.Common.{sym, subst}
use Rattle.commands.specs.inner.Brought.{ChangesWith}
use Rattle.commands.specs.declared.opening.Brought.{Brought}
use Rattle.commands.proofs.making.Making.change_store.Goals as goal

pub returns-in-Files : goal.returns-in-Files
returns-in-Files g c =
    let contents = g.W.Write.contents in
    record {
      comes = subst (λ (b : Brought). ChangesWith g.D.Disk.state c.args.self.now.call.now b (contents c.args.out.now) (contents c.change_by_files.new.out) c.args.store.now
          c.change_by_files.new.store c.change_by_files.result) (sym c.in-Files.is) c.change_by_files.ensures.comes;
    }

pub returns-in-Rows : goal.returns-in-Rows
returns-in-Rows g c =
    let contents = g.W.Write.contents in
    record {
      comes = subst (λ (b : Brought). ChangesWith g.D.Disk.state c.args.self.now.call.now b (contents c.args.out.now) (contents c.append_to.new.out) c.args.store.now
          c.append_to.new.store c.append_to.result) (sym c.in-Rows.is) c.append_to.ensures.comes;
    }
