use Rattle.std.proofs.Common.{ℕ, List, Option, sym, subst}
use Rattle.std.specs.Borrow.{Bor}
use Rattle.answers.specs.Appending.{AppendsRows}
use Rattle.answers.specs.Making.{lent_text}
use Rattle.answers.proofs.RowsAppended.{appended_from}
use Rattle.answers.proofs.appending.append_rows.Goals as goal

pub returns-in-Some : goal.returns-in-Some
returns-in-Some g c = record {
  appends = λ root options given held table.
      subst (λ (unless : Option (Bor (List ℕ))). AppendsRows g.D.Disk.state c.args.texts root options given (lent_text unless) c.args.store.now c.append_unless.new.store c.append_unless.result)
      (sym c.in-Some.is) (c.append_unless.ensures.appends root options given held table);
}

pub returns-in-None : goal.returns-in-None
returns-in-None g c = record {
  appends = λ root options given held table.
      subst (λ (unless : Option (Bor (List ℕ))). AppendsRows g.D.Disk.state c.args.texts root options given (lent_text unless) c.args.store.now c.append_gathered.new.self c.append_gathered.result)
      (sym c.in-None.is)
      (appended_from g.D.Disk.state root options given c.args.store.now c.append_gathered.new.self c.args.rows c.append_gathered.result held table c.append_gathered.ensures.acts c.append_gathered.ensures.other);
}
