use Rattle.std.proofs.Common.{ℕ, List, Option, refl, sym, subst}
use Rattle.std.specs.Borrow.{Bor}
use Rattle.table.specs.Calls.{import}
use Rattle.answers.specs.Making.{made}
use Rattle.answers.specs.Unless.{AsksImport}
use Rattle.answers.specs.Making.{lent_text}
use Rattle.commands.specs.Tasks.{MakesAsked}
use Rattle.commands.proofs.tasks.import_one.Goals as goal

pub returns-in-None : goal.returns-in-None
returns-in-None g c = record {
  imports = subst (λ (unless : Option (Bor (List ℕ))). MakesAsked g.D.Disk.state c.args.texts c.args.store.now c.import.new.self (lent_text unless) (AsksImport c.args.bytes.now) (λ fs e. ⊥) c.import.result) (sym c.in-None.is)
      (λ honest s stands. made (import c.args.bytes.now) refl (c.import.ensures.acts honest s stands));
}
