use Rattle.std.proofs.Common.{List, [], subst}
use Rattle.std.specs.Prelude.{IfOk}
use Rattle.filter.specs.Terms.{terms_view}
use Rattle.filter.specs.Test.{Test}
use Rattle.manifest.specs.Groups.{root_of}
use Rattle.table_state.specs.declared.standing.Core.{Core}
use Rattle.table_reads.specs.Counting.{AreAsked, AreSpared}
use Rattle.store.proofs.store.Store.count.Goals as goal

pub returns-clause-absent : goal.returns-clause-absent
returns-clause-absent g c =
    subst (λ (old : Core g.row.D.Denot). (g.D.Disk.state old.vault.disk).honest → (tests : List (List Test)) → AreAsked (root_of old.manifest) (terms_view c.args.terms.now) tests
    → IfOk c.count.result (λ _. AreSpared (g.D.Disk.state old.vault.disk) tests (root_of old.manifest) [] (root_of old.manifest).groups)) c.self.view_is c.count.ensures.absent
