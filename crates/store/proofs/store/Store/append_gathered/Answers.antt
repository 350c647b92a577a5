use Rattle.std.proofs.Common.{ℕ, List, subst}
use Rattle.gather.specs.GatheredRows.{holds}
use Rattle.manifest.specs.Groups.{root_of}
use Rattle.table.specs.Calls.{done}
use Rattle.table.specs.Table.{Row}
use Rattle.table.specs.Views.{answered}
use Rattle.table_commits.specs.Cleaning.{LeavesTidyOverRows}
use Rattle.table_commits.specs.Gathering.{AreGatheredFor}
use Rattle.table_state.specs.declared.standing.Core.{Core}
use Rattle.table_state.specs.Promises.{HasCause}
use Rattle.store.proofs.store.Store.append_gathered.Goals as goal

pub returns-clause-cause : goal.returns-clause-cause
returns-clause-cause g c =
    subst (λ (old : Core g.row.D.Denot). (rows : List Row) → holds c.args.gathered rows → AreGatheredFor (root_of old.manifest) old.options c.args.gathered
    → HasCause g.D.Disk.state old c.append_gathered.new.store (answered {T = ℕ} (λ x. done x) c.append_gathered.result)) c.self.view_is c.append_gathered.ensures.cause

pub returns-clause-tidy : goal.returns-clause-tidy
returns-clause-tidy g c =
    subst (λ (old : Core g.row.D.Denot). (rows : List Row) → holds c.args.gathered rows → AreGatheredFor (root_of old.manifest) old.options c.args.gathered
    → LeavesTidyOverRows g.D.Disk.state old c.append_gathered.new.store c.append_gathered.result) c.self.view_is c.append_gathered.ensures.tidy
