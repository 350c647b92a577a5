use Rattle.std.proofs.Common.{List, map, not, refl, ◌∙◌, ap}
use Rattle.std.specs.Prelude.{Vec}
use Rattle.std.specs.declared.alloc.Global.{Global}
use Rattle.vault.proofs.Chained.{refused}
use Rattle.manifest.specs.Groups.{Group as FileGroup}
use Rattle.table.specs.declared.answer.GroupInfo.{GroupInfo}
use Rattle.table.specs.Calls.{groups, listed}
use Rattle.table.specs.Views.{answered, info_view}
use Rattle.table_reads.specs.Listing.{told_of}
use Rattle.table_state.specs.Promises.{ActsFrom}
use Rattle.table_commits.proofs.UnchangedRefusals.{acts_shut}
use Rattle.table_commits.proofs.GroupRemovals.{poor}
use Rattle.table_reads.proofs.ListedGroups.{lists}
use Rattle.table_reads.proofs.listing.groups.Goals as goal

pub returns-then-store-clause-acts : goal.returns-then-store-clause-acts
returns-then-store-clause-acts g c = acts_shut g.D.Disk.state c.args.store.now groups refl c.if-store.true

pub returns-in_err-infos-clause-acts : goal.returns-in_err-infos-clause-acts
returns-in_err-infos-clause-acts g c honest s stands =
    refused (λ r. ActsFrom g.D.Disk.state c.args.store.now c.args.store.now groups (answered {T = Vec GroupInfo Global} (λ gs. listed (map info_view gs.items)) r) s) c.from_residual.result _ c.from_residual.ensures.1
    (poor g.D.Disk.state c.args.store.now groups refl (λ t e. ap not e) (λ t. refl) c.in_err-infos.field-0.0 c.in_err-infos.ensures.which c.if-store.false honest s stands)

pub returns-clause-acts : goal.returns-clause-acts
returns-clause-acts g c honest s stands = lists g.D.Disk.state c.args.store.now c.if-store.false s stands c.in_ok-infos.infos.items
    (c.in_ok-infos.ensures.told ∙ ap (λ (gs : List FileGroup). map told_of gs) c.groups.ensures.are)
