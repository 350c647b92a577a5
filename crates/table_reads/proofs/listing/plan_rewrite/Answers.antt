use Rattle.std.proofs.Common.{ℕ, List, not, refl, ◌∙◌, ap}
use Rattle.std.specs.Prelude.{Vec}
use Rattle.std.specs.declared.alloc.Global.{Global}
use Rattle.vault.proofs.Chained.{refused}
use Rattle.manifest.specs.Groups.{Group as FileGroup}
use Rattle.planning.specs.Told.{summaries}
use Rattle.table.specs.Plans.{plan}
use Rattle.table.specs.Calls.{plan_rewrite, planned}
use Rattle.table.specs.Views.{answered}
use Rattle.table_state.specs.Promises.{ActsFrom}
use Rattle.table_commits.proofs.UnchangedRefusals.{acts_shut}
use Rattle.table_commits.proofs.GroupRemovals.{poor}
use Rattle.table_reads.proofs.ListedGroups.{plans}
use Rattle.table_reads.proofs.listing.plan_rewrite.Goals as goal

pub returns-then-store-clause-acts : goal.returns-then-store-clause-acts
returns-then-store-clause-acts g c = acts_shut g.D.Disk.state c.args.store.now (plan_rewrite c.args.min_rows) refl c.if-store.true

pub returns-in_err-numbers-clause-acts : goal.returns-in_err-numbers-clause-acts
returns-in_err-numbers-clause-acts g c honest s stands =
    refused (λ r. ActsFrom g.D.Disk.state c.args.store.now c.args.store.now (plan_rewrite c.args.min_rows) (answered {T = Vec ℕ Global} (λ ns. planned ns.items) r) s) c.from_residual.result _ c.from_residual.ensures.1
    (poor g.D.Disk.state c.args.store.now (plan_rewrite c.args.min_rows) refl (λ t e. ap not e) (λ t. refl) c.in_err-numbers.field-0.0 c.in_err-numbers.ensures.which c.if-store.false honest s stands)

pub returns-clause-acts : goal.returns-clause-acts
returns-clause-acts g c honest s stands = plans g.D.Disk.state c.args.store.now c.if-store.false s stands c.args.min_rows c.in_ok-numbers.numbers.items
    (c.in_ok-numbers.ensures.planned ∙ ap (λ (gs : List FileGroup). plan c.args.min_rows (summaries gs)) c.groups.ensures.are)
