use Rattle.std.proofs.Common.{ℕ}
use Rattle.std.specs.Prelude.{Result}
use Rattle.bits.specs.declared.refusal.Refusal.{Refusal}
use Rattle.vault.proofs.Chained.{refused}
use Rattle.table.specs.Calls.{commit, done}
use Rattle.table.specs.Views.{answered}
use Rattle.table_state.specs.Promises.{ActsFrom}
use Rattle.table_jobs.proofs.RewriteEnds.{stale_poor, stale_done}
use Rattle.table_jobs.proofs.rewritten.end_stale.Goals as goal

pub returns-in_err-step-clause-acts : goal.returns-in_err-step-clause-acts
returns-in_err-step-clause-acts g c honest s r stands is_open at gone =
    let old = c.args.store.now in
    refused (λ (o : Result ℕ Refusal). ActsFrom g.D.Disk.state old (record old { snapshots = c.step.new.self }) (commit c.args.job) (answered {T = ℕ} (λ x. done x) o) s) c.from_residual.result _ c.from_residual.ensures.1
    (stale_poor g.D.Disk.state old s stands is_open c.args.job r at c.in_err-step.field-0.0 c.in_err-step.ensures.which c.step.new.self c.in_err-step.ensures.unchanged)

pub returns-clause-acts : goal.returns-clause-acts
returns-clause-acts g c honest s r stands is_open at gone =
    stale_done g.D.Disk.state c.args.store.now s stands is_open c.args.job r at gone c.step.new.self c.in_ok-step.ensures.done c.end_job.new.jobs c.end_job.ensures c.let_go.new.store (c.let_go.ensures.clears honest) c.let_go.ensures.keeps
