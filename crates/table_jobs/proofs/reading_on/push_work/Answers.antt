use Rattle.std.proofs.Common.{[], ◌∷◌, Result, refl, sym, ◌∙◌, subst}
use Rattle.std.proofs.lemmas.List.{append-nil}
use Rattle.bits.specs.declared.refusal.Refusal.{Refusal}
use Rattle.vault.proofs.Chained.{refused}
use Rattle.table_state.specs.declared.jobs.Work.{Work}
use Rattle.table_state.specs.declared.jobs.Work.TheVariants.{Rewrite}
use Rattle.table_state.specs.declared.jobs.Rewriting.{Rewriting}
use Rattle.table_reads.specs.Stepping.{HasRead, kept_rows}
use Rattle.table_jobs.proofs.reading_on.push_work.Goals.{in-Append, in-Rewrite+in_ok-push-in-Rewrite}
use Rattle.table_jobs.proofs.reading_on.push_work.Goals as goal

pub returns-in_err-push-in-Rewrite-clause-pushed : goal.returns-in_err-push-in-Rewrite-clause-pushed
returns-in_err-push-in-Rewrite-clause-pushed c =
    let r : Rewriting = c.in-Rewrite.rewrite in
    let q : Rewriting = record { runs = r.runs; read = c.push.new.self } in
    subst (λ (w : Work). HasRead (kept_rows c.args.rows c.from_residual.result) w (Rewrite q)) (sym c.in-Rewrite.is)
    (refused (λ (x : Result (Unit {0}) Refusal). HasRead (kept_rows c.args.rows x) (Rewrite r) (Rewrite q)) c.from_residual.result _ c.from_residual.ensures.1
    (q, refl, refl, c.in_err-push-in-Rewrite.ensures.items ∙ sym (append-nil r.read.items)))

pub returns-clause-pushed : goal.returns-clause-pushed
returns-clause-pushed c = elim c.match-work.branch [
  | in-Append w ↦ subst (λ (x : Work). HasRead (c.args.rows ∷ []) x c.match-work.work) (sym w.in-Append.is) (w.work-is ∙ w.in-Append.is)
  | in-Rewrite+in_ok-push-in-Rewrite w ↦ subst (λ (x : Work). HasRead (c.args.rows ∷ []) x c.match-work.work) (sym w.in-Rewrite.is)
      (record { runs = w.in-Rewrite.rewrite.runs; read = w.push.new.self }, w.work-is, refl, w.in_ok-push-in-Rewrite.ensures.items)
]
