use Rattle.std.proofs.Common.{◌∙◌}
use Rattle.std.proofs.lemmas.Result.{IfOk-weaker}
use Rattle.table_jobs.proofs.rests.column_of.Goals as goal

pub returns-clause-is : goal.returns-clause-is
returns-clause-is c = IfOk-weaker c.to_column.result _ _ (λ column same held known. same ∙ c.in_ok-entries.ensures.stands held known) c.to_column.ensures.same
