use Rattle.std.specs.Prelude.{codes}
use Rattle.std.proofs.lemmas.Result.{IfOk-weaker}
use Rattle.dataset_words.specs.CommandLine.{flag}
use Rattle.dataset_words.proofs.Adding.{bound_by_conflict}
use Rattle.dataset_words.proofs.commands.all_flag.Goals as goal

pub returns : goal.returns
returns c = IfOk-weaker c.conflicts_with.result _ _ (λ arg adds. bound_by_conflict c.every_flag.result arg (flag (codes "all")) _ c.every_flag.ensures adds) c.conflicts_with.ensures
