use Rattle.std.specs.Prelude.{codes}
use Rattle.std.proofs.lemmas.Result.{IfOk-weaker}
use Rattle.dataset_words.specs.CommandLine.{option, of_u64}
use Rattle.dataset_words.proofs.Adding.{bound_by_conflict}
use Rattle.dataset_words.proofs.commands.wait_option.Goals as goal

pub returns : goal.returns
returns c =
    IfOk-weaker c.conflicts_with.result _ _ (λ arg adds. bound_by_conflict c.seconds_option.result arg (of_u64 (option (codes "wait"))) _ c.seconds_option.ensures adds) c.conflicts_with.ensures
