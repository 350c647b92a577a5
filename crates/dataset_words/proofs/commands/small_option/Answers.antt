use Rattle.std.specs.Prelude.{codes}
use Rattle.std.proofs.lemmas.Result.{IfOk-weaker}
use Rattle.dataset_words.specs.CommandLine.{bound, option, of_u64}
use Rattle.dataset_words.proofs.Adding.{bound_by_conflict}
use Rattle.dataset_words.proofs.commands.small_option.Goals as goal

pub returns : goal.returns
returns c =
    let rule = of_u64 (option (codes "min-rows")) in
    let once = bound_by_conflict c.min_rows_option.result c.in_ok-conflicts_with.field-0 rule _ c.min_rows_option.ensures c.in_ok-conflicts_with.ensures in
    IfOk-weaker c.conflicts_with-2.result _ _ (λ arg adds. bound_by_conflict c.in_ok-conflicts_with.field-0 arg (bound rule) _ once adds) c.conflicts_with-2.ensures
