use Rattle.std.specs.Prelude.{codes}
use Rattle.std.proofs.lemmas.Result.{IfOk-weaker}
use Rattle.dataset_words.specs.CommandLine.{bound, option}
use Rattle.dataset_words.proofs.Adding.{bound_by_conflict, bound_unless}
use Rattle.dataset_words.proofs.commands.removal_filter.Goals as goal

pub returns : goal.returns
returns c =
    let rule = option (codes "filter") in
    let once = bound_by_conflict c.filter_option.result c.in_ok-conflicts_with.field-0 rule _ c.filter_option.ensures c.in_ok-conflicts_with.ensures in
    IfOk-weaker c.required_unless_present.result _ _ (λ arg adds. bound_unless c.in_ok-conflicts_with.field-0 arg (bound rule) _ once adds) c.required_unless_present.ensures
