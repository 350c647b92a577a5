use Rattle.std.proofs.lemmas.Result.{IfOk-weaker}
use Rattle.dataset_words.specs.CommandLine.{bound, numbers}
use Rattle.dataset_words.proofs.Adding.{bound_unless}
use Rattle.dataset_words.proofs.commands.rewritten_numbers.Goals as goal

pub returns : goal.returns
returns c =
    let once = bound_unless c.numbers_named.result c.in_ok-required_unless_present.field-0 numbers _ c.numbers_named.ensures c.in_ok-required_unless_present.ensures in
    IfOk-weaker c.required_unless_present-2.result _ _ (λ arg adds. bound_unless c.in_ok-required_unless_present.field-0 arg (bound numbers) _ once adds) c.required_unless_present-2.ensures
