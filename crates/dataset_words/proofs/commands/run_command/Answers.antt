use Rattle.std.proofs.Common.{rules}
use Rattle.std.specs.Prelude.{codes}
use Rattle.dataset_words.specs.CommandLine.{IsArg, IsCommand, named, on_dataset}
use Rattle.dataset_words.proofs.Adding.{changed, with_arg}
use Rattle.dataset_words.proofs.commands.run_command.Goals as goal

pub returns : goal.returns
returns c =
    let begun : IsCommand (on_dataset (codes "run")) c.in_ok-on_dataset.field-0 = search rules in
    let script : IsArg (named (codes "SCRIPT")) c.named.result = search rules in
    let told = changed begun c.with_help.ensures in
    let taken = with_arg (with_arg (with_arg told script c.in_ok-arg.ensures) c.stop_flag.ensures c.in_ok-arg-2.ensures) c.text_flag.ensures c.in_ok-run.ensures in
    changed taken c.in_ok-run-2.ensures
