use Rattle.std.proofs.Common.{rules}
use Rattle.std.specs.Prelude.{codes}
use Rattle.dataset_words.specs.CommandLine.{IsArg, IsCommand, named, on_dataset}
use Rattle.dataset_words.proofs.Adding.{changed, with_arg}
use Rattle.dataset_words.proofs.commands.append_command.Goals as goal

pub returns : goal.returns
returns c =
    let begun : IsCommand (on_dataset (codes "append")) c.in_ok-on_dataset.field-0 = search rules in
    let rows : IsArg (named (codes "ROWS")) c.named.result = search rules in
    let told = changed begun c.with_help.ensures in
    let taken = with_arg (with_arg (with_arg told rows c.in_ok-arg.ensures) c.unless_option.ensures c.in_ok-arg-2.ensures) c.text_flag.ensures c.in_ok-append.ensures in
    with_arg (changed taken c.in_ok-with_options.ensures) c.quiet_flag.ensures c.in_ok-append-2.ensures
