use Rattle.std.proofs.Common.{rules}
use Rattle.std.specs.Prelude.{codes}
use Rattle.dataset_words.specs.CommandLine.{IsCommand, on_dataset}
use Rattle.dataset_words.proofs.Adding.{changed, with_arg}
use Rattle.dataset_words.proofs.commands.import_command.Goals as goal

pub returns : goal.returns
returns c =
    let begun : IsCommand (on_dataset (codes "import")) c.in_ok-on_dataset.field-0 = search rules in
    let told = changed begun c.with_help.ensures in
    let taken = with_arg (with_arg (with_arg told c.files_named.ensures c.in_ok-arg.ensures) c.unless_option.ensures c.in_ok-arg-2.ensures) c.text_flag.ensures c.in_ok-import.ensures in
    with_arg (changed taken c.in_ok-with_options.ensures) c.quiet_flag.ensures c.in_ok-import-2.ensures
