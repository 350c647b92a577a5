use Rattle.std.proofs.Common.{rules}
use Rattle.std.specs.Prelude.{codes}
use Rattle.dataset_words.specs.CommandLine.{IsCommand, on_dataset}
use Rattle.dataset_words.proofs.Adding.{changed, with_arg}
use Rattle.dataset_words.proofs.commands.rewrite_command.Goals as goal

pub returns : goal.returns
returns c =
    let begun : IsCommand (on_dataset (codes "rewrite")) c.in_ok-on_dataset.field-0 = search rules in
    let told = changed (changed begun c.with_usage.ensures) c.with_help.ensures in
    let chosen = with_arg (with_arg told c.in_ok-small_option.ensures c.in_ok-arg.ensures) c.in_ok-rewritten_numbers.ensures c.in_ok-arg-2.ensures in
    let taken = with_arg chosen c.in_ok-all_flag.ensures c.in_ok-rewrite.ensures in
    with_arg (changed taken c.in_ok-with_kept_options.ensures) c.quiet_flag.ensures c.in_ok-rewrite-2.ensures
