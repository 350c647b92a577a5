use Rattle.std.proofs.Common.{rules}
use Rattle.std.specs.Prelude.{codes}
use Rattle.dataset_words.specs.CommandLine.{IsArg, IsCommand, on_dataset, words_named}
use Rattle.dataset_words.proofs.Adding.{changed, with_arg}
use Rattle.dataset_words.proofs.commands.query_command.Goals as goal

pub returns : goal.returns
returns c =
    let begun : IsCommand (on_dataset (codes "query")) c.in_ok-on_dataset.field-0 = search (c.in_ok-on_dataset.ensures, rules) in
    let columns : IsArg (words_named 0 (codes "COLUMN")) c.words_named.result = search (c.words_named.ensures, rules) in
    let told = changed begun c.with_help.ensures in
    let limited = with_arg (with_arg told c.filter_option.ensures c.in_ok-arg.ensures) c.limit_option.ensures c.in_ok-arg-2.ensures in
    let taken = with_arg (with_arg (with_arg limited c.out_option.ensures c.in_ok-arg-3.ensures) c.text_flag.ensures c.in_ok-arg-4.ensures) columns c.in_ok-query.ensures in
    with_arg (changed taken c.in_ok-with_options.ensures) c.quiet_flag.ensures c.in_ok-query-2.ensures
