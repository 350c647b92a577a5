use Rattle.std.proofs.Common.{rules}
use Rattle.std.specs.Prelude.{codes}
use Rattle.clap.specs.Simple.{new_app}
use Rattle.dataset_words.specs.CommandLine.{IsArg, IsCommand, named}
use Rattle.program.proofs.CommandLines.{changed, with_arg}
use Rattle.program.proofs.command_line.check_command.Goals as goal

pub returns : goal.returns
returns c =
    let begun : IsCommand (new_app (codes "check")) c.new.result = record { app_is = search (c.new.ensures.app, rules); local = c.new.ensures.local } in
    let told = changed begun c.with_help.ensures in
    let schema : IsArg (named (codes "SCHEMA")) c.file_named.result = search (c.file_named.ensures, rules) in
    let taken = with_arg (with_arg (with_arg told schema c.in_ok-arg.ensures) c.rows_named.ensures c.in_ok-arg-2.ensures) c.text_flag.ensures c.in_ok-check.ensures in
    with_arg (changed taken c.in_ok-with_waiting.ensures) c.quiet_flag.ensures c.in_ok-check-2.ensures
