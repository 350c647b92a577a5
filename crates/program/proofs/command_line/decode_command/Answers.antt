use Rattle.std.proofs.Common.{rules}
use Rattle.std.specs.Prelude.{codes}
use Rattle.clap.specs.Simple.{new_app}
use Rattle.dataset_words.specs.CommandLine.{IsArg, IsCommand, named}
use Rattle.program.proofs.CommandLines.{changed, with_arg}
use Rattle.program.proofs.command_line.decode_command.Goals as goal

pub returns : goal.returns
returns c =
    let begun : IsCommand (new_app (codes "decode")) c.new.result = record { app_is = search (c.new.ensures.app, rules); local = c.new.ensures.local } in
    let told = changed begun c.with_help.ensures in
    let file : IsArg (named (codes "FILE")) c.file_named.result = search (c.file_named.ensures, rules) in
    let limited = with_arg (with_arg told file c.in_ok-arg.ensures) c.limit_option.ensures c.in_ok-arg-2.ensures in
    let copied = with_arg (with_arg limited c.in_ok-columns_option.ensures c.in_ok-arg-3.ensures) c.out_option.ensures c.in_ok-arg-4.ensures in
    let taken = with_arg copied c.in_ok-printed_text_flag.ensures c.in_ok-decode.ensures in
    with_arg (changed taken c.in_ok-with_options.ensures) c.quiet_flag.ensures c.in_ok-decode-2.ensures
