use Rattle.std.proofs.Common.{rules}
use Rattle.std.specs.Prelude.{codes}
use Rattle.clap.specs.Simple.{new_app}
use Rattle.dataset_words.specs.CommandLine.{IsArg, IsCommand, named}
use Rattle.program.proofs.CommandLines.{changed, with_arg}
use Rattle.program.proofs.command_line.encode_command.Goals as goal

pub returns : goal.returns
returns c =
    let begun : IsCommand (new_app (codes "encode")) c.new.result = record { app_is = search (c.new.ensures.app, rules); local = c.new.ensures.local } in
    let told = changed begun c.with_help.ensures in
    let schema : IsArg (named (codes "SCHEMA")) c.file_named.result = search (c.file_named.ensures, rules) in
    let rows : IsArg (named (codes "ROWS")) c.file_named-2.result = search (c.file_named-2.ensures, rules) in
    let made : IsArg (named (codes "OUT")) c.file_named-3.result = search (c.file_named-3.ensures, rules) in
    let files = with_arg (with_arg (with_arg told schema c.in_ok-arg.ensures) rows c.in_ok-arg-2.ensures) made c.in_ok-arg-3.ensures in
    let taken = with_arg files c.text_flag.ensures c.in_ok-encode.ensures in
    with_arg (changed taken c.in_ok-with_options.ensures) c.quiet_flag.ensures c.in_ok-encode-2.ensures
