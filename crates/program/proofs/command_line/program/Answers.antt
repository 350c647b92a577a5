use Rattle.program.proofs.CommandLines.{changed, with_sub}
use Rattle.program.proofs.command_line.program.Goals as goal

pub returns : goal.returns
returns c =
    let files = with_sub (with_sub c.in_ok-bare_program.ensures c.in_ok-decode_command.ensures c.in_ok-subcommand.ensures) c.in_ok-encode_command.ensures c.in_ok-subcommand-2.ensures in
    let all = with_sub (with_sub files c.in_ok-inspect_command.ensures c.in_ok-subcommand-3.ensures) c.in_ok-check_command.ensures c.in_ok-program.ensures in
    changed all c.in_ok-program-2.ensures
