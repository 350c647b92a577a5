use Rattle.answers.proofs.OkThen.{ok_always}
use Rattle.commands.proofs.TasksMade.{appends_kept}
use Rattle.commands.proofs.opening.print_rows_done.Goals as goal

pub returns-clause-told : goal.returns-clause-told
returns-clause-told g c =
    let contents = g.W.Write.contents in
    ok_always c.map_err.result (appends_kept (contents c.args.out.now) (contents c.print_done.new.out) (contents c.flush.new.self) _ c.in_ok-print_done.ensures.written c.flush.ensures.bytes)
