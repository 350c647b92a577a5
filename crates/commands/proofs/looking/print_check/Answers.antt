use Rattle.std.proofs.lemmas.Result.{on_ok_weaker}
use Rattle.commands.proofs.looking.print_check.Goals as goal

pub returns-clause-held : goal.returns-clause-held
returns-clause-held g c honest =
    on_ok_weaker c.first_refusal.result (λ none. c.in_ok-checked.ensures.held honest none) c.first_refusal.ensures.none
