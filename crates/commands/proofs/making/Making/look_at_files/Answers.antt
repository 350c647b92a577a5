use Rattle.answers.proofs.OkThen.{ok_always}
use Rattle.commands.proofs.making.Making.look_at_files.Goals as goal

pub returns-clause-held : goal.returns-clause-held
returns-clause-held g c = λ honest. ok_always c.print_schema_notes.result (c.in_ok-print_check.ensures.held honest)

pub returns-clause-leaves : goal.returns-clause-leaves
returns-clause-leaves g c = c.print_check.ensures.effect.unchanged
