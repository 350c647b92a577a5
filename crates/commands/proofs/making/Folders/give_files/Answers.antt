use Rattle.commands.specs.Calls.{gave}
use Rattle.commands.proofs.making.Folders.give_files.Goals as goal

pub returns-in-Ok-clause-gives : goal.returns-in-Ok-clause-gives
returns-in-Ok-clause-gives g c = gave c.in-Ok.ensures.gives

pub returns-clause-gives : goal.returns-clause-gives
returns-clause-gives g c = gave c.in-Err.ensures.gives
