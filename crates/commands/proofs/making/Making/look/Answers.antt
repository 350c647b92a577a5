use Rattle.commands.specs.Looking.{looked}
use Rattle.commands.proofs.making.Making.look.Goals as goal

pub returns-else-has_no_folder-clause-looks : goal.returns-else-has_no_folder-clause-looks
returns-else-has_no_folder-clause-looks g c = looked c.look_alone.ensures.looks
