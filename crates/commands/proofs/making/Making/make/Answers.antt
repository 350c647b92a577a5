use Rattle.commands.specs.Calls.{on_folder}
use Rattle.commands.proofs.making.Making.make.Goals as goal

pub returns-else-is_of_file-clause-comes : goal.returns-else-is_of_file-clause-comes
returns-else-is_of_file-clause-comes g c = on_folder c.make_on_files.ensures.comes
