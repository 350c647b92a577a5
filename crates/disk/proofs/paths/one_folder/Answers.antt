use Rattle.disk.proofs.Texts.{folder_of-path_in}
use Rattle.disk.proofs.paths.one_folder.Goals as goal

pub returns : goal.returns
returns c = folder_of-path_in
