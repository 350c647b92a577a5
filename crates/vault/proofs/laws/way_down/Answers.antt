use Rattle.vault.proofs.Slashes.{on_the_way-path_in}
use Rattle.vault.proofs.laws.way_down.Goals as goal

pub returns : goal.returns
returns c = on_the_way-path_in
