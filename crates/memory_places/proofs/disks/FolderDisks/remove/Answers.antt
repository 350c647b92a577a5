use Rattle.std.proofs.Common.{arith}
use Rattle.std.proofs.lemmas.Map.Text.{text_keys}
use Rattle.memory_places.proofs.disks.FolderDisks.remove.Goals as goal

pub returns : goal.returns
returns c = grind (arith, text_keys)
