use Rattle.std.proofs.Common.{arith}
use Rattle.std.proofs.lemmas.Map.Text.{text_keys}
use Rattle.memory_places.proofs.disks.FolderDisks.give.Goals as goal

pub returns-in-Some-clause-others : goal.returns-in-Some-clause-others
returns-in-Some-clause-others c = grind (arith, text_keys)

pub returns-in_default-clause-given : goal.returns-in_default-clause-given
returns-in_default-clause-given c = grind (arith, text_keys)
