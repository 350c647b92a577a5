use Rattle.std.proofs.Common.{arith}
use Rattle.std.proofs.lemmas.Map.Text.{text_keys}
use Rattle.memory_places.proofs.disks.FolderDisks.make.Goals as goal

pub returns-clause-others : goal.returns-clause-others
returns-clause-others c = grind (arith, text_keys)

pub returns-clause-kept : goal.returns-clause-kept
returns-clause-kept c = grind (arith, text_keys)

pub returns-clause-made : goal.returns-clause-made
returns-clause-made c = (c.new.result, c.new.ensures, grind (arith, text_keys))
