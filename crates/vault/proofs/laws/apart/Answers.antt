use Rattle.vault.proofs.Names.{root_alone, next_alone, root_not_next}
use Rattle.vault.proofs.Writing.{not_on_its_way}
use Rattle.vault.proofs.laws.apart.Goals as goal

pub returns : goal.returns
returns c = record { own = not_on_its_way; root = root_alone; next = next_alone; two = root_not_next }
