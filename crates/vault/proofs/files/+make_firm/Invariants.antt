use Rattle.std.proofs.Common.{length}
use Rattle.vault.proofs.files.+make_firm.Given as goal

abbrev pub decreases-make_firm : goal.decreases-make_firm
decreases-make_firm g l = length l.path.now
