use Rattle.std.proofs.Common.{length}
use Rattle.vault.proofs.files.+make_folders.Given as goal

abbrev pub decreases-make_folders : goal.decreases-make_folders
decreases-make_folders g l = length l.path.now
