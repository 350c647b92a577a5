use Rattle.table_commits.proofs.HeavyRoots.{heavy_roots_are_too_much}
use Rattle.table_openings.proofs.laws.heavy_roots_are_too_much.Goals as goal

pub returns : goal.returns
returns c = heavy_roots_are_too_much
