use Rattle.std.proofs.Common.{◌≡◌, ◌+◌, drop}
use Rattle.manifest.specs.Groups.{groups_of_blocks}
use Rattle.table_commits.specs.Dropping.{rows_in}
use Rattle.table_commits.proofs.sums.rows_in.Given as goal

abbrev pub invariant-loop-block : goal.invariant-loop-block
invariant-loop-block l = l.count + rows_in (groups_of_blocks (drop l.block-index l.blocks)) ≡ rows_in (groups_of_blocks l.blocks)
