use Rattle.std.proofs.Common.{drop}
use Rattle.filter.specs.Test.{tests_in}
use Rattle.manifest.specs.Groups.{groups_of_blocks, root_of}
use Rattle.table_reads.proofs.CountingGroups.{Tally}
use Rattle.table_reads.proofs.counting.count_rows.Given as goal

abbrev pub invariant-loop-block : goal.invariant-loop-block
invariant-loop-block g l = Tally (tests_in l.filter) (root_of l.table) (g.D.Disk.state l.initial.vault.disk) (g.D.Disk.state l.vault.disk) (groups_of_blocks l.block-items) (groups_of_blocks (drop l.block-index l.block-items)) l.found
