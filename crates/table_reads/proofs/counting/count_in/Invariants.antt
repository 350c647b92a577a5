use Rattle.std.proofs.Common.{drop}
use Rattle.filter.specs.Test.{tests_in}
use Rattle.manifest.specs.Groups.{handles_view, root_of}
use Rattle.table_reads.proofs.CountingGroups.{Tally}
use Rattle.table_reads.proofs.counting.count_in.Given as goal

abbrev pub invariant-loop-group : goal.invariant-loop-group
invariant-loop-group g l = Tally (tests_in l.filter) (root_of l.table) (g.D.Disk.state l.initial.vault.disk) (g.D.Disk.state l.vault.disk) (handles_view l.groups) (handles_view (drop l.group-index l.groups)) l.found
