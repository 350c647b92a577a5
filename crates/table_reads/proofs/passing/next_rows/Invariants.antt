use Rattle.std.proofs.Common.{◌≡◌}
use Rattle.snapshots.specs.Views.{state_of}
use Rattle.table_reads.proofs.AbsentFiles.{PassedTo}
use Rattle.table_reads.proofs.CursorsGoOn.{Going}
use Rattle.table_reads.proofs.passing.next_rows.Given as goal

abbrev pub invariant-loop-place : goal.invariant-loop-place
invariant-loop-place g l = record { at : l.passed ≡ l.place; going : Going (g.D.Disk.state l.initial.vault.disk) (state_of l.snapshots) l.cursor l.place (g.D.Disk.state l.vault.disk); absent : PassedTo (g.D.Disk.state l.initial.vault.disk) (state_of l.snapshots) l.cursor l.place }
