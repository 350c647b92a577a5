use Rattle.std.proofs.Common.{◌≡◌, ◌≤◌, ◌++◌, ◌↔◌, false, List, [], drop}
use Rattle.std.specs.Prelude.{Some}
use Rattle.manifest.specs.Groups.{root_of, handles_view}
use Rattle.manifest.specs.Root.{CanHave}
use Rattle.planning.specs.Replaced.{runs_view}
use Rattle.planning.specs.Numbered.{brought_by}
use Rattle.planning.specs.Runs.{sources_view}
use Rattle.table.specs.Table.{Group}
use Rattle.table.specs.State.{State}
use Rattle.table_state.specs.declared.standing.Core.{Core}
use Rattle.table_state.specs.Lookups.{job_at}
use Rattle.table_commits.specs.Filling.{HasWritten}
use Rattle.table_jobs.specs.Rewritten.{AreRuns}
use Rattle.table_jobs.proofs.RunByRun.{SoFar}
use Rattle.table_jobs.proofs.rewritten.rewrite_all.Given as goal

abbrev pub invariant-loop-run : goal.invariant-loop-run
invariant-loop-run g l = record {
  same : l.store ≡ record l.fn.store { vault = l.store.vault; snapshots = l.store.snapshots; next_group = l.store.next_group };
  failures : (g.D.Disk.state l.fn.store.vault.disk).failures ≤ (g.D.Disk.state l.store.vault.disk).failures;
  honest : (g.D.Disk.state l.fn.store.vault.disk).honest ↔ (g.D.Disk.state l.store.vault.disk).honest;
  come : handles_view l.written.items ≡ handles_view l.fn.written.items ++ brought_by (runs_view l.made.items);
  fit : CanHave (root_of l.fn.store.manifest) (handles_view l.fn.written.items) → CanHave (root_of l.fn.store.manifest) (handles_view l.written.items);
  fills : (g.D.Disk.state l.fn.store.vault.disk).honest → (start : Core g.row.D.Denot) (s : State) (given : List (List Group)) → s.closed ≡ false → l.fn.store.jobs ≡ start.jobs → l.fn.store.next_group ≡ s.next_group → l.fn.written.items ≡ []
      → HasWritten g.D.Disk.state start l.fn.store s (Some l.job) [] [] → AreRuns (g.D.Disk.state start.vault.disk) s (job_at l.job start.jobs.items) 0 (sources_view l.runs) given
      → SoFar g.D.Disk.state start l.store s l.job (handles_view l.written.items) (runs_view l.made.items) given l.place (sources_view (drop l.run-index l.runs));
}
