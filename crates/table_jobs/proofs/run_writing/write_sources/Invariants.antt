use Rattle.std.proofs.Common.{◌≡◌, ◌≤◌, ◌↔◌, false, List, drop}
use Rattle.std.specs.Prelude.{Some}
use Rattle.manifest.specs.Groups.{root_of, handles_view}
use Rattle.manifest.specs.Root.{CanHave}
use Rattle.table.specs.Table.{Group}
use Rattle.table.specs.State.{State}
use Rattle.table_state.specs.declared.standing.Core.{Core}
use Rattle.table_state.specs.Lookups.{job_at}
use Rattle.table_commits.specs.Filling.{HasWritten, Goes}
use Rattle.table_jobs.specs.Rewritten.{AreSources, IsRunIn}
use Rattle.table_jobs.proofs.RowsUnderWay.{SourcesLeft, run_task}
use Rattle.table_jobs.proofs.run_writing.write_sources.Given as goal

-- the rows of the first sources are taken, and those of the others are still to come
abbrev pub invariant-loop-source : goal.invariant-loop-source
invariant-loop-source g l = record {
  same : l.store ≡ record l.fn.store { vault = l.store.vault; snapshots = l.store.snapshots; next_group = l.store.next_group };
  failures : (g.D.Disk.state l.fn.store.vault.disk).failures ≤ (g.D.Disk.state l.store.vault.disk).failures;
  honest : (g.D.Disk.state l.fn.store.vault.disk).honest ↔ (g.D.Disk.state l.store.vault.disk).honest;
  goes : Goes (handles_view l.fn.written.items) (handles_view l.written.items);
  fit : CanHave (root_of l.fn.store.manifest) (handles_view l.fn.written.items) → CanHave (root_of l.fn.store.manifest) (handles_view l.written.items);
  fills : (g.D.Disk.state l.fn.store.vault.disk).honest → (start : Core g.row.D.Denot) (s : State) (groups run : List Group) → s.closed ≡ false → l.fn.store.jobs ≡ start.jobs → root_of l.table ≡ root_of l.fn.store.manifest
      → HasWritten g.D.Disk.state start l.fn.store s (Some l.job) (handles_view l.fn.written.items) groups → AreSources (g.D.Disk.state start.vault.disk) s (job_at l.job start.jobs.items) l.place (handles_view l.sources) run → (is : IsRunIn s run)
      → SourcesLeft g.D.Disk.state start s l.job (run_task (handles_view l.fn.written.items) groups is.key run l.fn.store.next_group) l.store (handles_view l.written.items) l.waiting l.at (handles_view (drop l.source-index l.sources));
}
