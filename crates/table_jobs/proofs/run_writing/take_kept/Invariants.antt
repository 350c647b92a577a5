use Rattle.std.proofs.Common.{◌≡◌, ◌≤◌, ◌++◌, ◌↔◌, false, List, length}
use Rattle.std.specs.Vec.Iter.{into_iter_items, into_iter_len}
use Rattle.schema.specs.Views.{rows_view}
use Rattle.manifest.specs.Groups.{root_of, handles_view}
use Rattle.manifest.specs.Root.{CanHave}
use Rattle.table.specs.Table.{Row}
use Rattle.table.specs.State.{State}
use Rattle.table_state.specs.declared.standing.Core.{Core}
use Rattle.table_commits.specs.Filling.{Goes}
use Rattle.table_jobs.specs.Rewritten.{Task, AreUnderWay}
use Rattle.table_jobs.proofs.run_writing.take_kept.Given as goal

-- the first rows are taken, and the others are still to come
abbrev pub invariant-loop-row : goal.invariant-loop-row
invariant-loop-row g l = record {
  many : into_iter_len l.row-iterator ≡ length (into_iter_items l.row-iterator);
  same : l.store ≡ record l.fn.store { vault = l.store.vault; snapshots = l.store.snapshots; next_group = l.store.next_group };
  failures : (g.D.Disk.state l.fn.store.vault.disk).failures ≤ (g.D.Disk.state l.store.vault.disk).failures;
  honest : (g.D.Disk.state l.fn.store.vault.disk).honest ↔ (g.D.Disk.state l.store.vault.disk).honest;
  goes : Goes (handles_view l.fn.written.items) (handles_view l.written.items);
  fit : CanHave (root_of l.fn.store.manifest) (handles_view l.fn.written.items) → CanHave (root_of l.fn.store.manifest) (handles_view l.written.items);
  takes : (g.D.Disk.state l.fn.store.vault.disk).honest → (start : Core g.row.D.Denot) (s : State) (task : Task) (later : List Row) → s.closed ≡ false → root_of l.table ≡ root_of l.fn.store.manifest
      → AreUnderWay g.D.Disk.state start l.fn.store s l.job task (handles_view l.fn.written.items) l.fn.waiting (rows_view l.fn.given.items ++ later) 1
      → AreUnderWay g.D.Disk.state start l.store s l.job task (handles_view l.written.items) l.waiting (rows_view (into_iter_items l.row-iterator) ++ later) 1;
}
