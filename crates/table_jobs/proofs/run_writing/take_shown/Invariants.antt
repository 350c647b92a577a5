use Rattle.std.proofs.Common.{◌≡◌, ◌≤◌, ◌++◌, ◌↔◌, false, List, map}
use Rattle.schema.specs.Keys.{row_without_keys}
use Rattle.scan.specs.Left.{rows_held, rows_stand}
use Rattle.manifest.specs.Groups.{root_of, handles_view}
use Rattle.manifest.specs.Root.{CanHave}
use Rattle.table.specs.Table.{Row}
use Rattle.table.specs.State.{State}
use Rattle.table_state.specs.declared.standing.Core.{Core}
use Rattle.table_commits.specs.Filling.{Goes}
use Rattle.table_jobs.specs.Rewritten.{Task, AreUnderWay}
use Rattle.table_jobs.proofs.run_writing.take_shown.Given as goal

-- of the rows the first are taken, and the others are still to come
abbrev pub invariant-rows : goal.invariant-rows
invariant-rows g l = record {
  same : l.store ≡ record l.fn.store { vault = l.store.vault; snapshots = l.store.snapshots; next_group = l.store.next_group };
  failures : (g.D.Disk.state l.fn.store.vault.disk).failures ≤ (g.D.Disk.state l.store.vault.disk).failures;
  honest : (g.D.Disk.state l.fn.store.vault.disk).honest ↔ (g.D.Disk.state l.store.vault.disk).honest;
  goes : Goes (handles_view l.fn.written.items) (handles_view l.written.items);
  fit : CanHave (root_of l.fn.store.manifest) (handles_view l.fn.written.items) → CanHave (root_of l.fn.store.manifest) (handles_view l.written.items);
  some : (given : List Row) → rows_held l.group given → (left : List Row) × rows_stand l.rows left;
  takes : (g.D.Disk.state l.fn.store.vault.disk).honest → (start : Core g.row.D.Denot) (s : State) (task : Task) (given later : List Row) → s.closed ≡ false → root_of l.table ≡ root_of l.fn.store.manifest
      → rows_held l.group (map (row_without_keys s.table.keys) given) → AreUnderWay g.D.Disk.state start l.fn.store s l.job task (handles_view l.fn.written.items) l.fn.waiting (given ++ later) 1
      → (left : List Row) × rows_stand l.rows (map (row_without_keys s.table.keys) left) × AreUnderWay g.D.Disk.state start l.store s l.job task (handles_view l.written.items) l.waiting (left ++ later) 1;
}
