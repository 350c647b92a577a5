use Rattle.std.proofs.Common.{◌≡◌, ◌≤◌, ◌+◌, ◌↔◌, ◌⊎◌, false, List, [], length}
use Rattle.std.specs.Vec.Iter.{into_iter_items, into_iter_len}
use Rattle.partition.specs.Splitting.{KeyRows}
use Rattle.gather.specs.Groups.{full_groups}
use Rattle.gather.specs.KeyBuffers.{Hold, HoldGroups}
use Rattle.manifest.specs.Groups.{root_of, handles_view}
use Rattle.manifest.specs.Root.{CanHave, stored_of}
use Rattle.table.specs.Table.{Row}
use Rattle.table.specs.State.{State}
use Rattle.table_state.specs.declared.standing.Core.{Core}
use Rattle.table_commits.specs.Filling.{HasWritten, AreFine}
use Rattle.table_commits.proofs.GatheredGroupsWritten.{IsAtTheRest, IsOnTheWay}
use Rattle.table_commits.proofs.gathered_groups.write_groups.Given as goal

-- the groups that are left are held, and come after those that were written
abbrev pub invariant-loop-group : goal.invariant-loop-group
invariant-loop-group g l = record {
  many : into_iter_len l.group-iterator ≡ length (into_iter_items l.group-iterator);
  rises : l.store.next_group + length (into_iter_items l.group-iterator) ≤ l.fn.store.next_group + length l.fn.groups.items;
  same : l.store ≡ record l.fn.store { vault = l.store.vault; snapshots = l.store.snapshots; next_group = l.store.next_group };
  failures : (g.D.Disk.state l.fn.store.vault.disk).failures ≤ (g.D.Disk.state l.store.vault.disk).failures;
  honest : (g.D.Disk.state l.fn.store.vault.disk).honest ↔ (g.D.Disk.state l.store.vault.disk).honest;
  fit : CanHave (root_of l.fn.store.manifest) (handles_view l.written.items);
  fills : (g.D.Disk.state l.fn.store.vault.disk).honest → (start : Core g.row.D.Denot) (s : State) (rows : List Row) → s.closed ≡ false → AreFine s rows
      → (holds : HoldGroups s.table.keys s.options.group_rows (stored_of (root_of l.fn.store.manifest)) rows l.fn.groups.items) → HasWritten g.D.Disk.state start l.fn.store s l.job [] [] → l.fn.store.next_group ≡ s.next_group
      → (left : List KeyRows) × Hold (stored_of (root_of l.fn.store.manifest)) (into_iter_items l.group-iterator) left
      × (IsAtTheRest g.D.Disk.state start l.store s l.job (handles_view l.written.items) rows left ⊎ IsOnTheWay g.D.Disk.state start l.store s l.job (handles_view l.written.items) rows holds.are.rests left);
  takes : (g.D.Disk.state l.fn.store.vault.disk).honest → (start : Core g.row.D.Denot) (s : State) (rows : List Row) → s.closed ≡ false → AreFine s rows
      → Hold (stored_of (root_of l.fn.store.manifest)) l.fn.groups.items (full_groups s.table.keys s.options.group_rows rows) → HasWritten g.D.Disk.state start l.fn.store s l.job [] [] → l.fn.store.next_group ≡ s.next_group
      → (left : List KeyRows) × Hold (stored_of (root_of l.fn.store.manifest)) (into_iter_items l.group-iterator) left
      × IsOnTheWay g.D.Disk.state start l.store s l.job (handles_view l.written.items) rows [] left;
}
