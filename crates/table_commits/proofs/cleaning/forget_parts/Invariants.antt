use Rattle.std.proofs.Common.{◌≡◌, ◌≤◌, ◌↔◌, true, false, take}
use Rattle.manifest.specs.Groups.{handles_view, root_of}
use Rattle.snapshots.specs.Views.{state_of}
use Rattle.table.specs.State.{State}
use Rattle.table_state.specs.Stands.{Shows}
use Rattle.table_commits.specs.Cleaning.{AreUnneeded, AreForgotten, Clears}
use Rattle.table_commits.proofs.cleaning.forget_parts.Given as goal

abbrev pub invariant-loop-group : goal.invariant-loop-group
invariant-loop-group g l = record {
  same : l.store ≡ record l.fn.store { vault = l.store.vault; clean = l.store.clean };
  failures : (g.D.Disk.state l.fn.store.vault.disk).failures ≤ (g.D.Disk.state l.store.vault.disk).failures;
  reads : (g.D.Disk.state l.store.vault.disk).reads ≡ (g.D.Disk.state l.fn.store.vault.disk).reads;
  honest : (g.D.Disk.state l.fn.store.vault.disk).honest ↔ (g.D.Disk.state l.store.vault.disk).honest;
  forgets : (g.D.Disk.state l.fn.store.vault.disk).honest → l.store.clean ≡ true → (l.fn.store.clean ≡ true)
      × AreForgotten (root_of l.fn.store.manifest).keys (handles_view (take l.group-index l.groups)) (g.D.Disk.state l.fn.store.vault.disk) (g.D.Disk.state l.store.vault.disk);
  clears : (g.D.Disk.state l.fn.store.vault.disk).honest → (s : State) → Shows g.D.Disk.state l.fn.store s → s.closed ≡ false
      → AreUnneeded (state_of l.fn.store.snapshots) s.next_group (handles_view l.groups) → Clears g.D.Disk.state l.fn.store l.store s;
}
