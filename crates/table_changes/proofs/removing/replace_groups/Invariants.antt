use Rattle.std.proofs.Common.{◌≡◌, ◌≤◌, ◌↔◌, false, [], None, Ok}
use Rattle.schema.specs.Stripe.{leaves_of}
use Rattle.filter.specs.Test.{tests_in}
use Rattle.filter.specs.Terms.{tests_of}
use Rattle.filter.specs.Deciding.{satisfies as all_satisfied}
use Rattle.manifest.specs.Groups.{root_of}
use Rattle.manifest.specs.Root.{CanHave}
use Rattle.planning.specs.Numbered.{brought}
use Rattle.planning.specs.Replaced.{changes_view}
use Rattle.table.specs.Deciding.{Filter as Terms}
use Rattle.table.specs.State.{State}
use Rattle.table_commits.specs.Filling.{HasWritten}
use Rattle.table_commits.specs.Keeping.{Unwritten}
use Rattle.table_changes.specs.Removing.{HasReplaced}
use Rattle.table_reads.specs.Counting.{CanFilter}
use Rattle.table_changes.proofs.AbsentParts.{NoneBefore}
use Rattle.table_changes.proofs.removing.replace_groups.Given as goal

abbrev pub invariant-loop-place : goal.invariant-loop-place
invariant-loop-place g l = record {
  same : l.store ≡ record l.fn.store { vault = l.store.vault; snapshots = l.store.snapshots; next_group = l.store.next_group };
  failures : (g.D.Disk.state l.fn.store.vault.disk).failures ≤ (g.D.Disk.state l.store.vault.disk).failures;
  honest : (g.D.Disk.state l.fn.store.vault.disk).honest ↔ (g.D.Disk.state l.store.vault.disk).honest;
  unwritten : l.removed.count ≡ 0 → Unwritten g.D.Disk.state l.fn.store l.store;
  absent : (g.D.Disk.state l.fn.store.vault.disk).honest → root_of l.table ≡ root_of l.fn.store.manifest → CanFilter (tests_in l.filter) (root_of l.fn.store.manifest)
      → l.removed.count ≡ 0 → NoneBefore (g.D.Disk.state l.fn.store.vault.disk) (tests_in l.filter) (root_of l.fn.store.manifest) l.place;
  fit : CanHave (root_of l.fn.store.manifest) (brought (changes_view l.removed.changes.items));
  replaces : (g.D.Disk.state l.fn.store.vault.disk).honest → (s : State) (terms : Terms) → root_of l.table ≡ root_of l.fn.store.manifest → s.closed ≡ false → tests_of (leaves_of s.table.schema) terms ≡ Ok (tests_in l.filter)
      → HasWritten g.D.Disk.state l.fn.store l.fn.store s None [] [] → l.fn.store.next_group ≡ s.next_group
      → HasReplaced g.D.Disk.state l.fn.store l.store s (all_satisfied (tests_in l.filter)) l.place l.removed;
}
