-- A store on which nothing is open.
use Rattle.std.specs.Prelude.{◌≡◌, false, []}
use Rattle.footer.specs.declared.options.WriteOptions.{WriteOptions}
use Rattle.manifest.specs.Groups.{root_of}
use Rattle.snapshots.specs.State.{start}
use Rattle.snapshots.specs.Views.{state_of}
use Rattle.table_state.specs.declared.standing.Core.{Core}

-- A store has the versions of its description; nothing is open on it, and each counter is where it begins.
pub record IsStarted {D : Type 0} (o : WriteOptions) (store : Core D) : Type 0 where
  pub options : store.options ≡ o
  pub versions : state_of store.snapshots ≡ start (root_of store.manifest).groups
  pub jobs : store.jobs.items ≡ []
  pub cursors : store.cursors.items ≡ []
  pub next_job : store.next_job ≡ 0
  pub next_cursor : store.next_cursor ≡ 0
  pub next_group : store.next_group ≡ (root_of store.manifest).next
  pub closed : store.closed ≡ false
