-- What comes of a dataset that is opened on a disk: the clauses of the store's calls, in one place.
use Rattle.std.specs.Prelude.{◌≡◌, ◌≢◌, ◌≤◌, ◌⊎◌, ◌+◌, ◌↔◌, false, [], None, Result, Err, OnOk, IfOk, IfErr}
use Rattle.bits.specs.declared.refusal.Refusal.{Refusal}
use Rattle.bits.specs.declared.refusal.Refusal.TheVariants.{Limit, Memory, Device}
use Rattle.disk.specs.State.{State as DiskState, content}
use Rattle.vault.specs.Views.{root_path}
use Rattle.vault.specs.Calls.{HasFailed, LeavesAll}
use Rattle.footer.specs.declared.options.WriteOptions.{WriteOptions}
use Rattle.footer.specs.Writing.{IsOutOfRange}
use Rattle.manifest.specs.Groups.{root_of}
use Rattle.recovery.specs.Sound.{IsSound}
use Rattle.recovery.specs.Opening.{Cleans}
use Rattle.table.specs.State.{State}
use Rattle.table_state.specs.declared.standing.Core.{Core}
use Rattle.table_state.specs.Stands.{Shows}
use Rattle.table_commits.specs.Cleaning.{Clears, IsTidy}
use Rattle.table_openings.specs.Opening.{disk_of, HasRoomForAll, LeavesTables, IsOpened, IsNotOpened, LeavesAllOrCleans}

module _ {D : Type 0} (state : D → DiskState) where
  -- What an opening promises, whichever it is: on an honest disk that is sound and has room it is refused only for memory, for a disk that
  -- failed, and for options out of range, and else the store stands as it is opened on a table that a stop could have left.
  pub record Opens (disk : D) (o : WriteOptions) (result : Result (Core D) (D × Refusal)) : Type 0 where
    pub found : (state disk).honest → IsSound (state disk) → HasRoomForAll (state disk) → IfOk result (IsOpened state (state disk) o)
    pub moments : (state disk).honest → IsSound (state disk) → HasRoomForAll (state disk) → LeavesTables (state disk) (state (disk_of result))
    pub sound : (state disk).honest → IsSound (state disk) → HasRoomForAll (state disk) → IsSound (state (disk_of result))
    pub room : (state disk).honest → IsSound (state disk) → HasRoomForAll (state disk) → HasRoomForAll (state (disk_of result))
    pub refused : (state disk).honest → IsSound (state disk) → HasRoomForAll (state disk)
        → IfErr result (λ e. (e.1 ≡ Memory) ⊎ ((e.1 ≡ Device) ⊎ ((e.1 ≡ Limit) × IsOutOfRange o)))
    pub options : IsOutOfRange o → result ≡ Err (disk, Limit)
    pub which : (state disk).honest → IfErr result (λ e. IsNotOpened o (content (state disk).seen root_path) e.1)
    pub there : (state disk).honest → OnOk result (content (state disk).seen root_path ≢ None)
    pub cause : (state disk).honest → IfErr result (λ e. e.1 ≡ Device → HasFailed (state disk) (state e.0))
    pub reads : (state (disk_of result)).reads ≤ (state disk).reads + 1
    pub counts : (state disk).failures ≤ (state (disk_of result)).failures
    pub honest : (state disk).honest ↔ (state (disk_of result)).honest

  -- what an opening to read promises: nothing that any image has, or that the disk reads, changes
  pub record OpensToRead (disk : D) (o : WriteOptions) (result : Result (Core D) (D × Refusal)) : Type 0 where
    pub opens : Opens disk o result
    pub unchanged : (state disk).honest → LeavesAll (state disk) (state (disk_of result))

  -- what an opening promises that removes what the root does not name
  pub record OpensAndCleans (disk : D) (o : WriteOptions) (result : Result (Core D) (D × Refusal)) : Type 0 where
    pub opens : Opens disk o result
    pub unchanged : (state disk).honest → IfErr result (λ e. LeavesAllOrCleans (state disk) (state e.0) e.1)
    pub removes : (state disk).honest → IfOk result (λ store. Cleans (root_of store.manifest) (state disk) (state store.vault.disk))

  -- what an opening to change a dataset promises: what is not needed is removed, or it is not
  abbrev pub OpensToChange : D → WriteOptions → Result (Core D) (D × Refusal) → Type 0
  OpensToChange disk o result = OpensToRead disk o result ⊎ OpensAndCleans disk o result

  -- what the cleaning of a store promises: it shows the state that it showed, a stop at any moment leaves that state's table, no part
  -- file stands that nothing needs, unless a cleaning met a fault, and other files are left alone
  pub record CleansUp (old new : Core D) : Type 0 where
    pub clears : (state old.vault.disk).honest → (s : State) → Shows state old s → s.closed ≡ false → Clears state old new s
    pub tidy : (state old.vault.disk).honest → (s : State) → Shows state old s → s.closed ≡ false → IsTidy state new
    pub same : new ≡ record old { vault = new.vault; snapshots = new.snapshots; clean = new.clean }
    pub removes : (state old.vault.disk).honest → old.closed ≡ false → old.jobs.items ≡ [] → old.cursors.items ≡ []
        → Cleans (root_of old.manifest) (state old.vault.disk) (state new.vault.disk)
    pub counts : (state old.vault.disk).failures ≤ (state new.vault.disk).failures
    pub honest : (state old.vault.disk).honest ↔ (state new.vault.disk).honest

  -- a store is cleaned at the end, or is left as it is
  abbrev pub MayCleanUp : Core D → Core D → Type 0
  MayCleanUp old new = (new ≡ old) ⊎ CleansUp old new
