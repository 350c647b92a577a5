-- What a call wrote of the rows that it is given, and which of them wait under their keys.
use Rattle.std.specs.Prelude.{◌≡◌, ◌≤◌, ◌<◌, ◌+◌, ℕ, true, List, [], ◌∷◌, ◌++◌, map, flat_map, length, Option, Result, Ok, Err, IsTrue}
use Rattle.std.specs.List.{AllByRecursion, AllZip}
use Rattle.std.specs.declared.rc.Rc.{Rc}
use Rattle.std.specs.declared.vec.Vec.{Vec}
use Rattle.std.specs.declared.alloc.Global.{Global}
use Rattle.manifest.specs.declared.group.Group.{Group as CodeGroup}
use Rattle.bits.specs.declared.refusal.Refusal.{Refusal}
use Rattle.bits.specs.declared.refusal.Refusal.TheVariants.{Limit, Device, Memory}
use Rattle.schema.specs.Shape.{Fields}
use Rattle.schema.specs.Fits.{fits_each}
use Rattle.schema.specs.Keys.{KeyColumn, AreDistinct, AreRowsOf, key_of_row, without_keys}
use Rattle.disk.specs.State.{State as DiskState}
use Rattle.vault.specs.Calls.{HasFailed}
use Rattle.partition.specs.Folders.{CanPartition}
use Rattle.partition.specs.Splitting.{KeyRows}
use Rattle.gather.specs.Groups.{AreRests}
use Rattle.manifest.specs.Groups.{Group as FileGroup, handles_view}
use Rattle.manifest.specs.Records.{IsGroup}
use Rattle.snapshots.specs.State.{job_is_open}
use Rattle.snapshots.specs.Views.{state_of}
use Rattle.planning.specs.Told.{numbers_of}
use Rattle.table.specs.Table.{Row, Key, Group, rows, IsGroupIn, IsRowIn}
use Rattle.table.specs.InOrder.{in_order}
use Rattle.table.specs.Commits.{are_full}
use Rattle.table.specs.State.{State}
use Rattle.table.specs.Limits.{IsNewGroup, IsFileTooMuch}
use Rattle.table_state.specs.declared.standing.Core.{Core}
use Rattle.table_state.specs.Stands.{AreStored}
use Rattle.table_commits.specs.Writing.{IsHeldFor}
use Rattle.table_commits.specs.Acting.{WroteTo}
use Rattle.table_state.specs.Buffers.{keys_in, IsRising}

-- Since its start a call wrote the files of these groups, for a job that is open or for none, under numbers from the
-- start's counter on.
pub record HasWritten {D : Type 0} (state : D → DiskState) (start now : Core D) (s : State) (job : Option ℕ) (files : List FileGroup) (groups : List Group) : Type 0 where
  pub wrote : WroteTo state start now s now.next_group
  pub no_less : (state start.vault.disk).failures ≤ (state now.vault.disk).failures
  pub job_open : job_is_open (state_of now.snapshots) job ≡ true
  pub stored : AreStored (state now.vault.disk) s.table.keys s.table.schema now.next_group files groups
  pub held : AllByRecursion (λ (f : FileGroup). IsHeldFor job (state_of now.snapshots) f) files
  pub described : AllByRecursion (λ (f : FileGroup). IsGroup s.table.keys (without_keys s.table.keys s.table.schema) f) files
  pub above : AllByRecursion (λ (f : FileGroup). s.next_group ≤ f.number) files
  pub distinct : AreDistinct (numbers_of files)

-- the group that is written under a number
abbrev pub written_group : ℕ → Key → List Row → Group
written_group n key rows = record { number = n; key = key; rows = rows }

-- One file more, and after a refusal none. The counter rises by one at most.
abbrev pub Adds : {D T : Type 0} → (D → DiskState) → Core D → Core D → Core D → State → Option ℕ → List FileGroup → List Group → Group → Result T Refusal → Type 0
Adds state start old new s job files groups g (Ok x) = HasWritten state start new s job files (groups ++ g ∷ []) × (new.next_group ≤ old.next_group + 1)
Adds state start old new s job files groups g (Err e) = WroteTo state start new s new.next_group × (new.next_group ≤ old.next_group + 1) × (e ≡ Device → HasFailed (state start.vault.disk) (state new.vault.disk))

-- the new files are the old ones, and then some more
abbrev pub Goes : List FileGroup → List FileGroup → Type 0
Goes old new = (more : List FileGroup) × (new ≡ old ++ more)

-- ---- rows that wait

-- rows of a table with these columns, whole, which wait without their keys
pub record IsBuffer (schema : Fields) (keys : List KeyColumn) (w v : KeyRows) : Type 0 where
  pub key_is : v.key ≡ w.key
  pub can : CanPartition keys v.key
  pub are : AreRowsOf keys w.key w.rows v.rows
  pub rows_in : AllByRecursion (IsRowIn schema keys v.key) v.rows

-- rows of a table, whole, which wait without their keys, key by key
abbrev pub AreBuffers : Fields → List KeyColumn → List KeyRows → List KeyRows → Type 0
AreBuffers schema keys ws vs = AllZip (IsBuffer schema keys) ws vs

-- all rows that wait, key by key
abbrev pub rows_waiting : List KeyRows → List Row
rows_waiting vs = flat_map (λ (v : KeyRows). v.rows) vs

-- some rows, and fewer than a group has
abbrev pub IsFew : ℕ → KeyRows → Type 0
IsFew size v = (1 ≤ length v.rows) × (length v.rows < size)

-- a group has exactly this many rows
abbrev pub HasSize : ℕ → Group → Type 0
HasSize size g = length g.rows ≡ size

-- a group has at least one row and at most this many
abbrev pub HasUpTo : ℕ → Group → Type 0
HasUpTo size g = (1 ≤ length g.rows) × (length g.rows ≤ size)

-- the keys of groups
abbrev pub group_keys : List Group → List Key
group_keys gs = map (λ (g : Group). g.key) gs

-- Of the rows given so far a call wrote full groups, and then for some keys the rest; what is left waits. Each key's rows
-- are in order.
pub record Filled {D : Type 0} (state : D → DiskState) (start now : Core D) (s : State) (job : Option ℕ) (files : List FileGroup) (rests : List Group) (waiting : List KeyRows) (given : List Row) : Type 0 where
  pub fulls : List Group
  pub whole : List KeyRows
  pub written : HasWritten state start now s job files (fulls ++ rests)
  pub each : AllByRecursion (IsGroupIn s.table.schema s.table.keys) (fulls ++ rests)
  pub full : AllByRecursion (HasSize s.options.group_rows) fulls
  pub up_to : AllByRecursion (HasUpTo s.options.group_rows) rests
  pub waits : AreBuffers s.table.schema s.table.keys waiting whole
  pub few : AllByRecursion (IsFew s.options.group_rows) whole
  pub rising : IsRising (group_keys rests ++ keys_in whole)
  pub all : in_order (key_of_row s.table.keys) (rows (fulls ++ rests) ++ rows_waiting whole) ≡ in_order (key_of_row s.table.keys) given
  pub room : now.next_group + length (rows_waiting whole) ≤ s.next_group + length given

-- All rows given are written.
pub record IsFilled {D : Type 0} (state : D → DiskState) (start now : Core D) (s : State) (job : Option ℕ) (files : List FileGroup) (given : List Row) : Type 0 where
  pub groups : List Group
  pub written : HasWritten state start now s job files groups
  pub each : AllByRecursion (IsGroupIn s.table.schema s.table.keys) groups
  pub hold : in_order (key_of_row s.table.keys) (rows groups) ≡ in_order (key_of_row s.table.keys) given
  pub full : IsTrue (are_full s.options.group_rows (in_order (λ (g : Group). g.key) groups))
  -- full groups, and then the rest of each key, keys rising
  pub fulls : List Group
  pub rests : List Group
  pub parts : groups ≡ fulls ++ rests
  pub sized : AllByRecursion (HasSize s.options.group_rows) fulls
  pub up_to : AllByRecursion (HasUpTo s.options.group_rows) rests
  pub rising : IsRising (group_keys rests)
  pub no_more : now.next_group ≤ s.next_group + length given

-- ---- refusals

-- Why the writing of rows stopped: the disk failed, or the file of one of the groups that come of the rows so far is too
-- much.
abbrev pub WhyStopped : {D : Type 0} → (D → DiskState) → Core D → Core D → State → (List Row → Type 0) → List Row → Refusal → Type 0
WhyStopped state start new s Part given Device = HasFailed (state start.vault.disk) (state new.vault.disk)
WhyStopped state start new s Part given Limit = (part : List Row) × Part part × IsNewGroup s given part × IsFileTooMuch s part
WhyStopped state start new s Part given Memory = Unit {0}
WhyStopped state start new s Part given e = ⊥

-- The writing of rows stopped: since its start the call wrote files under no more numbers than it was given rows.
pub record IsStopped {D : Type 0} (state : D → DiskState) (start new : Core D) (s : State) (Part : List Row → Type 0) (given : List Row) (e : Refusal) : Type 0 where
  pub wrote : WroteTo state start new s new.next_group
  pub no_more : new.next_group ≤ s.next_group + length given
  pub why : WhyStopped state start new s Part given e

-- these rows are as many as a full group has
abbrev pub IsWhole : State → List Row → Type 0
IsWhole s part = length part ≡ s.options.group_rows

-- these may be the rows of any group
abbrev pub IsAny : List Row → Type 0
IsAny part = Unit {0}

-- rows that fit the table, with keys that can partition
abbrev pub AreFine : State → List Row → Type 0
AreFine s given = AllByRecursion (λ (row : Row). IsTrue (fits_each s.table.schema row) × CanPartition s.table.keys (key_of_row s.table.keys row)) given

-- All rows given are written, as the groups that are returned. A Limit came of any group.
abbrev pub EndsWith : {D : Type 0} → (D → DiskState) → Core D → Core D → State → Option ℕ → List Row → Result (Vec (Rc CodeGroup Global) Global) Refusal → Type 0
EndsWith state start new s job given (Ok gs) = IsFilled state start new s job (handles_view gs.items) given
EndsWith state start new s job given (Err e) = IsStopped state start new s IsAny given e

-- All full groups of the rows given are written, as the groups that are returned, and what fills none waits. A Limit came of a full
-- group.
abbrev pub TakesWith : {D : Type 0} → (D → DiskState) → Core D → Core D → State → Option ℕ → List Row → Result (Vec (Rc CodeGroup Global) Global) Refusal → Type 0
TakesWith state start new s job given (Ok gs) = (rests : List KeyRows) → AreRests s.table.keys s.options.group_rows given rests → Filled state start new s job (handles_view gs.items) [] rests given
TakesWith state start new s job given (Err e) = IsStopped state start new s (IsWhole s) given e
