-- Which state a store stands in. The rows are on its disk.
use Rattle.std.specs.Prelude.{◌≡◌, ◌<◌, ◌≤◌, ◌^◌, ℕ, Bool, IsTrue, true, false, not, ◌==◌, List, [], ◌++◌, map, flat_map, length, reverse, take, drop, Some, None, Ok}
use Rattle.std.specs.List.{AllZip, AllByRecursion, list_all}
use Rattle.schema.specs.Shape.{Fields}
use Rattle.schema.specs.Views.{rows_view}
use Rattle.schema.specs.Fits.{RowsFit}
use Rattle.schema.specs.Stripe.{leaves_of}
use Rattle.schema.specs.Cutting.{is_among as is_number_among}
use Rattle.schema.specs.Keys.{KeyColumn, AreKeys, AreDistinct, AreRowsOf, key_of_row, without_keys}
use Rattle.disk.specs.State.{State as DiskState, content}
use Rattle.vault.specs.Views.{IsKept, root_path}
use Rattle.partition.specs.Folders.{CanPartition, part_path_of}
use Rattle.partition.specs.Splitting.{KeyRows, key_rows_view}
use Rattle.filter.specs.Test.{tests_in}
use Rattle.filter.specs.Terms.{tests_of}
use Rattle.filter.specs.Deciding.{satisfies as all_satisfied}
use Rattle.manifest.specs.Groups.{Group as FileGroup, Root, root_of, handles_view, numbers_of}
use Rattle.schema.specs.Fronts.{padded}
use Rattle.manifest.specs.Records.{IsGroup}
use Rattle.manifest.specs.Root.{RootMeans}
use Rattle.manifest.specs.Parts.{PartMeans}
use Rattle.manifest.specs.Laws.{RootsMeanOneTable}
use Rattle.footer.specs.Writing.{IsOutOfRange}
use Rattle.snapshots.specs.State.{State as Versions, File, Pins, is_among, names, file_of, open_at}
use Rattle.snapshots.specs.Views.{state_of}
use Rattle.table.specs.Table.{Row, Key, Group, Table, IsTable, rows, numbers}
use Rattle.table.specs.InOrder.{in_order}
use Rattle.table.specs.Cursors.{Cursor, Columns, batches_of, wanted_places}
use Rattle.table.specs.Deciding.{Filter as Terms}
use Rattle.table.specs.State.{State, Job, appending, rewriting, sources}
use Rattle.table.specs.Refusing.{IsReached}
use Rattle.table.specs.Stops.{MayHold}
use Rattle.table_state.specs.declared.standing.Core.{Core}
use Rattle.table_state.specs.declared.jobs.OpenJob.{OpenJob}
use Rattle.table_state.specs.declared.jobs.OpenCursor.{OpenCursor}
use Rattle.table_state.specs.declared.jobs.Work.{Work}
use Rattle.table_state.specs.declared.jobs.Work.TheVariants.{Append, Rewrite}
use Rattle.table_state.specs.declared.jobs.Appending.{Appending}
use Rattle.table_state.specs.declared.jobs.Rewriting.{Rewriting}
use Rattle.planning.specs.declared.change.Sources.{Sources}
use Rattle.schema.specs.declared.row.Row.{Row as CodeRow}
use Rattle.std.specs.declared.vec.Vec.{Vec}
use Rattle.std.specs.declared.alloc.Global.{Global}
use Rattle.table_state.specs.Paths.{PathsAreApart}
use Rattle.table_state.specs.OnDisk.{IsSoundFor}
use Rattle.table_state.specs.Buffers.{keys_in, IsRising}
use Rattle.table_state.specs.Spares.{HasRoom}

-- Whatever a stop leaves, the group's part file is there and has its rows, under a number that is not given again.
pub record IsStored (disk : DiskState) (keys : List KeyColumn) (schema : Fields) (count : ℕ) (file : FileGroup) (g : Group) : Type 0 where
  pub number : g.number ≡ file.number
  pub key : g.key ≡ file.key
  pub can : CanPartition keys file.key
  pub below : file.number < count
  pub bytes : List ℕ
  pub kept : IsKept disk (part_path_of keys file.key file.number) bytes
  pub means : PartMeans keys (without_keys keys schema) file bytes g.rows

-- whatever a stop leaves, the part file of each group is there and has its rows, under a number that is not given again
abbrev pub AreStored : DiskState → List KeyColumn → Fields → ℕ → List FileGroup → List Group → Type 0
AreStored disk keys schema count files groups = AllZip (IsStored disk keys schema count) files groups

-- These bytes describe the table, and its groups are stored: a swap of the root for them leads to it.
pub record IsReady (disk : DiskState) (count : ℕ) (root : Root) (bytes : List ℕ) (t : Table) : Type 0 where
  pub means : RootMeans bytes root
  pub schema : root.schema ≡ t.schema
  pub keys : root.keys ≡ t.keys
  pub next : root.next ≡ t.next
  pub stored : AreStored disk t.keys t.schema count root.groups t.groups

-- ---- jobs

-- the files that a job wrote: a rewrite writes none before its commit
abbrev pub written_of : Work → List FileGroup
written_of (Append a) = handles_view a.written.items
written_of (Rewrite r) = []

-- the files that open jobs wrote
abbrev pub written_in : List OpenJob → List FileGroup
written_in shown = flat_map (λ (j : OpenJob). written_of j.work) shown

-- (In a table of these key columns and this schema, of groups of so many rows; each number that a table had is one that
-- `had` tells, and each file has one below the count.)
module _ (disk : DiskState) (keys : List KeyColumn) (schema : Fields) (count size : ℕ) (had : ℕ → Bool) where
  -- groups that a job wrote: full ones, under numbers that no table had, whose files are held for the job
  pub record AreWritten (pins : Pins) (files : List FileGroup) (groups : List Group) : Type 0 where
    pub stored : AreStored disk keys schema count files groups
    pub described : AllByRecursion (IsGroup keys (without_keys keys schema)) files
    pub held : AllByRecursion (λ g. is_among pins.files (file_of g) ≡ true) files
    pub full : IsTrue (list_all (λ g. length g.rows == size) groups)
    pub fresh : IsTrue (list_all (λ g. not (had g.number)) groups)

  -- rows that came before a field was added are null in it
  abbrev pub completed : List Row → List Row
  completed waiting = map (padded (without_keys keys schema)) waiting

  -- rows that wait under their key, one at least, and fewer than a group has
  pub record AreWaiting (waiting : KeyRows) (given : List Row) : Type 0 where
    pub can : CanPartition keys waiting.key
    pub are : AreRowsOf keys waiting.key (completed waiting.rows) given
    pub fit : RowsFit schema given
    pub some : 1 ≤ length waiting.rows
    pub few : length waiting.rows < size

  -- what is staged is written or waits, each key's rows in order, keys rising; it has no sources
  pub record ShowsAppend (pins : Pins) (shown : Appending) (staged : List Row) : Type 0 where
    pub groups : List Group
    pub are_written : AreWritten pins (handles_view shown.written.items) groups
    pub waiting : List (List Row)
    pub are_waiting : AllZip AreWaiting (map key_rows_view shown.waiting.items) waiting
    pub rising : IsRising (keys_in (map key_rows_view shown.waiting.items))
    pub free : pins.sources ≡ []
    pub all : in_order (key_of_row keys) (rows groups ++ flat_map (λ rs. rs) waiting) ≡ in_order (key_of_row keys) staged

  -- a run's sources are groups of one key, of the version that the rewrite began with
  pub record ShowsRun (pins : Pins) (shown : Sources) (run : List Group) : Type 0 where
    pub sources : AreStored disk keys schema count (handles_view shown.groups.items) run
    pub described : AllByRecursion (IsGroup keys (without_keys keys schema)) (handles_view shown.groups.items)
    pub held : AllByRecursion (λ g. names pins.version (file_of g) ≡ true) (handles_view shown.groups.items)
    pub key : Key
    pub keyed : AllByRecursion (λ (g : Group). g.key ≡ key) run

  -- whole rows that were read of a group: those from before a field was added are null in it
  abbrev pub AreReadOf : Vec CodeRow Global → Group → Type 0
  AreReadOf read g = map (padded schema) (rows_view read.items) ≡ g.rows

  -- The rows of the first sources are read.
  pub record ShowsRewrite (pins : Pins) (shown : Rewriting) (runs : List (List Group)) (unread : List ℕ) : Type 0 where
    pub each : AllZip (ShowsRun pins) shown.runs.items runs
    pub as_many : length shown.read.items ≤ length (sources runs)
    pub read : AllZip AreReadOf shown.read.items (take (length shown.read.items) (sources runs))
    pub left : unread ≡ numbers (drop (length shown.read.items) (sources runs))
    -- no other group is held as a source
    pub pinned : AllByRecursion (λ n. is_number_among (numbers (sources runs)) n ≡ true) pins.sources

  -- the work of an open job is that of a job in the state: an append's staged rows, or a rewrite's runs and unread sources
  abbrev pub ShowsWork : Pins → Work → Job → Type 0
  ShowsWork pins (Append shown) (appending staged) = ShowsAppend pins shown staged
  ShowsWork pins (Rewrite shown) (rewriting runs unread) = ShowsRewrite pins shown runs unread
  ShowsWork pins _ _ = ⊥

  -- a job, by what is held for it
  pub record ShowsJob (held : List (ℕ × Pins)) (shown : OpenJob) (open_job : ℕ × Job) : Type 0 where
    pub number : shown.number ≡ open_job.0
    pub pins : Pins
    pub pinned : open_at shown.number held ≡ Some pins
    pub work : ShowsWork pins shown.work open_job.1

-- the jobs that are open in this state
abbrev pub ShowsJobs : DiskState → Versions → State → List OpenJob → List (ℕ × Job) → Type 0
ShowsJobs disk versions s shown jobs = AllZip (ShowsJob disk s.table.keys s.table.schema s.next_group s.options.group_rows s.had versions.jobs) shown jobs

-- ---- cursors

-- A cursor asks for columns of its table by a filter over its schema, and the table can have its keys and its groups.
pub record IsMade (keys : List KeyColumn) (shown : OpenCursor) : Type 0 where
  pub can : AreKeys keys (root_of shown.table).schema
  pub terms : Terms
  pub filter : tests_of (leaves_of (root_of shown.table).schema) terms ≡ Ok (tests_in shown.filter)
  pub columns : Columns
  pub places : shown.places.items ≡ wanted_places columns 0 (root_of shown.table).schema
  pub groups : AllByRecursion (IsGroup keys (without_keys keys (root_of shown.table).schema)) (root_of shown.table).groups

-- The groups that a cursor has not passed, of the table of its opening, give its batches; by the versions that are held.
pub record ShowsCursor (disk : DiskState) (held : List (ℕ × List FileGroup)) (keys : List KeyColumn) (count : ℕ) (shown : OpenCursor) (open_cursor : ℕ × Cursor) : Type 0 where
  pub number : shown.number ≡ open_cursor.0
  pub pinned : open_at shown.number held ≡ Some (root_of shown.table).groups
  pub keyed : (root_of shown.table).keys ≡ keys
  pub made : IsMade keys shown
  pub groups : List Group
  pub stored : AreStored disk keys (root_of shown.table).schema count (root_of shown.table).groups groups
  pub batches : open_cursor.1.batches ≡ batches_of (all_satisfied (tests_in shown.filter)) shown.places.items (drop shown.passed groups)
  pub ended : open_cursor.1.ended ≡ shown.ended
  pub over : shown.ended ≡ true → open_cursor.1.batches ≡ []

-- ---- the whole

-- the numbers under which things are open
abbrev pub numbers_at : {A : Type 0} → List (ℕ × A) → List ℕ
numbers_at xs = map (λ x. x.0) xs

-- the numbers of open jobs
abbrev pub job_numbers : List OpenJob → List ℕ
job_numbers shown = map (λ (j : OpenJob). j.number) shown

-- the numbers of open cursors
abbrev pub cursor_numbers : List OpenCursor → List ℕ
cursor_numbers shown = map (λ (c : OpenCursor). c.number) shown

-- Each job is open in the versions too, and no other is. (The versions have the newest first.)
abbrev pub TracksJobs : List (ℕ × Pins) → List OpenJob → Type 0
TracksJobs held shown = numbers_at held ≡ reverse (job_numbers shown)

-- Each cursor is open in the versions too, and no other is. (The versions have the newest first.)
abbrev pub TracksCursors : List (ℕ × List FileGroup) → List OpenCursor → Type 0
TracksCursors held shown = numbers_at held ≡ reverse (cursor_numbers shown)

-- numbers that a counter gave, each once
pub record AreNumbered (count : ℕ) (ns : List ℕ) : Type 0 where
  pub below : AllByRecursion (λ n. n < count) ns
  pub distinct : AreDistinct ns

-- each file that is tracked has a number below the count
abbrev pub AreFilesBelow : ℕ → Versions → Type 0
AreFilesBelow count versions = (f : File) → versions.files f ≡ true → f.number < count

-- each part file that the disk reads in a key folder is tracked
abbrev pub AreTracked : DiskState → List KeyColumn → Versions → Type 0
AreTracked disk keys versions = (key : Key) (number : ℕ) → CanPartition keys key → number < 2 ^ 64 → (bytes : List ℕ)
    → content disk.seen (part_path_of keys key number) ≡ Some bytes → versions.files (record { number = number; key = key }) ≡ true

-- Each part file that the disk reads in a key folder of the table is tracked, if no cleaning met a fault since one of the whole
-- dataset.
abbrev pub IsTracked : {D : Type 0} → DiskState → Core D → Type 0
IsTracked disk store = store.clean ≡ true → AreTracked disk (root_of store.manifest).keys (state_of store.snapshots)

-- An open store: its root is kept, and so are the files of all that is open. Nothing is in doubt, and no two jobs wrote
-- one number.
pub record ShowsOpen {D : Type 0} (disk : DiskState) (store : Core D) (s : State) : Type 0 where
  pub sure : s.doubtful ≡ None
  pub root : List ℕ
  pub root_kept : IsKept disk root_path root
  pub means : RootMeans root (root_of store.manifest)
  pub next : (root_of store.manifest).next ≡ s.table.next
  pub current : (state_of store.snapshots).current ≡ (root_of store.manifest).groups
  pub version : AreStored disk s.table.keys s.table.schema s.next_group (root_of store.manifest).groups s.table.groups
  pub jobs : ShowsJobs disk (state_of store.snapshots) s store.jobs.items s.jobs
  pub cursors : AllZip (ShowsCursor disk (state_of store.snapshots).cursors s.table.keys s.next_group) store.cursors.items s.cursors
  pub tracks_jobs : TracksJobs (state_of store.snapshots).jobs store.jobs.items
  pub tracks_cursors : TracksCursors (state_of store.snapshots).cursors store.cursors.items
  pub numbered_jobs : AreNumbered s.next_job (numbers_at s.jobs)
  pub numbered_cursors : AreNumbered s.next_cursor (numbers_at s.cursors)
  pub parted : AreDistinct (numbers_of (written_in store.jobs.items))
  pub files : AreFilesBelow s.next_group (state_of store.snapshots)
  pub tracked : IsTracked disk store

-- The store, by its fields and its disk, shows this state.
pub record Shows {D : Type 0} (state : D → DiskState) (store : Core D) (s : State) : Type 0 where
  pub valid : IsTable s.table
  -- laws of the layers below
  pub apart : PathsAreApart
  pub one_root : RootsMeanOneTable
  pub options : store.options ≡ s.options
  pub in_range : IsOutOfRange store.options → ⊥
  pub schema : (root_of store.manifest).schema ≡ s.table.schema
  pub keys : (root_of store.manifest).keys ≡ s.table.keys
  pub next_job : store.next_job ≡ s.next_job
  pub next_cursor : store.next_cursor ≡ s.next_cursor
  pub next_group : store.next_group ≡ s.next_group
  pub counted : s.next_group < 2 ^ 64
  pub closed : store.closed ≡ s.closed
  pub room : HasRoom s.table.keys (state store.vault.disk)
  -- whatever a stop leaves holds the table, or the one in doubt
  pub sound : IsSoundFor (MayHold s) (state store.vault.disk)
  pub shown : s.closed ≡ false → ShowsOpen (state store.vault.disk) store s

-- The store stands in this state, which some calls led to.
pub record Stands {D : Type 0} (state : D → DiskState) (store : Core D) (s : State) : Type 0 where
  pub reached : IsReached s
  pub shows : Shows state store s
