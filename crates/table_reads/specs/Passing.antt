-- Which groups a cursor passes, what it comes to, and how often it reads for them.
use Rattle.std.specs.Prelude.{◌≡◌, ◌≢◌, ◌≤◌, ◌<◌, ◌+◌, ◌-◌, ℕ, suc, Bool, if◌then◌else◌, ◌==◌, List, [], ◌∷◌, ◌++◌, drop, length}
use Rattle.std.specs.Prelude.{Option, Some, None, true, false, Result, Ok, Err}
use Rattle.std.specs.List.{slice_get}
use Rattle.bits.specs.declared.refusal.Refusal.{Refusal}
use Rattle.schema.specs.Shape.{Fields}
use Rattle.schema.specs.Keys.{KeyColumn}
use Rattle.disk.specs.State.{State as DiskState}
use Rattle.filter.specs.Test.{Test, tests_in}
use Rattle.filter.specs.Deciding.{satisfies as all_satisfied}
use Rattle.manifest.specs.Groups.{Group as FileGroup, root_of}
use Rattle.scan.specs.declared.group_rows.GroupRows.{GroupRows}
use Rattle.scan.specs.Absent.{CanHoldNone, MayLack}
use Rattle.scan.specs.Cost.{chunks_read}
use Rattle.scan.specs.Left.{rows_held}
use Rattle.scan.specs.Selected.{IsRuledOut}
use Rattle.snapshots.specs.State.{State as Versions, open_at}
use Rattle.snapshots.specs.Views.{state_of}
use Rattle.table.specs.Table.{Row, Group}
use Rattle.table.specs.declared.answer.Batch.{Batch as CodeBatch}
use Rattle.table.specs.declared.answer.Fetched.{Fetched}
use Rattle.table.specs.declared.answer.Fetched.TheVariants.{Batch as batch_answered, End}
use Rattle.table.specs.Cursors.{Batch, batches_of}
use Rattle.table_state.specs.declared.standing.Core.{Core}
use Rattle.table_state.specs.declared.jobs.OpenCursor.{OpenCursor}
use Rattle.table_reads.specs.Counting.{CanFilter, LacksIn}
use Rattle.table_reads.specs.declared.passing.Reached.{Reached}
use Rattle.table_state.specs.Lookups.{cursor_at}

-- ---- what it comes to

-- the rows of a group as a batch, where there are any
abbrev pub batches_with : List ℕ → List Row → List Batch
batches_with places [] = []
batches_with places (row ∷ rows) = record { places = places; rows = row ∷ rows } ∷ []

-- the batches of these groups from a place on
abbrev pub batches_from : OpenCursor → List Group → ℕ → List Batch
batches_from c groups from = batches_of (all_satisfied (tests_in c.filter)) c.places.items (drop from groups)

-- the rows that a cursor comes to: those that were read and accepted, of which there is one, or none
abbrev pub AreReached : Option GroupRows → List Row → Type 0
AreReached None rows = rows ≡ []
AreReached (Some g) rows = rows_held g rows × (rows ≢ [])

-- A cursor has passed so many groups. These rows are the next batch, and the others are those of the groups that are not passed
-- then; where there are no rows, none is left.
pub record Comes (c : OpenCursor) (groups : List Group) (passed : ℕ) (rows : List Row) : Type 0 where
  pub batches : batches_from c groups c.passed ≡ batches_with c.places.items rows ++ batches_from c groups passed
  pub none : rows ≡ [] → batches_from c groups passed ≡ []

-- a cursor that passed so many groups, and has answered its end or not
abbrev pub moved : ℕ → Bool → OpenCursor → OpenCursor
moved passed ended c = record c { passed = passed; ended = ended }

-- cursors of which the first of this number passed so many groups, and has answered its end or not
abbrev pub moved_at : ℕ → ℕ → Bool → List OpenCursor → List OpenCursor
moved_at n passed ended [] = []
moved_at n passed ended (c ∷ cs) = if c.number == n then moved passed ended c ∷ cs else c ∷ moved_at n passed ended cs

-- ---- how often it reads

-- (For rows that a filter satisfies, cut to the columns at these places, of a table with these keys and this schema.)
module _ (tests : List (List Test)) (keys : List KeyColumn) (fs : Fields) (places : List ℕ) where
  -- so many reads for a group: at most one for each chunk of a wanted or filtered column, none where it is ruled out
  pub record AreReads (g : FileGroup) (n : ℕ) : Type 0 where
    pub most : n ≤ chunks_read tests keys fs g places
    pub none : IsRuledOut tests keys g → n ≡ 0

  -- so many reads for these groups, each group's as many as are allowed for it
  abbrev pub AreReadsOf : List FileGroup → ℕ → Type 0
  AreReadsOf [] n = n ≡ 0
  AreReadsOf (g ∷ gs) n = (here : ℕ) × (rest : ℕ) × AreReads g here × AreReadsOf gs rest × (n ≡ here + rest)

  -- so many reads for the groups of a version from one place to another
  pub record AreReadsFrom (version : List FileGroup) (from to n : ℕ) : Type 0 where
    pub between : List FileGroup
    pub are : drop from version ≡ between ++ drop to version
    pub many : to ≡ from + length between
    pub reads : AreReadsOf between n

-- so many reads for the groups of a version from one place to another, by a cursor's filter and columns
abbrev pub ReadsFrom : OpenCursor → List FileGroup → ℕ → ℕ → ℕ → Type 0
ReadsFrom c version from to n = AreReadsFrom (tests_in c.filter) (root_of c.table).keys (root_of c.table).schema c.places.items version from to n

-- A cursor went on to a place: the disk was read at most so often.
pub record GoesTo (c : OpenCursor) (version : List FileGroup) (to : ℕ) (old new : DiskState) : Type 0 where
  pub count : ℕ
  pub most : ReadsFrom c version c.passed to count
  pub no_more : new.reads ≤ old.reads + count
  pub no_less : old.reads ≤ new.reads

-- A cursor went on to the group that it gives, or on which it is refused: the disk was read at most so often.
abbrev pub Goes : OpenCursor → List FileGroup → DiskState → DiskState → Result Reached Refusal → Type 0
Goes c version old new (Ok r) = GoesTo c version r.passed old new
Goes c version old new (Err e) = (to : ℕ) × GoesTo c version to old new

-- After a refusal the cursor stands where it was; else it is where it went to.
abbrev pub Went : {D T : Type 0} → (D → DiskState) → Core D → Core D → ℕ → OpenCursor → List FileGroup → Result T Refusal → Type 0
Went state old new n c version (Ok answer) = (d : OpenCursor) × (cursor_at n new.cursors.items ≡ Some d) × (d ≡ moved d.passed d.ended c) × GoesTo c version d.passed (state old.vault.disk) (state new.vault.disk)
Went state old new n c version (Err e) = (cursor_at n new.cursors.items ≡ Some c) × ((to : ℕ) × GoesTo c version to (state old.vault.disk) (state new.vault.disk))

-- One fetch, on any disk. The versions hold what they held. A cursor for which they hold a version goes on in it. For a cursor without
-- one, for a number without a cursor, and by a store that is closed, nothing is read.
pub record FetchReads {D T : Type 0} (state : D → DiskState) (old new : Core D) (n : ℕ) (result : Result T Refusal) : Type 0 where
  pub same : new.snapshots ≡ old.snapshots
  pub goes : (c : OpenCursor) (version : List FileGroup) → old.closed ≡ false → cursor_at n old.cursors.items ≡ Some c
      → open_at c.number (state_of old.snapshots).cursors ≡ Some version → Went state old new n c version result
  pub unheld : (c : OpenCursor) → cursor_at n old.cursors.items ≡ Some c → open_at c.number (state_of old.snapshots).cursors ≡ None
      → (state new.vault.disk).reads ≡ (state old.vault.disk).reads
  pub none : cursor_at n old.cursors.items ≡ None → (state new.vault.disk).reads ≡ (state old.vault.disk).reads
  pub shut : old.closed ≡ true → (state new.vault.disk).reads ≡ (state old.vault.disk).reads

-- ---- where part files are absent

-- The filter of a cursor is one over its table's schema, the table can have its keys, and the versions hold the table's groups for it.
pub record IsOpened (versions : Versions) (c : OpenCursor) : Type 0 where
  pub can : CanFilter (tests_in c.filter) (root_of c.table)
  pub held : open_at c.number versions.cursors ≡ Some (root_of c.table).groups

-- the group of a cursor's version at a place has no part file on the disk
abbrev pub LacksAt : DiskState → OpenCursor → ℕ → FileGroup → Type 0
LacksAt disk c place g = (slice_get (root_of c.table).groups place ≡ Some g) × LacksIn disk (root_of c.table) g

-- no file that the root can mean by the group has a row that satisfies the cursor's filter
abbrev pub MayPass : OpenCursor → FileGroup → Type 0
MayPass c g = CanHoldNone (tests_in c.filter) (root_of c.table).keys (root_of c.table).schema g

-- what may come of the group, whose part file is absent, by the cursor's filter and columns
abbrev pub MayComeOf : {A : Type 0} → OpenCursor → FileGroup → Option A → Type 0
MayComeOf c g rows = MayLack (tests_in c.filter) (root_of c.table).keys (root_of c.table).schema g c.places.items rows

-- A cursor passed groups up to a place, and came to rows of the last of them, or to its end. This says what holds of those whose part
-- file is absent.
pub record PassesAbsent {A : Type 0} (disk : DiskState) (c : OpenCursor) (to : ℕ) (rows : Option A) : Type 0 where
  -- no file of a group before the last can have a row that satisfies
  pub before : (place : ℕ) (g : FileGroup) → c.passed ≤ place → suc place < to → LacksAt disk c place g → MayPass c g
  -- no chunk is read for the rows of the last
  pub last : (place : ℕ) (g : FileGroup) → c.passed ≤ place → suc place ≡ to → LacksAt disk c place g → MayComeOf c g rows
  -- at its end the cursor has passed all groups
  pub end : rows ≡ None → (place : ℕ) (g : FileGroup) → c.passed ≤ place → LacksAt disk c place g → MayPass c g

-- the rows that a fetch answers, or its end
abbrev pub rows_fetched : Fetched → Option CodeBatch
rows_fetched End = None
rows_fetched (batch_answered b) = Some b

-- One fetch that was not refused, by a cursor that had not answered its end. Of the groups that it passed, it says what holds of those
-- whose part file is absent (`PassesAbsent`). What it answers has rows, or is the end.
abbrev pub FetchesAbsent : {D T A : Type 0} → (D → DiskState) → (T → Option A) → Core D → Core D → ℕ → Result T Refusal → Type 0
FetchesAbsent state rows old new n (Ok answer) = (state old.vault.disk).honest → (c : OpenCursor) → cursor_at n old.cursors.items ≡ Some c → c.ended ≡ false
    → IsOpened (state_of old.snapshots) c → (d : OpenCursor) × (cursor_at n new.cursors.items ≡ Some d) × PassesAbsent (state old.vault.disk) c d.passed (rows answer)
FetchesAbsent state rows old new n (Err e) = Unit {0}

-- ---- over a whole query

-- Fetches of a cursor, one after another, none of which was refused, from one cursor to another: each one's reads.
abbrev pub AreFetches : List FileGroup → OpenCursor → List ℕ → OpenCursor → Type 0
AreFetches version c [] d = d ≡ c
AreFetches version c (n ∷ ns) d = (passed : ℕ) × (ended : Bool) × (most : ℕ) × ReadsFrom c version c.passed passed most × (n ≤ most) × AreFetches version (moved passed ended c) ns d

-- the sum of numbers
abbrev pub sum_of : List ℕ → ℕ
sum_of [] = 0
sum_of (n ∷ ns) = n + sum_of ns

-- The fetches of a query together read no more than is allowed for each group between, once: no needed chunk is read twice.
abbrev pub QueriesReadOnce : Type 0
QueriesReadOnce = (version : List FileGroup) (c d : OpenCursor) (ns : List ℕ) → AreFetches version c ns d → (most : ℕ) × ReadsFrom c version c.passed d.passed most × (sum_of ns ≤ most)

-- A fetch that was not refused is the first of a query's fetches, where the others begin with the cursor that it leaves.
abbrev pub FetchesFollow : {D : Type 0} → (D → DiskState) → Type 0
FetchesFollow {D} state = (old new : Core D) (n : ℕ) (c d : OpenCursor) (version : List FileGroup) (answer : Fetched) (ns : List ℕ) → (first : Went {T = Fetched} state old new n c version (Ok answer)) → AreFetches version first.0 ns d
    → AreFetches version c (((state new.vault.disk).reads - (state old.vault.disk).reads) ∷ ns) d
