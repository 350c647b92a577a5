-- What a removal leaves of the groups of a table, and what comes in the place of each.
use Rattle.std.specs.Prelude.{◌≡◌, ◌≤◌, ◌+◌, ℕ, Bool, true, false, not, List, [], ◌∷◌, ◌++◌, map, filter, drop, length, Contains, None, Result, Ok, Err}
use Rattle.std.specs.List.{list_any, AllZip, AllByRecursion}
use Rattle.bits.specs.declared.refusal.Refusal.{Refusal}
use Rattle.bits.specs.declared.refusal.Refusal.TheVariants.{Limit, Device, Memory}
use Rattle.schema.specs.Keys.{row_without_keys}
use Rattle.schema.specs.Views.{key_view}
use Rattle.disk.specs.State.{State as DiskState}
use Rattle.vault.specs.Calls.{HasFailed}
use Rattle.filter.specs.Test.{Test}
use Rattle.filter.specs.Deciding.{satisfies as all_satisfied}
use Rattle.gather.specs.KeyBuffers.{HoldsRows}
use Rattle.manifest.specs.Groups.{Group as FileGroup, Root, root_of}
use Rattle.manifest.specs.Root.{stored_of}
use Rattle.planning.specs.Replaced.{Change, changes_view}
use Rattle.scan.specs.Absent.{CanHoldNone}
use Rattle.table_reads.specs.Counting.{LacksIn}
use Rattle.table.specs.Table.{Row, Key, Group, rows}
use Rattle.table.specs.Leading.{touched}
use Rattle.table.specs.Limits.{IsFileTooMuch}
use Rattle.table.specs.State.{State}
use Rattle.table_state.specs.declared.standing.Core.{Core}
use Rattle.table_changes.specs.declared.remaining.Remains.{Remains}
use Rattle.table_changes.specs.declared.removing.Removed.{Removed}
use Rattle.table_commits.specs.Acting.{WroteTo}
use Rattle.table_commits.specs.Filling.{HasWritten, written_group}

-- ---- one group

-- the rows that pass a test
abbrev pub those : (Row → Bool) → List Row → List Row
those test given = filter test given

-- the rows that do not pass a test
abbrev pub not_those : (Row → Bool) → List Row → List Row
not_those test given = filter (λ row. not (test row)) given

-- what was read of a group: how many rows satisfy, and, where one does, the others without their keys
pub record AreRemains (tests : List (List Test)) (root : Root) (f : FileGroup) (g : Group) (r : Remains) : Type 0 where
  pub number : r.number ≡ f.number
  pub key : key_view r.rest.key ≡ f.key
  pub gone : r.gone ≡ length (filter (all_satisfied tests) g.rows)
  pub rest : 1 ≤ r.gone → HoldsRows (stored_of root) (map (row_without_keys root.keys) (not_those (all_satisfied tests) g.rows)) r.rest

-- no file that the root can mean by one of its groups has a row that satisfies, where the group's part file is absent
abbrev pub HoldNoneIfAbsent : DiskState → List (List Test) → Root → Type 0
HoldNoneIfAbsent disk tests root = AllByRecursion (λ f. LacksIn disk root f → CanHoldNone tests root.keys root.schema f) root.groups

-- In the place of a group it stays itself, nothing comes, or a file of the rest of its rows comes.
pub data Outcome : Type 0 where
  stays : Outcome
  goes : Outcome
  comes : FileGroup → Group → Outcome

-- the files that stand in the place of a group's file
abbrev pub files_at : FileGroup → Outcome → List FileGroup
files_at f stays = f ∷ []
files_at f goes = []
files_at f (comes e h) = e ∷ []

-- the groups that stand in the place of a group
abbrev pub groups_at : Group → Outcome → List Group
groups_at g stays = g ∷ []
groups_at g goes = []
groups_at g (comes e h) = h ∷ []

-- the files that come by these outcomes, in their order
abbrev pub files_come : List Outcome → List FileGroup
files_come [] = []
files_come (stays ∷ os) = files_come os
files_come (goes ∷ os) = files_come os
files_come (comes e h ∷ os) = e ∷ files_come os

-- the groups that come by these outcomes, in their order
abbrev pub groups_come : List Outcome → List Group
groups_come [] = []
groups_come (stays ∷ os) = groups_come os
groups_come (goes ∷ os) = groups_come os
groups_come (comes e h ∷ os) = h ∷ groups_come os

-- the change that an outcome makes of a group of this number, if any
abbrev pub change_for : ℕ → Outcome → List Change
change_for n stays = []
change_for n goes = record { number = n; come = [] } ∷ []
change_for n (comes e h) = record { number = n; come = e ∷ [] } ∷ []

-- the changes that these outcomes make of the groups of these files
abbrev pub changes_for : List FileGroup → List Outcome → List Change
changes_for (f ∷ fs) (o ∷ os) = change_for f.number o ++ changes_for fs os
changes_for _ _ = []

-- what a removal of the rows that pass makes of a group
abbrev pub IsLeft : (Row → Bool) → Group → Outcome → Type 0
IsLeft test g stays = list_any test g.rows ≡ false
IsLeft test g goes = (list_any test g.rows ≡ true) × (not_those test g.rows ≡ [])
IsLeft test g (comes e h) = (list_any test g.rows ≡ true) × (h.rows ≡ not_those test g.rows) × (h.key ≡ g.key) × (1 ≤ length h.rows)

-- ---- one file

-- what comes of rows of this key that are left, under this number
abbrev pub IsOfRest : ℕ → Key → List Row → Outcome → Type 0
IsOfRest n key held stays = ⊥
IsOfRest n key held goes = held ≡ []
IsOfRest n key held (comes e h) = (h ≡ written_group n key held) × (1 ≤ length held)

-- The file of what is left of a group is written, where any row is, and its change is kept.
pub record HasPut {D : Type 0} (state : D → DiskState) (start old new : Core D) (s : State) (files : List FileGroup) (groups : List Group) (held : List Row) (r : Remains) (before after : Removed) : Type 0 where
  pub outcome : Outcome
  pub is : IsOfRest old.next_group (key_view r.rest.key) held outcome
  pub written : HasWritten state start new s None (files ++ files_come (outcome ∷ [])) (groups ++ groups_come (outcome ∷ []))
  pub changed : changes_view after.changes.items ≡ changes_view before.changes.items ++ change_for r.number outcome
  pub counted : after.count ≡ before.count + r.gone
  pub rises : new.next_group ≤ old.next_group + 1

-- why the file of what is left of a group is not written: the disk failed, or the file is too much
abbrev pub WhyNotPut : {D : Type 0} → (D → DiskState) → Core D → Core D → State → List Row → Refusal → Type 0
WhyNotPut state start new s held Device = HasFailed (state start.vault.disk) (state new.vault.disk)
WhyNotPut state start new s held Limit = IsFileTooMuch s held
WhyNotPut state start new s held Memory = Unit {0}
WhyNotPut state start new s held e = ⊥

-- The file of what is left of a group is written and its change kept; or that is refused, and at most one number is used up.
abbrev pub Puts : {D T : Type 0} → (D → DiskState) → Core D → Core D → Core D → State → List FileGroup → List Group → List Row → Remains → Removed → Removed → Result T Refusal → Type 0
Puts state start old new s files groups held r before after (Ok x) = HasPut state start old new s files groups held r before after
Puts state start old new s files groups held r before after (Err e) = WroteTo state start new s new.next_group × (new.next_group ≤ old.next_group + 1) × WhyNotPut state start new s held e

-- ---- so far

-- Since its start a removal of the rows that pass came to a place of the table's groups: what comes in the place of each
-- group before it, and how many rows went.
pub record HasReplaced {D : Type 0} (state : D → DiskState) (start now : Core D) (s : State) (test : Row → Bool) (place : ℕ) (removed : Removed) : Type 0 where
  pub files : List FileGroup
  pub groups : List Group
  pub outcomes : List Outcome
  pub files_are : (root_of now.manifest).groups ≡ files ++ drop place (root_of now.manifest).groups
  pub groups_are : s.table.groups ≡ groups ++ drop place s.table.groups
  pub as_many : length files ≡ length outcomes
  pub left : AllZip (IsLeft test) groups outcomes
  pub changes_are : changes_view removed.changes.items ≡ changes_for files outcomes
  pub written : HasWritten state start now s None (files_come outcomes) (groups_come outcomes)
  pub counted : removed.count + length (filter test (rows (drop place s.table.groups))) ≡ length (filter test (rows s.table.groups))
  pub room : now.next_group + length (rows (touched test (drop place s.table.groups))) ≤ s.next_group + length (rows (touched test s.table.groups))

-- Why a removal stopped: the disk failed, or the file of what is left of some group is too much.
abbrev pub WhyHalted : {D : Type 0} → (D → DiskState) → Core D → Core D → State → (Row → Bool) → Refusal → Type 0
WhyHalted state start new s test Device = HasFailed (state start.vault.disk) (state new.vault.disk)
WhyHalted state start new s test Limit = (g : Group) × Contains (touched test s.table.groups) g × IsFileTooMuch s (not_those test g.rows)
WhyHalted state start new s test Memory = Unit {0}
WhyHalted state start new s test e = ⊥

-- A removal stopped: since its start it wrote files under no more numbers than there are rows in groups of which some row goes.
pub record IsHalted {D : Type 0} (state : D → DiskState) (start new : Core D) (s : State) (test : Row → Bool) (e : Refusal) : Type 0 where
  pub wrote : WroteTo state start new s new.next_group
  pub no_more : new.next_group ≤ s.next_group + length (rows (touched test s.table.groups))
  pub why : WhyHalted state start new s test e

-- A removal came to this place of the table's groups, or stopped.
abbrev pub Replaces : {D T : Type 0} → (D → DiskState) → Core D → Core D → State → (Row → Bool) → ℕ → Removed → Result T Refusal → Type 0
Replaces state start new s test place removed (Ok x) = HasReplaced state start new s test place removed
Replaces state start new s test place removed (Err e) = IsHalted state start new s test e

-- A removal came to the end of the table's groups, or stopped.
abbrev pub ReplacesAll : {D : Type 0} → (D → DiskState) → Core D → Core D → State → (Row → Bool) → Result Removed Refusal → Type 0
ReplacesAll state start new s test (Ok removed) = HasReplaced state start new s test (length s.table.groups) removed
ReplacesAll state start new s test (Err e) = IsHalted state start new s test e
