-- Which files, and which groups of them, `decode` accepts.
use Rattle.std.specs.Prelude.{◌≡◌, ◌⊎◌, ℕ, ◌<◌, List, length, Contains, Option, Some, slice_get}
use Rattle.schema.specs.Values.{ValueTrees}
use Rattle.schema.specs.Shape.{Fields}
use Rattle.metadata.specs.Records.{GroupMeta}
use Rattle.row_group.specs.Limits.{IsReadable}
use Rattle.footer.specs.File.{LiesHere, FileMeans}
use Rattle.footer.specs.Faults.{IsOverLimit}
use Rattle.reports.specs.declared.inspect_report.Problem.{Problem}

-- the bytes are a file that means some rows, and goes beyond no limit
abbrev pub IsAccepted : List ℕ → Type 0
IsAccepted bytes = (fs : Fields) × (rows : List ValueTrees) × FileMeans bytes fs rows × (IsOverLimit bytes → ⊥)

-- a group lies in its file, has some rows, and goes beyond no limit
abbrev pub CanBeRead : List ℕ → Fields → GroupMeta → Type 0
CanBeRead front fs g = LiesHere g × ((rows : List ValueTrees) × IsReadable front fs g rows)

-- how many problems are named
abbrev pub most_problems : ℕ
most_problems = 100

-- a problem is of the group at this place
abbrev pub IsOfGroup : ℕ → Problem → Type 0
IsOfGroup k p = p.group ≡ Some k

-- the problems that came are of the group at this place
abbrev pub OnlyOfGroup : ℕ → List Problem → List Problem → Type 0
OnlyOfGroup k old new = (p : Problem) → Contains new p → Contains old p ⊎ IsOfGroup k p

-- the problems that were there are still there
abbrev pub KeepsProblems : List Problem → List Problem → Type 0
KeepsProblems old new = (p : Problem) → Contains old p → Contains new p

-- one of the problems is of the group at this place, unless there are as many as are named
abbrev pub NamesGroup : ℕ → List Problem → Type 0
NamesGroup k ps = length ps < most_problems → (p : Problem) × Contains ps p × IsOfGroup k p

-- a problem is of a group that cannot be read
abbrev pub IsOfUnread : List ℕ → Fields → List GroupMeta → Problem → Type 0
IsOfUnread front fs gs p = (k : ℕ) × (g : GroupMeta) × IsOfGroup k p × (slice_get gs k ≡ Some g) × (CanBeRead front fs g → ⊥)

-- the problems that came are of groups that cannot be read
abbrev pub OnlyOfUnread : List ℕ → Fields → List GroupMeta → List Problem → List Problem → Type 0
OnlyOfUnread front fs gs old new = (p : Problem) → Contains new p → Contains old p ⊎ IsOfUnread front fs gs p
