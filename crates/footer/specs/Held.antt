-- The groups of a file, and the rows that they hold.
use Rattle.std.specs.Prelude.{◌≡◌, ℕ, List, [], ◌∷◌, ◌++◌}
use Rattle.schema.specs.Values.{ValueTrees}
use Rattle.schema.specs.Shape.{Fields}
use Rattle.metadata.specs.Records.{GroupMeta}
use Rattle.row_group.specs.Limits.{IsReadable}
use Rattle.footer.specs.File.{LiesHere}

-- the groups lie in this file, and have these rows, each group its own; no group goes beyond a limit
abbrev pub GroupsHold : List ℕ → Fields → List GroupMeta → List ValueTrees → Type 0
GroupsHold front fs [] rows = rows ≡ []
GroupsHold front fs (g ∷ gs) rows =
    (first : List ValueTrees) × (rest : List ValueTrees) × (rows ≡ first ++ rest)
    × LiesHere g × IsReadable front fs g first × GroupsHold front fs gs rest

-- the groups were accepted
abbrev pub AreAccepted : List ℕ → Fields → List GroupMeta → Type 0
AreAccepted front fs gs = (rows : List ValueTrees) × GroupsHold front fs gs rows

-- what a clause sees of groups that were accepted: the bytes before the footer, the schema, and the records of the groups
pub record FileGroups : Type 0 where
  pub front : List ℕ
  pub schema : Fields
  pub groups : List GroupMeta

-- the rows of these groups
abbrev pub hold_rows : FileGroups → List ValueTrees → Type 0
hold_rows file rows = GroupsHold file.front file.schema file.groups rows
