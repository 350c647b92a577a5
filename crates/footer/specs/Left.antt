-- The rows that a file has, and those that it still has to give.
use Rattle.std.specs.Prelude.{◌≡◌, List, [], ◌++◌, Bool, true, false, Option, Some, None, Result, Ok, Err}
use Rattle.bits.specs.declared.refusal.Refusal.{Refusal}
use Rattle.bits.specs.declared.refusal.Refusal.TheVariants.{Memory}
use Rattle.schema.specs.Values.{ValueTrees}
use Rattle.assemble.specs.Sinks.{Token}
pub use Rattle.row_group.specs.Left.{TakesRow, TakesRowTo, ShowsFirst, with_refusal}
use Rattle.row_group.specs.Left.{rows_stand as rows_of_group_stand}
use Rattle.row_group.specs.declared.rows.Rows.{Rows as GroupRows}
pub use Rattle.footer.specs.Held.{GroupsHold}
use Rattle.footer.specs.declared.rows.Rows.{Rows}
use Rattle.footer.specs.declared.file_reader.FileReader.{FileReader}

-- the rows of an accepted file
abbrev pub rows_of_file : FileReader → List ValueTrees → Type 0
rows_of_file file rows = GroupsHold file.front file.schema file.groups rows

-- what is left of the group that was begun
abbrev pub rows_of_begun : Option GroupRows → List ValueTrees → Type 0
rows_of_begun None rows = rows ≡ []
rows_of_begun (Some group) rows = rows_of_group_stand group rows

-- what is left of the groups that are not begun
abbrev pub others_hold : Rows → List ValueTrees → Type 0
others_hold left rows = GroupsHold left.others.front left.others.schema left.others.groups rows

-- what is left: of the group that was begun, and then of all other groups
pub record rows_stand (left : Rows) (rows : List ValueTrees) : Type 0 where
  pub first : List ValueTrees
  pub rest : List ValueTrees
  pub joined : rows ≡ first ++ rest
  pub of_group : rows_of_begun left.group first
  pub of_others : others_hold left rest

-- the next row of the group that was begun is shown, or it has none left
abbrev pub TakesOfGroup : Rows → Rows → (List Token → Type 0) → (List Token → Type 0) → Result Bool Refusal → Type 0
TakesOfGroup old new from to (Ok true) = (rows : List ValueTrees) → rows_stand old rows → ShowsFirst (rows_stand new) from to rows
TakesOfGroup old new from to (Ok false) = (rows : List ValueTrees) → rows_stand old rows → others_hold new rows
TakesOfGroup old new from to (Err e) = (rows : List ValueTrees) → rows_stand old rows → e ≡ Memory

-- the next group is begun, or there is none
abbrev pub BeginsGroup : Rows → Rows → Result Bool Refusal → Type 0
BeginsGroup old new (Ok true) = (rows : List ValueTrees) → others_hold old rows → rows_stand new rows
BeginsGroup old new (Ok false) = (rows : List ValueTrees) → others_hold old rows → (rows ≡ []) × rows_stand new []
BeginsGroup old new (Err e) = (rows : List ValueTrees) → others_hold old rows → e ≡ Memory
