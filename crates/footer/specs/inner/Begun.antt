-- The groups that are begun one after the other.
use Rattle.std.specs.Prelude.{◌≡◌, List, [], ◌++◌, Option, Some, None, Result, Ok, Err}
use Rattle.bits.specs.declared.refusal.Refusal.{Refusal}
use Rattle.bits.specs.declared.refusal.Refusal.TheVariants.{Memory}
use Rattle.schema.specs.Values.{ValueTrees}
use Rattle.row_group.specs.Left.{rows_stand as rows_of_group_stand}
use Rattle.row_group.specs.declared.rows.Rows.{Rows as GroupRows}
use Rattle.footer.specs.Held.{FileGroups, hold_rows}

-- of rows of the groups the first ones are those of the group that is begun, and the rest those of the others
abbrev pub SplitsOff : FileGroups → FileGroups → GroupRows → Type 0
SplitsOff old new group =
    (rows : List ValueTrees) → hold_rows old rows
    → (first : List ValueTrees) × (rest : List ValueTrees) × (rows ≡ first ++ rest) × rows_of_group_stand group first × hold_rows new rest

-- the next group is begun, or there is none
abbrev pub BeginsNext : FileGroups → FileGroups → Result (Option GroupRows) Refusal → Type 0
BeginsNext old new (Ok (Some group)) = SplitsOff old new group
BeginsNext old new (Ok None) = (rows : List ValueTrees) → hold_rows old rows → (rows ≡ []) × hold_rows new []
BeginsNext old new (Err e) = e ≡ Memory
