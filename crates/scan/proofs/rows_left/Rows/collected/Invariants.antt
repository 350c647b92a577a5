use Rattle.std.proofs.Common.{◌≡◌, ◌++◌, List}
use Rattle.schema.specs.Values.{ValueTrees}
use Rattle.schema.specs.Views.{rows_view}
use Rattle.scan.specs.Left.{RowsStand}
use Rattle.scan.proofs.rows_left.Rows.collected.Given as goal

-- the rows so far, and those that are left, are all
abbrev pub invariant-rows : goal.invariant-rows
invariant-rows l = (stood : List ValueTrees) → RowsStand l.initial.self stood → (rest : List ValueTrees) × (stood ≡ rows_view l.rows.items ++ rest) × RowsStand l.self rest
