use Rattle.std.proofs.Common.{◌≡◌, List, ◌++◌}
use Rattle.schema.specs.Values.{ValueTrees}
use Rattle.schema.specs.Views.{rows_view}
use Rattle.footer.specs.Left.{rows_stand}
use Rattle.footer.proofs.rows.Rows.collected.Given as goal

-- all rows that stood are those that were taken, and then those that stand
abbrev pub invariant-row : goal.invariant-row
invariant-row l = record {
  held : (all : List ValueTrees) → rows_stand l.fn.self all → (rest : List ValueTrees) × (all ≡ rows_view l.rows.items ++ rest) × rows_stand l.self rest;
}
