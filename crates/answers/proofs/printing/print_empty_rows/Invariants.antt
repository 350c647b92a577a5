use Rattle.std.proofs.Common.{◌≡◌, ◌≤◌, ℕ, Bool, List, Some}
use Rattle.std.specs.Io.KnownBytes.{Appends}
use Rattle.schema.specs.Values.{ValueTrees}
use Rattle.schema.specs.Shape.{no_fields}
use Rattle.scan.specs.Left.{rows_stand}
use Rattle.answers.specs.Querying.{row_lines}
use Rattle.answers.specs.inner.Gathering.{HavePassed}
use Rattle.answers.proofs.printing.print_empty_rows.Given as goal

-- the lines of the rows so far are written
abbrev pub invariant-loop-count : goal.invariant-loop-count
invariant-loop-count g l = record {
  prints : (texts : Bool) (all : List ValueTrees) → rows_stand l.fn.rows all
      → HavePassed (λ (rows : List ValueTrees). Appends (g.W.Write.contents l.fn.out) (g.W.Write.contents l.out) (row_lines texts no_fields rows)) (rows_stand l.rows) l.count all;
  within : (most : ℕ) → l.limit ≡ Some most → l.count ≤ most;
}
