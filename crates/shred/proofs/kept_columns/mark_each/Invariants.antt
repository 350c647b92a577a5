use Rattle.shred.specs.Kept.{kept_view, marked_view}
use Rattle.shred.proofs.OneByOne.{IsChanged}
use Rattle.shred.proofs.kept_columns.mark_each.Given as goal

abbrev pub invariant-loop-i : goal.invariant-loop-i
invariant-loop-i l = record {
  marked : IsChanged marked_view kept_view l.fn.columns l.columns l.i;
  same : IsChanged kept_view kept_view l.fn.columns l.columns l.i;
}
