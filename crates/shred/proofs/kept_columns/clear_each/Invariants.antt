use Rattle.std.proofs.Common.{[]}
use Rattle.shred.specs.declared.kept_column.KeptColumn.{KeptColumn}
use Rattle.shred.specs.Kept.{kept_view}
use Rattle.shred.proofs.OneByOne.{IsChanged}
use Rattle.shred.proofs.kept_columns.clear_each.Given as goal

abbrev pub invariant-loop-i : goal.invariant-loop-i
invariant-loop-i l = IsChanged kept_view (λ (x : KeptColumn). []) l.fn.columns l.columns l.i
