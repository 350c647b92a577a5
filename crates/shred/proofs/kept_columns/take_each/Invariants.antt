use Rattle.std.proofs.Common.{◌≡◌, map, take}
use Rattle.shred.specs.Kept.{kept_view, marked_view}
use Rattle.shred.specs.inner.Growing.{grown}
use Rattle.shred.proofs.kept_columns.take_each.Given as goal

-- the columns so far are longer
abbrev pub invariant-loop-i : goal.invariant-loop-i
invariant-loop-i l = record {
  grown : map kept_view l.columns ≡ grown (map kept_view l.fn.columns) (map kept_view (take l.i l.others));
  marked : map marked_view l.columns ≡ map marked_view l.fn.columns;
}
