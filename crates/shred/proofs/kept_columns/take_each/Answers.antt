use Rattle.std.proofs.Common.{map, refl, sym, ◌∙◌, arith}
use Rattle.shred.specs.Kept.{kept_view}
use Rattle.shred.proofs.Growing.{grown_by_none, grown_more}
use Rattle.shred.proofs.kept_columns.take_each.Goals as goal

pub loop-i-init : goal.loop-i-init
loop-i-init c = record { grown = sym (grown_by_none (map kept_view c.args.columns.now)); marked = refl }

pub loop-i-preserved : goal.loop-i-preserved
loop-i-preserved c = record {
  grown = grown_more kept_view c.args.others.now c.loop-i.i c.index-others-i.result (map kept_view c.args.columns.now) (map kept_view c.loop-i.columns) _ (omega arith) c.index-others-i.is
      c.loop-i.invariant.grown c.in_ok-take_column.ensures.grown;
  marked = c.in_ok-take_column.ensures.marked ∙ c.loop-i.invariant.marked;
}
