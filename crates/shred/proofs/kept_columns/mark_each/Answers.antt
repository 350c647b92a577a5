use Rattle.std.proofs.Common.{arith}
use Rattle.shred.specs.Kept.{kept_view, marked_view}
use Rattle.shred.proofs.OneByOne.{one_changed, all_changed}
use Rattle.shred.proofs.kept_columns.mark_each.Goals as goal

pub loop-i-preserved : goal.loop-i-preserved
loop-i-preserved c =
    let old = c.args.columns.now in
    let now = c.loop-i.columns in
    let i = c.loop-i.i in
    let x = c.index-columns-i.result in
    let y = c.mark.new.self in
    record {
      marked = one_changed marked_view kept_view old now i x y (omega arith) c.mark.ensures.marked c.loop-i.invariant.marked;
      same = one_changed kept_view kept_view old now i x y (omega arith) c.mark.ensures.same c.loop-i.invariant.same;
    }

pub returns : goal.returns
returns c =
    let old = c.args.columns.now in
    let now = c.loop-i.columns in
    record {
      marked = all_changed marked_view kept_view old now c.loop-i.i (omega arith) c.loop-i.invariant.marked;
      same = all_changed kept_view kept_view old now c.loop-i.i (omega arith) c.loop-i.invariant.same;
    }
