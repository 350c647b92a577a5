use Rattle.std.proofs.Common.{arith}
use Rattle.shred.specs.Kept.{kept_view, marked_view}
use Rattle.shred.proofs.OneByOne.{one_changed, all_changed}
use Rattle.shred.proofs.kept_columns.cut_each.Goals as goal

pub loop-i-preserved : goal.loop-i-preserved
loop-i-preserved c = one_changed kept_view marked_view c.args.columns.now c.loop-i.columns c.loop-i.i c.index-columns-i.result c.cut.new.self (omega arith) c.cut.ensures.cut c.loop-i.invariant

pub returns : goal.returns
returns c = record { cut = all_changed kept_view marked_view c.args.columns.now c.loop-i.columns c.loop-i.i (omega arith) c.loop-i.invariant }
