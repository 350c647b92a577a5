use Rattle.std.proofs.Common.{◌-◌, length}
use Rattle.thrift_compact.proofs.FieldsTaken.{Walking}
use Rattle.thrift_compact.proofs.taking.fields_taken_at.Given as goal

abbrev pub invariant-loop-at : goal.invariant-loop-at
invariant-loop-at g l = Walking g.T.TakesFields.step (g.T.TakesFields.shown l.fn.taker) (g.T.TakesFields.shown l.taker) l.bytes l.left l.at l.previous

abbrev pub decreases-loop-at : goal.decreases-loop-at
decreases-loop-at g l = length l.bytes - l.at
