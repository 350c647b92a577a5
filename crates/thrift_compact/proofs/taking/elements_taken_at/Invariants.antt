use Rattle.thrift_compact.specs.View.{code_of}
use Rattle.thrift_compact.proofs.ElementsTaken.{Walking}
use Rattle.thrift_compact.proofs.taking.elements_taken_at.Given as goal

abbrev pub invariant-loop : goal.invariant-loop
invariant-loop g l = Walking g.T.TakesElements.step (g.T.TakesElements.shown l.fn.taker) (g.T.TakesElements.shown l.taker) l.bytes (code_of l.kind) l.left l.size l.counter l.at
