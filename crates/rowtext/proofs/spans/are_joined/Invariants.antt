use Rattle.std.proofs.Common.{drop}
use Rattle.rowtext.specs.inner.Spans.{AreJoined}
use Rattle.rowtext.proofs.spans.are_joined.Given as goal

-- if the spans that are left are joined, all are
abbrev pub invariant-loop-span : goal.invariant-loop-span
invariant-loop-span l = AreJoined l.at (drop l.span-index l.spans) l.fn.to → AreJoined l.fn.from l.spans l.fn.to
