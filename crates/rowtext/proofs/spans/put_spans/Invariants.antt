use Rattle.std.proofs.Common.{take, flat_map}
use Rattle.std.specs.List.{AllByRecursion}
use Rattle.rowtext.specs.inner.Pieces.{Grows}
use Rattle.rowtext.specs.inner.Spans.{span_tokens, IsSpan}
use Rattle.rowtext.proofs.spans.put_spans.Given as goal

-- the first members were added
abbrev pub invariant-loop-span : goal.invariant-loop-span
invariant-loop-span l = AllByRecursion IsSpan (take l.span-index l.spans) × Grows l.initial.pieces.items l.pieces.items (flat_map (span_tokens l.read) (take l.span-index l.spans))
