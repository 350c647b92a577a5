use Rattle.std.proofs.Common.{take}
use Rattle.commands.specs.inner.LineCuts.{HasNoFeed}
use Rattle.commands.proofs.line_cuts.line_length.Given as goal

-- none of the bytes so far is a line feed
abbrev pub invariant-loop-place : goal.invariant-loop-place
invariant-loop-place l = HasNoFeed (take l.place l.bytes)
