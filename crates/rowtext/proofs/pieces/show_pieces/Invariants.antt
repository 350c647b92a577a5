use Rattle.std.proofs.Common.{◌≡◌, take}
use Rattle.assemble.specs.Sinks.{Adds}
use Rattle.rowtext.specs.inner.Pieces.{tokens_of}
use Rattle.rowtext.proofs.pieces.show_pieces.Given as goal

-- the first pieces are shown
abbrev pub invariant-loop-piece : goal.invariant-loop-piece
invariant-loop-piece g l = record { shown : Adds (g.K.RowSink.shows l.initial.sink) (g.K.RowSink.shows l.sink) (tokens_of (take l.piece-index l.pieces)); base : g.K.RowSink.base l.sink ≡ g.K.RowSink.base l.initial.sink }
