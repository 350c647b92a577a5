use Rattle.std.proofs.Common.{◌≡◌, ◌++◌, take}
use Rattle.rowtext.proofs.piece_list.Pieces.extend_from_slice.Given as goal

abbrev pub invariant-loop-piece : goal.invariant-loop-piece
invariant-loop-piece l = l.self.items ≡ l.initial.self.items ++ take l.piece-index l.pieces
