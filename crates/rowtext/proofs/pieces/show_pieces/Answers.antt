use Rattle.std.proofs.Common.{◌∙◌}
use Rattle.rowtext.proofs.PieceShowing.{piece_shown}
use Rattle.rowtext.proofs.pieces.show_pieces.Goals as goal

pub loop-piece-preserved : goal.loop-piece-preserved
loop-piece-preserved g c =
    let S = g.K.RowSink.shows in
    let l = c.loop-piece in
    record {
      shown = piece_shown (S c.args.sink.now) (S l.sink) (S c.show_piece.new.sink) c.args.pieces.now l.piece-index _ c.loop-piece-test.true l.invariant.shown c.in_ok-show_piece.ensures.shown;
      base = c.show_piece.ensures.base_stays ∙ l.invariant.base;
    }
