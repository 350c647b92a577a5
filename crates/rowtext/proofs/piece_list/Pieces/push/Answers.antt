use Rattle.std.proofs.Common.{◌∷◌, [], ◌++◌, ap, ◌∙◌, arith}
use Rattle.rowtext.specs.inner.PieceLists.{PieceList}
use Rattle.rowtext.proofs.PieceLists.{few_more}
use Rattle.rowtext.proofs.piece_list.Pieces.push.Goals as goal

pub returns-then-self-lt-FEW : goal.returns-then-self-lt-FEW
returns-then-self-lt-FEW c =
    few_more c.self.inside.count c.self.inside.few c.self.inside.many.items c.args.piece (omega arith) (omega arith) ∙ ap (λ (v : PieceList). v.items ++ c.args.piece ∷ []) c.self.view_is
