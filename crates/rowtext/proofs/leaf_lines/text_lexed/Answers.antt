use Rattle.std.proofs.Common.{subst}
use Rattle.std.specs.Prelude.{IfSome}
use Rattle.schema.specs.Views.{leaf_type_view}
use Rattle.rowtext.specs.inner.Pieces.{IsTextLexed}
use Rattle.rowtext.proofs.LeafLines.{text_line}
use Rattle.rowtext.proofs.leaf_lines.text_lexed.Goals as goal

pub returns : goal.returns
returns c =
    let old = c.args.line.now in
    let new = c.text_in_any_form.new.self in
    let read = subst (λ found. IfSome found (IsTextLexed old new)) c.in-Some.is c.in_ok-piece.ensures in
    text_line (leaf_type_view c.args.leaf_type.now) old new c.in-Some.piece c.args.pieces.now.items c.push.new.self.items c.requires read c.in_ok-push.ensures
