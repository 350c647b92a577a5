use Rattle.std.proofs.Common.{arith, ◌≡◌, true}
use Rattle.schema.specs.Views.{leaf_type_view}
use Rattle.rowtext.specs.declared.pieces.Piece.TheVariants.{Digits}
use Rattle.rowtext.specs.inner.LowerDigits.{bytes_of_pairs}
use Rattle.rowtext.proofs.DigitRuns.{digits_shown}
use Rattle.rowtext.proofs.LinePieces.{one_more}
use Rattle.rowtext.proofs.leaf_lines.put_digits.Goals as goal

pub returns : goal.returns
returns c =
    let t = leaf_type_view c.args.leaf_type.now in
    let old = c.args.pieces.now.items in
    let held : c.are_digits.result ≡ true = grind (arith, c.if-not-are_digits.false) in
    let d = c.are_digits.ensures held in
    let b = bytes_of_pairs c.args.digits.now in
    let said = digits_shown t c.args.digits.now b c.requires d.1 d.0 in
    (b, (said.0, (said.1, one_more old c.push.new.self.items (Digits c.args.digits) c.in_ok-push.ensures)))
