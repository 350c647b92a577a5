use Rattle.std.proofs.Common.{sym, ap, subst, ◌∙◌}
use Rattle.rowtext.specs.Reader.{IsRowAs}
use Rattle.rowtext.specs.inner.Pieces.{tokens_of}
use Rattle.rowtext.proofs.reader.row_at_once.Goals as goal

pub returns : goal.returns
returns c =
    let h = c.in_ok-put_pieces.ensures in
    subst (IsRowAs c.args.texts c.args.plan.now c.args.text.now) (sym (c.in_ok-row.ensures h.0 (ap tokens_of c.as_slice.ensures ∙ h.1.1))) h.1.0
