use Rattle.std.proofs.Common.{◌∷◌, [], ◌++◌, ap, ◌∙◌}
use Rattle.schema.specs.Values.{bytes}
use Rattle.schema.specs.Views.{leaf_type_view}
use Rattle.rowtext.specs.inner.Pieces.{tokens_of}
use Rattle.rowtext.proofs.ShownLeaves.{string_shown}
use Rattle.rowtext.proofs.LinePieces.{one_more, string_read}
use Rattle.rowtext.proofs.TextLeaves.{text_read}
use Rattle.rowtext.proofs.leaf_lines.text_printed.Goals as goal

pub returns : goal.returns
returns c =
    let t = leaf_type_view c.args.leaf_type.now in
    let old = c.args.pieces.now.items in
    let read = c.in-Some.ensures in
    let s = read.0 in
    let said = string_shown t s (bytes s) (text_read t s c.requires read.1.0.0 read.1.0.1) in
    let grown = one_more old c.push.new.self.items c.in-Some.piece c.in_ok-push.ensures ∙ ap (λ k. tokens_of old ++ k ∷ []) read.1.1.0 in
    string_read t s c.args.line.now c.text.new.self old c.push.new.self.items read.1.1.1 (s, (said.0, (said.1, grown)))
