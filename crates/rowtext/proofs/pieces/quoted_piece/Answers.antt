use Rattle.std.proofs.lemmas.Str.{is_utf8-from_IsUtf8}
use Rattle.schema.proofs.Texts.{all_bytes}
use Rattle.rowtext.proofs.pieces.quoted_piece.Goals as goal

pub returns-clause-text : goal.returns-clause-text
returns-clause-text c = (all_bytes c.args.text.now c.type_inv.text, is_utf8-from_IsUtf8 c.args.text.now c.utf8.text)
