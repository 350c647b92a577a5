use Rattle.std.proofs.Common.{refl}
use Rattle.rowtext.specs.inner.Lines.{rest_of}
use Rattle.rowtext.proofs.cursor.Cursor.skip_text.Goals as goal

pub returns-then-skip-clause-taken : goal.returns-then-skip-clause-taken
returns-then-skip-clause-taken c held = (rest_of c.skip.new.self, c.if-skip.ensures.taken refl, c.skip_blanks.ensures)
