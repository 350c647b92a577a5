use Rattle.std.proofs.Common.{ap, ◌∙◌}
use Rattle.schema.specs.Values.{bytes}
use Rattle.assemble.specs.Sinks.{single}
use Rattle.rowtext.specs.inner.Escapes.{unescape}
use Rattle.rowtext.proofs.Unescaping.{unescape-escape}
use Rattle.rowtext.proofs.cursor.Cursor.text.Goals as goal

pub returns : goal.returns
returns c =
    let read = c.in_ok-content.ensures in
    (read.0, (read.1.0.0, (ap (λ s. single (bytes s)) (ap unescape read.1.0.1 ∙ unescape-escape read.0), read.1.1)))
