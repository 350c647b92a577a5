use Rattle.partition.proofs.Escapes.{escaped_is}
use Rattle.partition.proofs.escape.push_escaped.Goals as goal

pub returns-clause-ok : goal.returns-clause-ok
returns-clause-ok c = rw (c.percent_encode.ensures.text, escaped_is c.args.text.now) at c.in_ok-append_to.ensures.ok
