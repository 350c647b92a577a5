use Rattle.std.proofs.Common.{List, [], subst}
use Rattle.assemble.specs.Sinks.{Token}
use Rattle.assemble.specs.inner.Building.{builder_shows}
use Rattle.rowtext.proofs.reader.row_of_pieces.Goals as goal

pub returns : goal.returns
returns c = λ values is. c.take_row.ensures.row values (subst (λ (ts : List Token). builder_shows c.show_pieces.new.sink ts) is (c.in_ok-show_pieces.ensures.shown [] c.in_ok-begin_row.ensures.empty))
