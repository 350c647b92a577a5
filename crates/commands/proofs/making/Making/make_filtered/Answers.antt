use Rattle.std.proofs.Common.{◌∙◌, sym, ap}
use Rattle.answers.specs.Making.{lent_text}
use Rattle.commands.specs.Calls.{as_asked}
use Rattle.commands.proofs.making.Making.make_filtered.Goals as goal

pub returns-in-None-clause-comes : goal.returns-in-None-clause-comes
returns-in-None-clause-comes g c = as_asked (sym c.filter_file.ensures ∙ ap lent_text c.in-None.is) c.make.ensures.comes
