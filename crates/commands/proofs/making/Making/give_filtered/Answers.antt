use Rattle.std.proofs.Common.{◌∙◌, sym, ap}
use Rattle.answers.specs.Making.{lent_text}
use Rattle.commands.specs.Calls.{as_asked}
use Rattle.commands.proofs.making.Making.give_filtered.Goals as goal

pub returns-in-None-clause-gives : goal.returns-in-None-clause-gives
returns-in-None-clause-gives g c = as_asked (sym c.filter_file.ensures ∙ ap lent_text c.in-None.is) c.give_files.ensures.gives
