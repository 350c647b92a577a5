use Rattle.disk.proofs.Texts.{folder-on_the_way, further-on_the_way}
use Rattle.disk.proofs.paths.way_up.Goals as goal

pub returns-clause-first : goal.returns-clause-first
returns-clause-first c = folder-on_the_way

pub returns-clause-further : goal.returns-clause-further
returns-clause-further c = further-on_the_way
