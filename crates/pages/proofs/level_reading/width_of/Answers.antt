use Rattle.std.proofs.Common.{◌-◌, arith, refl}
use Rattle.std.specs.Int.Count.{count_leading_zeros}
use Rattle.pages.proofs.Sections.{digits}
use Rattle.pages.proofs.level_reading.width_of.Goals as goal

pub returns-clause-holds : goal.returns-clause-holds
returns-clause-holds c = (digits c.args.level 32 (32 - count_leading_zeros 32 c.args.level) c.requires (omega arith) refl).0

pub returns-clause-least : goal.returns-clause-least
returns-clause-least c = (digits c.args.level 32 (32 - count_leading_zeros 32 c.args.level) c.requires (omega arith) refl).1
