use Rattle.std.proofs.Common.{refl, sym, subst}
use Rattle.answers.specs.Kept.{StaysOpened}
use Rattle.answers.proofs.Restyled.{restyled}
use Rattle.answers.proofs.kept_style.keep_style.Goals as goal

pub returns-then-not-keeps-clause-stands : goal.returns-then-not-keeps-clause-stands
returns-then-not-keeps-clause-stands g c = restyled g.D.Disk.state c.args.store.now c.args.store.now refl

pub returns-in-Ok-Some-clause-stands : goal.returns-in-Ok-Some-clause-stands
returns-in-Ok-Some-clause-stands g c = subst (StaysOpened g.D.Disk.state c.args.store.now) (sym c.set_style.ensures) (restyled g.D.Disk.state c.args.store.now _ refl)

pub returns-in-Err-Memory-clause-stands : goal.returns-in-Err-Memory-clause-stands
returns-in-Err-Memory-clause-stands g c = restyled g.D.Disk.state c.args.store.now c.args.store.now refl

pub returns-clause-stands : goal.returns-clause-stands
returns-clause-stands g c = restyled g.D.Disk.state c.args.store.now c.args.store.now refl
