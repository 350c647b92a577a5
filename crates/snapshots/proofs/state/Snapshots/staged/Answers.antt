use Rattle.std.proofs.Common.{List, refl, sym, ◌∙◌, subst}
use Rattle.std.specs.Rc.{rc_value}
use Rattle.manifest.specs.Groups.{groups_in}
use Rattle.snapshots.specs.inner.Found.{file_in}
use Rattle.snapshots.specs.inner.Held.{seen_in, work_in}
use Rattle.snapshots.specs.inner.Spells.{Other, others_in}
use Rattle.snapshots.specs.inner.Kept.{Keeps}
use Rattle.snapshots.proofs.Times.{keeps_staged}
use Rattle.snapshots.proofs.States.{staged_is, parts_same}
use Rattle.snapshots.proofs.state.Snapshots.staged.Goals as goal

pub with_others-requires : goal.with_others-requires
with_others-requires c = subst (λ (os : List Other). Keeps (groups_in c.args.self.now.current) (rc_value c.args.self.now.numbered) c.args.self.now.time (seen_in (rc_value c.args.self.now.cursors).items) (work_in (rc_value c.args.self.now.jobs).items) os) (sym c.in_ok-others.ensures.first) (keeps_staged c.args.self.now.kept (file_in c.args.group) c.args.job)

pub returns-clause-done : goal.returns-clause-done
returns-clause-done c = c.in_ok-next.ensures.state ∙ parts_same refl refl refl c.in_ok-others.ensures.first ∙ staged_is (groups_in c.args.self.now.current) (seen_in (rc_value c.args.self.now.cursors).items) (work_in (rc_value c.args.self.now.jobs).items) (others_in c.args.self.now.others) c.args.job (file_in c.args.group)
