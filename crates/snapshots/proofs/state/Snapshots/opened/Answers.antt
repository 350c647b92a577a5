use Rattle.std.proofs.Common.{List, sym, subst}
use Rattle.std.specs.Rc.{rc_value}
use Rattle.manifest.specs.Groups.{groups_in}
use Rattle.snapshots.specs.inner.Held.{Seen, work_in}
use Rattle.snapshots.specs.inner.Spells.{others_in}
use Rattle.snapshots.specs.inner.Kept.{Keeps}
use Rattle.snapshots.proofs.Times.{keeps_opened}
use Rattle.snapshots.proofs.state.Snapshots.opened.Goals as goal

pub with_cursors-requires : goal.with_cursors-requires
with_cursors-requires c = subst (λ (cs : List Seen). Keeps (groups_in c.args.self.now.current) (rc_value c.args.self.now.numbered) c.args.self.now.time cs (work_in (rc_value c.args.self.now.jobs).items) (others_in c.args.self.now.others)) (sym c.in_ok-cursors.ensures.first) (keeps_opened c.args.self.now.kept c.args.number)
