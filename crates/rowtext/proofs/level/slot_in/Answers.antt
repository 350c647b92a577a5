use Rattle.rowtext.specs.inner.Slots.{slot_view}
use Rattle.rowtext.specs.inner.Levels.{slots_in}
use Rattle.rowtext.proofs.Levels.{slot_after, none_after}
use Rattle.rowtext.proofs.level.slot_in.Goals as goal

pub returns-clause-some : goal.returns-clause-some
returns-clause-some c = slot_after c.slots_in.result.now (slots_in (slot_view c.args.group.now)) c.slots_in.ensures c.args.index c.slot_at.result c.slot_at.ensures.some c.slot_at.ensures.next

pub returns-clause-none : goal.returns-clause-none
returns-clause-none c = none_after c.slots_in.result.now (slots_in (slot_view c.args.group.now)) c.slots_in.ensures c.args.index c.slot_at.result c.slot_at.ensures.none
