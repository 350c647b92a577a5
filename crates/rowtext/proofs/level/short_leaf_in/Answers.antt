use Rattle.rowtext.specs.declared.level.Leaf.{Leaf}
use Rattle.rowtext.specs.inner.Slots.{leaf_slot, slot_view}
use Rattle.rowtext.specs.inner.Levels.{slots_in}
use Rattle.rowtext.proofs.Levels.{leaf_after}
use Rattle.rowtext.proofs.level.short_leaf_in.Goals as goal

pub returns-clause-some : goal.returns-clause-some
returns-clause-some c = leaf_after c.slots_in.result.now (slots_in (slot_view c.args.group.now)) c.slots_in.ensures (λ (l : Leaf). leaf_slot l.key.now l.numbers l.is_text) c.args.index c.short_leaf_at.result c.short_leaf_at.ensures.some
