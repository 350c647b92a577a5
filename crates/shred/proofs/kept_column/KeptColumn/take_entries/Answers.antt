use Rattle.std.proofs.Common.{◌+◌, ◌++◌, refl, List, length, drop, ap, ◌∙◌, arith}
use Rattle.std.proofs.lemmas.List.{length-drop}
use Rattle.schema.specs.Stripe.{Entry}
use Rattle.shred.specs.Kept.{kept_view}
use Rattle.shred.specs.Slots.{slot_size, entries_in}
use Rattle.shred.specs.inner.Packed.{unpacked_each}
use Rattle.shred.proofs.Slotted.{next_lent, total_left}
use Rattle.shred.proofs.kept_column.KeptColumn.take_entries.Goals as goal

pub loop-packed-preserved : goal.loop-packed-preserved
loop-packed-preserved c =
    let ps = c.args.entries.now in
    let i = c.loop-packed.packed-index in
    let e = c.entry_of-entry.result in
    let bs = c.loop-packed.rest.now in
    let rest = c.value_of.result.1.now in
    let after = c.value_of.ensures.rest in
    record {
      taken = ap (λ (t : List Entry). t ++ entries_in rest (unpacked_each (drop (i + 1) ps))) c.in_ok-put_copies.ensures.put
          ∙ next_lent (kept_view c.loop-packed.self) ps ps i _ e c.many-count.result _ bs rest refl c.loop-packed-test.true c.entry_of-entry.ensures c.many-count.ensures c.value_of.ensures.shown after
          ∙ c.loop-packed.invariant.taken;
      filled = omega (arith, total_left ps ps i _ e refl c.loop-packed-test.true c.entry_of-entry.ensures, c.loop-packed.invariant.filled, ap length after, length-drop (slot_size e.slot) bs);
      marked = c.in_ok-put_copies.ensures.marked ∙ c.loop-packed.invariant.marked;
    }
