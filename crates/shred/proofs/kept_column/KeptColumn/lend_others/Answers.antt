use Rattle.std.proofs.Common.{◌+◌, ◌++◌, List, length, map, drop, ap, ◌∙◌, arith}
use Rattle.std.proofs.lemmas.List.{length-drop}
use Rattle.schema.specs.Stripe.{Entry}
use Rattle.schema.specs.Borrowed.{entry_ref_view}
use Rattle.shred.specs.Slots.{slot_size, entries_in}
use Rattle.shred.specs.inner.Roomy.{list_of}
use Rattle.shred.specs.inner.Packed.{unpacked_each}
use Rattle.shred.proofs.Slotted.{next_lent, total_left}
use Rattle.shred.proofs.kept_column.KeptColumn.lend_others.Goals as goal

pub loop-packed-preserved : goal.loop-packed-preserved
loop-packed-preserved c =
    let ps = list_of c.args.self.now.entries in
    let i = c.loop-packed.packed-index in
    let e = c.entry_of-entry.result in
    let bs = c.loop-packed.rest.now in
    let rest = c.value_of.result.1.now in
    let same = c.as_slice-packed-items.ensures in
    let after = c.value_of.ensures.rest in
    record {
      lent = ap (λ (t : List Entry). t ++ entries_in rest (unpacked_each (drop (i + 1) ps))) c.in_ok-lend_copies.ensures.lent
          ∙ next_lent (map entry_ref_view c.loop-packed.entries.items) ps _ i _ e c.many-count.result _ bs rest same c.loop-packed-test.true c.entry_of-entry.ensures c.many-count.ensures c.value_of.ensures.shown after
          ∙ c.loop-packed.invariant.lent;
      filled = omega (arith, total_left ps _ i _ e same c.loop-packed-test.true c.entry_of-entry.ensures, c.loop-packed.invariant.filled, ap length after, length-drop (slot_size e.slot) bs);
    }
