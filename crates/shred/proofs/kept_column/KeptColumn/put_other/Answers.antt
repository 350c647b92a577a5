use Rattle.std.proofs.Common.{◌++◌, ap, ◌∙◌}
use Rattle.std.proofs.Common.{List}
use Rattle.schema.specs.Stripe.{Entry}
use Rattle.plain.specs.Flat.{flat_entries}
use Rattle.shred.specs.Slots.{entries_in}
use Rattle.shred.specs.Waiting.{waiting, waiting_marked}
use Rattle.shred.specs.inner.Roomy.{list_of}
use Rattle.shred.specs.inner.Packed.{unpacked_each, absent}
use Rattle.shred.proofs.Slotted.{put_kept, put_shown, put_last, no_run}
use Rattle.shred.proofs.kept_column.KeptColumn.put_other.Goals as goal

pub invariant_of-self-in-Ok : goal.invariant_of-self-in-Ok
invariant_of-self-in-Ok g c =
    let b = c.args.self.now in
    record {
      kept = (put_kept (list_of b.entries) _ (list_of b.bytes) (list_of c.put_bytes.new.bytes) c.args.repetition c.args.definition c.in_ok-slot.slot _ b.marked b.marked_bytes
          c.in_ok-slot.ensures.stands c.in-Ok.ensures.items b.kept).kept;
    }

pub returns-in-Ok-clause-put : goal.returns-in-Ok-clause-put
returns-in-Ok-clause-put g c =
    let b = c.args.self.now in
    let bs = list_of b.bytes in
    let new = list_of c.put_bytes.new.bytes in
    let put = c.in_ok-slot.ensures.stands in
    let kept = put_kept (list_of b.entries) _ bs new c.args.repetition c.args.definition c.in_ok-slot.slot _ b.marked b.marked_bytes put c.in-Ok.ensures.items b.kept in
    let others = entries_in bs (unpacked_each (list_of b.entries)) in
    put_last (flat_entries (waiting b.plain)) others _ (absent b.run) _ (no_run b.run c.requires)
    (kept.put ∙ ap (λ (t : List Entry). others ++ t) (put_shown bs new c.args.repetition c.args.definition c.in_ok-slot.slot _ put))

pub returns-in-Ok-clause-marked : goal.returns-in-Ok-clause-marked
returns-in-Ok-clause-marked g c =
    let b = c.args.self.now in
    let kept = put_kept (list_of b.entries) _ (list_of b.bytes) (list_of c.put_bytes.new.bytes) c.args.repetition c.args.definition c.in_ok-slot.slot _ b.marked b.marked_bytes
    c.in_ok-slot.ensures.stands c.in-Ok.ensures.items b.kept in
    ap (λ (t : List Entry). flat_entries (waiting_marked b.plain) ++ (t ++ absent b.marked_run)) kept.marked
