use Rattle.std.proofs.Common.{◌++◌, List, ap, ◌∙◌}
use Rattle.schema.specs.Stripe.{Entry}
use Rattle.plain.specs.Flat.{flat_entries}
use Rattle.shred.specs.Slots.{entries_in}
use Rattle.shred.specs.Waiting.{waiting, waiting_marked}
use Rattle.shred.specs.inner.Roomy.{list_of}
use Rattle.shred.specs.inner.Packed.{unpacked_each, absent}
use Rattle.shred.proofs.Slotted.{run_kept, run_shown, run_ended}
use Rattle.shred.proofs.kept_column.KeptColumn.keep_run.Goals as goal

pub invariant_of-self-2 : goal.invariant_of-self-2
invariant_of-self-2 c =
    let b = c.args.self.now in
    record { kept = (run_kept (list_of b.entries) _ (list_of b.bytes) b.run b.marked b.marked_bytes c.in_ok-push_run.ensures.items b.kept).kept }

pub returns-clause-same : goal.returns-clause-same
returns-clause-same c =
    let b = c.args.self.now in
    let kept = run_kept (list_of b.entries) _ (list_of b.bytes) b.run b.marked b.marked_bytes c.in_ok-push_run.ensures.items b.kept in
    let others = entries_in (list_of b.bytes) (unpacked_each (list_of b.entries)) in
    run_ended (flat_entries (waiting b.plain)) others _ (absent b.run) (absent c.empty-self.result) c.empty-self.ensures.empty (kept.put ∙ ap (λ (t : List Entry). others ++ t) (run_shown b.run))

pub returns-clause-marked : goal.returns-clause-marked
returns-clause-marked c =
    let b = c.args.self.now in
    let kept = run_kept (list_of b.entries) _ (list_of b.bytes) b.run b.marked b.marked_bytes c.in_ok-push_run.ensures.items b.kept in
    ap (λ (t : List Entry). flat_entries (waiting_marked b.plain) ++ (t ++ absent b.marked_run)) kept.marked
