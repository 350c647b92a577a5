use Rattle.std.proofs.Common.{rules, ◌≡◌, refl}
use Rattle.shred.specs.inner.Roomy.{list_of}
use Rattle.shred.proofs.Slotted.{still_cut}
use Rattle.shred.specs.Waiting.{waiting, waiting_marked}
use Rattle.shred.proofs.kept_column.KeptColumn.cut.Goals as goal
use Rattle.shred.proofs.kept_column.KeptColumn.cut.Goals.{in-Some, in_default}

pub invariant_of-self : goal.invariant_of-self
invariant_of-self c =
    let b = c.args.self.now in
    record { kept = rw (c.truncate.ensures.items, c.truncate-2.ensures.items) (still_cut (list_of b.entries) (list_of b.bytes) b.marked b.marked_bytes b.kept) }

pub returns : goal.returns
returns c =
    let is : waiting c.match-self.self.1.0 ≡ waiting_marked c.args.self.now.plain = elim c.match-self.branch [ in-Some w ↦ rw (w.self-is, w.in-Some.is) w.cut.ensures.cut | in_default w ↦ search rules ] in
    record { cut = rw (c.truncate.ensures.items, c.truncate-2.ensures.items, is) refl }
