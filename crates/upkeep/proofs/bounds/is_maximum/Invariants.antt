use Rattle.std.proofs.Common.{drop}
use Rattle.schema.specs.Orders.{IsAtMost}
use Rattle.schema.specs.Values.{view}
use Rattle.upkeep.proofs.Bounding.{Each}
use Rattle.upkeep.proofs.bounds.is_maximum.Given as goal

abbrev pub invariant-loop-entry : goal.invariant-loop-entry
invariant-loop-entry l = record {
  whole : Each (λ v. IsAtMost l.order v (view l.max)) (drop l.entry-index l.entries) → Each (λ v. IsAtMost l.order v (view l.max)) l.entries;
  left : Each (λ v. IsAtMost l.order v (view l.max)) l.entries → Each (λ v. IsAtMost l.order v (view l.max)) (drop l.entry-index l.entries);
}
