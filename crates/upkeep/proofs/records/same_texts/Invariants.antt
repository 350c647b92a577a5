use Rattle.std.proofs.Common.{◌≡◌, drop, map}
use Rattle.upkeep.proofs.records.same_texts.Given as goal

abbrev pub invariant-loop-i : goal.invariant-loop-i
invariant-loop-i l = record {
  whole : map (λ s. s.items) (drop l.i l.a) ≡ map (λ s. s.items) (drop l.i l.b) → map (λ s. s.items) l.a ≡ map (λ s. s.items) l.b;
  left : map (λ s. s.items) l.a ≡ map (λ s. s.items) l.b → map (λ s. s.items) (drop l.i l.a) ≡ map (λ s. s.items) (drop l.i l.b);
}
