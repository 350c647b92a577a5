use Rattle.std.proofs.Common.{◌≡◌, ◌≤◌, ℕ, length}
use Rattle.schema.specs.Shape.{Fields}
use Rattle.schema.specs.Stripe.{leaves_of}
use Rattle.schema.specs.Fronts.{first_fields, IsFront}
use Rattle.manifest.specs.inner.Reading.{HasFronts}
use Rattle.manifest.proofs.fronts.Fronts.width_of.Given as goal

abbrev pub invariant-loop-i : goal.invariant-loop-i
invariant-loop-i l = (fs : Fields) → HasFronts l.self fs → (n : ℕ) → n ≤ l.i → IsFront n fs → length (leaves_of (first_fields n fs)) ≡ l.leaves → ⊥
