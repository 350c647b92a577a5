-- What a report is refused for.
use Rattle.std.proofs.Common.{◌≡◌, ◌⊎◌, inl, inr, ℕ, List, Result, Ok, Err}
use Rattle.std.specs.Prelude.{IfErr}
use Rattle.bits.specs.declared.refusal.Refusal.{Refusal}
use Rattle.bits.specs.declared.refusal.Refusal.TheVariants.{Memory, Device}
use Rattle.bits.specs.Refusals.{HasCause}
use Rattle.footer.specs.Faults.{HasFooterFault}

by_output : (bytes : List ℕ) (e : Refusal) → HasCause (λ x. x ≡ Device) e → (e ≡ Device) ⊎ HasFooterFault bytes e
by_output bytes Memory h = inr tt
by_output bytes e h = inl h

-- the output cannot be written, or there is no memory
pub is_of_output : {X : Type 0} (bytes : List ℕ) (r : Result X Refusal) → IfErr r (HasCause (λ x. x ≡ Device)) → IfErr r (λ e. (e ≡ Device) ⊎ HasFooterFault bytes e)
is_of_output bytes (Ok x) h = tt
is_of_output bytes (Err e) h = by_output bytes e h
