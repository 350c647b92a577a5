-- Where nothing is known of places, all clauses on them hold.
use Rattle.std.proofs.Common.{◌≡◌, ◌⊎◌, inl, inr, ℕ, List, Result, Ok, Err, IfOk, IfErr, refl}
use Rattle.std.specs.Prelude.{Vec}
use Rattle.std.specs.declared.alloc.Global.{Global}
use Rattle.bits.specs.declared.refusal.Refusal.{Refusal}
use Rattle.bits.specs.declared.refusal.Refusal.TheVariants.{Device, Limit}
use Rattle.bits.specs.Refusals.{HasCause, RefusedOnly, RefusedMemoryOnly}
use Rattle.places.specs.FileEnds.{HaveOneFooter}
use Rattle.places.specs.Places.{knows_nothing, StaysKnown}
use Rattle.places.proofs.PlacesKept.{by_cause, stays_so}

one_of : (f : Refusal) → (f ≡ Device) ⊎ (f ≡ Limit) → ((f ≡ Device) × Unit {0}) ⊎ (f ≡ Limit)
one_of f (inl device) = inl (device, tt)
one_of f (inr limit) = inr limit

module _ {T : Type 0} where
  -- what is refused as Device or for memory, where all may be shut
  pub unknown : (result : Result T Refusal) → RefusedOnly (λ e. e ≡ Device) result → IfErr result (HasCause (λ f. (f ≡ Device) × Unit {0}))
  unknown (Ok x) which = tt
  unknown (Err e) which = by_cause (λ f. f ≡ Device) (λ f. (f ≡ Device) × Unit {0}) (λ f is. (is, tt)) e which

  -- then nothing changes
  pub unknown_still : (D : Type 0) (result : Result T Refusal) → RefusedOnly (λ e. e ≡ Device) result
      → IfErr result (λ e. HasCause (λ f. (f ≡ Device) × Unit {0}) e × StaysKnown (knows_nothing {D = D}) (knows_nothing {D = D}))
  unknown_still D (Ok x) which = tt
  unknown_still D (Err e) which = (by_cause (λ f. f ≡ Device) (λ f. (f ≡ Device) × Unit {0}) (λ f is. (is, tt)) e which, stays_so (knows_nothing {D = D}))

  -- the same of what may also be too long
  pub unknown_ends : (result : Result T Refusal) → RefusedOnly (λ e. (e ≡ Device) ⊎ (e ≡ Limit)) result → IfErr result (HasCause (λ f. ((f ≡ Device) × Unit {0}) ⊎ (f ≡ Limit)))
  unknown_ends (Ok x) which = tt
  unknown_ends (Err e) which = by_cause (λ f. (f ≡ Device) ⊎ (f ≡ Limit)) (λ f. ((f ≡ Device) × Unit {0}) ⊎ (f ≡ Limit)) one_of e which

  -- the same of what is refused for memory alone, and then nothing changes
  pub unknown_disk : (D : Type 0) (result : Result T Refusal) → RefusedMemoryOnly result
      → IfErr result (λ e. HasCause (λ f. (f ≡ Device) × Unit {0}) e × StaysKnown (knows_nothing {D = D}) (knows_nothing {D = D}))
  unknown_disk D (Ok x) memory = tt
  unknown_disk D (Err e) memory = (by_cause (λ f. ⊥) (λ f. (f ≡ Device) × Unit {0}) (λ f none. absurd none) e memory, stays_so (knows_nothing {D = D}))

-- whatever was read are the ends of something
pub any_ends : (result : Result (Vec ℕ Global) Refusal) → IfOk result (λ bytes. (file : List ℕ) × Unit {0} × ((bytes.items ≡ file) ⊎ HaveOneFooter file bytes.items))
any_ends (Ok bytes) = (bytes.items, tt, inl refl)
any_ends (Err e) = tt
