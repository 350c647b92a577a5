-- What a caller needs where one call follows another: causes, honesty, and a refusal that is passed on.
use Rattle.std.proofs.Common.{◌≡◌, ◌<◌, ◌≤◌, ◌-◌, ◌^◌, ◌⊎◌, ℕ, sym, subst, Result, Ok, Err}
use Rattle.std.specs.Prelude.{IsErrAnd}
use Rattle.bits.specs.declared.refusal.Refusal.{Refusal}
use Rattle.disk.specs.State.{State}
use Rattle.vault.specs.Calls.{HasFailed}

-- a failure since the first call, where the calls so far met none
pub failed_since : (old mid new : State) → mid.failures ≡ old.failures → HasFailed mid new → HasFailed old new
failed_since old mid new same failed = subst (λ (k : ℕ). (k < new.failures) ⊎ (2 ^ 64 - 1 ≤ k)) same failed

-- a refusal that `?` passes on
pub refused : {T : Type 0} (P : Result T Refusal → Type 0) (r : Result T Refusal) (e : Refusal) → IsErrAnd r (λ f. f ≡ e) → P (Err e) → P r
refused P (Ok x) e is holds = absurd is
refused P (Err f) e is holds = subst (λ (g : Refusal). P (Err g)) (sym is) holds
