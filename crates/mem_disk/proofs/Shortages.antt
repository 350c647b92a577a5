-- Refused growths that are told as failures.
use Rattle.std.proofs.Common.{◌≡◌, ◌≢◌, ◌⊎◌, inl, inr, ⊎_elim, List, Result, Ok, Err, IsErrOf, refl, sym, ◌∙◌, subst}
use Rattle.disk.specs.declared.fault.Fault.{Fault}
use Rattle.disk.specs.declared.fault.Fault.TheVariants.{Absent, Exists, Failed, Memory}
use Rattle.mem_disk.specs.declared.call.Call.{Call}
use Rattle.mem_disk.specs.declared.fuse.Done.{Done}
use Rattle.mem_disk.specs.declared.fuse.Trip.{Trip}
use Rattle.mem_disk.specs.declared.fuse.Trip.TheVariants.{Passes, Fails}
use Rattle.mem_disk.specs.Loose.{Loose}
use Rattle.mem_disk.specs.Failing.{HasDone}
use Rattle.mem_disk.specs.Shortages.{told_as}
use Rattle.mem_disk.specs.States.{AlsoFailed, IsAnswer}
use Rattle.mem_disk.proofs.Effects.{either_way}

-- it holds of the answer, since it does of what is told and of a failure
pub told_way : {T : Type 0} (P : Result T Fault → Type 0) (done told result : Result T Fault) → told ≡ told_as done → AlsoFailed P (told_as done) → IsAnswer told result → P result
told_way P done told result is both answer = either_way P (told_as done) result both (subst (λ (x : Result _ Fault). IsAnswer x result) is answer)

-- what is told as a failure was one, or a refused growth
pub failed_or_short : {T : Type 0} (done : Result T Fault) → IsErrOf (told_as done) Failed → IsErrOf done Failed ⊎ IsErrOf done Memory
failed_or_short (Ok value) is = let h : Ok value ≡ Err Failed = is in cc
failed_or_short (Err Memory) is = inr refl
failed_or_short (Err Failed) is = inl refl
failed_or_short (Err Absent) is = let h : Err Absent ≡ Err Failed = is in cc
failed_or_short (Err Exists) is = let h : Err Exists ≡ Err Failed = is in cc

-- a call that answers Failed and was not to fail was short
pub failed_is_short : {T Short : Type 0} (done told result : Result T Fault) → told ≡ told_as done → result ≡ told → (IsErrOf done Failed → ⊥) → (IsErrOf done Memory → Short) → IsErrOf result Failed → Short
failed_is_short done told result is same failed short of =
    ⊎_elim (λ e. absurd (failed e)) short (failed_or_short done (subst (λ (x : Result _ Fault). IsErrOf x Failed) (same ∙ is) of))

-- what is told is no Memory
told_no_memory : {T : Type 0} (done : Result T Fault) → IsErrOf (told_as done) Memory → ⊥
told_no_memory (Ok value) is = let h : Ok value ≡ Err Memory = is in cc
told_no_memory (Err Memory) is = let h : Err Failed ≡ Err Memory = is in cc
told_no_memory (Err Failed) is = let h : Err Failed ≡ Err Memory = is in cc
told_no_memory (Err Absent) is = let h : Err Absent ≡ Err Memory = is in cc
told_no_memory (Err Exists) is = let h : Err Exists ≡ Err Memory = is in cc

passes_or_fails : (trip : Trip) (done : Done) → trip ≡ Passes → trip ≡ Fails done → ⊥
passes_or_fails trip done one other = let h : Passes ≡ Fails done = sym one ∙ other in cc

-- what was done where the call was to fail, and where it was short
pub done_or_short : {Was Short : Type 0} (step : Done → Loose → Loose) (burnt trip : Trip) (old new : List Call) → burnt ≡ trip → HasDone step burnt old new Was → (burnt ≢ Passes → Was → Short) → HasDone step trip old new Short
done_or_short step burnt trip old new same has short done is =
    ⊎_elim inl (λ was. inr (short (λ passes. passes_or_fails burnt done passes (same ∙ is)) was)) (has done (same ∙ is))
