-- A refusal that is passed on, where it is asked which one it is.
use Rattle.std.proofs.Common.{◌≡◌, Result, Ok, Err}
use Rattle.std.specs.Result.{IsErrAnd}
use Rattle.bits.specs.declared.refusal.Refusal.{Refusal}

same_err : {Y : Type 0} (e f g : Refusal) → e ≡ f → e ≡ g → ◌≡◌ {A = Result Y Refusal} (Err f) (Err g)
same_err e f g p q = cc

pub passed : {X Y : Type 0} (r : Result X Refusal) (e f : Refusal) → IsErrAnd r (λ g. g ≡ e) → r ≡ Err f → ◌≡◌ {A = Result Y Refusal} (Err e) (Err f)
passed (Ok x) e f is same = absurd is
passed (Err g) e f is same = let h : g ≡ f = cc in same_err g e f is h

pub passed_is : {X : Type 0} (r : Result X Refusal) (e f : Refusal) → IsErrAnd r (λ g. g ≡ e) → r ≡ Err f → e ≡ f
passed_is (Ok x) e f is same = absurd is
passed_is (Err g) e f is same = let h : g ≡ f = cc in cc
