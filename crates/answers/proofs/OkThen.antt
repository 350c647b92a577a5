-- What holds in any case holds of a result that is Ok.
use Rattle.std.proofs.Common.{◌≡◌, Result, Ok, Err, OnOk}
use Rattle.std.specs.Result.{IsErrAnd}
use Rattle.bits.specs.declared.refusal.Refusal.{Refusal}

pub ok_always : {T A : Type 0} (result : Result T Refusal) → A → OnOk result A
ok_always (Ok x) holds = holds
ok_always (Err e) holds = tt

-- what follows of an Ok holds once it is one
pub ok_of : {T A B : Type 0} (result : Result T Refusal) → OnOk result A → (A → B) → OnOk result B
ok_of (Ok x) holds so = so holds
ok_of (Err e) holds so = tt

-- a result that is a refusal is no Ok
pub err_then : {T : Type 0} (A : Type 0) (result : Result T Refusal) (e : Refusal) → IsErrAnd result (λ f. f ≡ e) → OnOk result A
err_then A (Ok x) e is = absurd is
err_then A (Err f) e is = tt
