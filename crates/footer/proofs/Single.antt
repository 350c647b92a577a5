-- What holds of a result that is right.
use Rattle.std.specs.Prelude.{Result, Ok, Err, IfOk}
use Rattle.bits.specs.declared.refusal.Refusal.{Refusal}

pub ok_map : {X : Type 0} (P Q : X → Type 0) (r : Result X Refusal) → ((x : X) → P x → Q x) → IfOk r P → IfOk r Q
ok_map P Q (Ok x) f p = f x p
ok_map P Q (Err e) f p = tt
