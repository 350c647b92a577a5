-- A refusal that is passed on by `?`, in this crate's clauses.
use Rattle.std.proofs.Common.{◌≡◌, Bool, true, Result, Ok, Err, ◌∙◌, sym}
use Rattle.std.specs.Result.{is_err, IsErrAnd, OnOk}
use Rattle.bits.specs.declared.refusal.Refusal.{Refusal}
use Rattle.bits.specs.declared.refusal.Refusal.TheVariants.{Memory, Limit}
use Rattle.bits.specs.Refusals.{HasCause, RefusedOnly}
use Rattle.bits.proofs.Passing.{passes}

wider : (P Q : Refusal → Type 0) → ((e : Refusal) → P e → Q e) → (e : Refusal) → HasCause P e → HasCause Q e
wider P Q f Memory p = tt
wider P Q f e p = f e p

-- the causes above are those below, and more
pub passes_which : {X : Type 0} (P Q : Refusal → Type 0) (r : Result X Refusal) (e : Refusal) → ((f : Refusal) → P f → Q f) → IsErrAnd r (λ f. f ≡ e) → HasCause P e → RefusedOnly Q r
passes_which P Q r e more is cause = passes (HasCause Q) r e is (wider P Q more e cause)

-- Limit above is Limit below
pub passes_over : {X : Type 0} (Over : Type 0) (r : Result X Refusal) (e : Refusal) → IsErrAnd r (λ f. f ≡ e) → (e ≡ Limit → Over) → r ≡ Err Limit → Over
passes_over {X} Over (Ok x) e is over same = absurd is
passes_over {X} Over (Err f) e is over same = let here : f ≡ Limit = cc in over (sym is ∙ here)

-- two facts of what is answered give one more
pub on_ok_both : {X : Type 0} {P Q R : Type 0} (r : Result X Refusal) → (P → Q → R) → OnOk r P → OnOk r Q → OnOk r R
on_ok_both (Ok x) both p q = both p q
on_ok_both (Err e) both p q = tt

-- three facts of what is answered give one more
pub on_ok_all : {X : Type 0} {P Q R S : Type 0} (r : Result X Refusal) → (P → Q → R → S) → OnOk r P → OnOk r Q → OnOk r R → OnOk r S
on_ok_all (Ok x) all p q r = all p q r
on_ok_all (Err e) all p q r = tt

-- nothing is asked of what is no answer
pub no_error : {X : Type 0} (P : Type 0) (r : Result X Refusal) (b : Bool) → b ≡ true → b ≡ is_err r → OnOk r P
no_error P (Ok x) b on is = absurd cc
no_error P (Err e) b on is = tt

-- refusals that come only where P does not come where P does not hold
pub excluded : {X P : Type 0} (Cause Also : Refusal → Type 0) (r : Result X Refusal) → (P → ⊥) → RefusedOnly (λ e. Cause e × P) r → RefusedOnly Also r
excluded Cause Also (Ok x) never p = tt
excluded Cause Also (Err Memory) never p = tt
excluded Cause Also (Err e) never p = absurd (never p.1)
