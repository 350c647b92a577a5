-- A refusal that is passed on by `?`: r is the refusal e, and what is promised of e is promised of r.
use Rattle.std.proofs.Common.{◌≡◌, Result, Ok, Err, sym, subst}
use Rattle.std.specs.Result.{IsErrAnd, IfErr}
use Rattle.bits.specs.declared.refusal.Refusal.{Refusal}
use Rattle.bits.specs.Refusals.{IsLimitJustWhere, LimitJustWhere}

-- for OnFault and RefusedOnly
pub passes : {X : Type 0} (P : Refusal → Type 0) (r : Result X Refusal) (e : Refusal) → IsErrAnd r (λ f. f ≡ e) → P e → IfErr r P
passes P (Ok x) e is promised = absurd is
passes P (Err f) e is promised = subst P (sym is) promised

-- for LimitJustWhere
pub passes_limit : {X : Type 0} (IsOver : Type 0) (r : Result X Refusal) (e : Refusal) → IsErrAnd r (λ f. f ≡ e) → IsLimitJustWhere IsOver e → LimitJustWhere IsOver r
passes_limit IsOver (Ok x) e is promised = absurd is
passes_limit IsOver (Err f) e is promised = subst (IsLimitJustWhere IsOver) (sym is) promised
