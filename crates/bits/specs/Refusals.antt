-- What a refusal says of what was asked.
use Rattle.std.specs.Prelude.{Result, MatchResult, IfErr}
use Rattle.bits.specs.declared.refusal.Refusal.{Refusal}
use Rattle.bits.specs.declared.refusal.Refusal.TheVariants.{Truncated, Thrift, Value, Limit, Memory}

-- a fault of what was asked: neither a limit nor out of memory
abbrev pub IsFault : Refusal → Type 0
IsFault Limit = ⊥
IsFault Memory = ⊥
IsFault _ = Unit {0}

-- a refusal for a fault comes only where P
abbrev pub OnFault : {X : Type 0} → Result X Refusal → Type 0 → Type 0
OnFault r P = IfErr r (λ e. IsFault e → P)

-- a refusal is Memory, or has a cause
abbrev pub HasCause : (Refusal → Type 0) → Refusal → Type 0
HasCause Cause Memory = Unit {0}
HasCause Cause e = Cause e

-- a refusal comes only where it has a cause, or when out of memory
abbrev pub RefusedOnly : {X : Type 0} → (Refusal → Type 0) → Result X Refusal → Type 0
RefusedOnly Cause r = IfErr r (HasCause Cause)

-- a refusal comes only when out of memory
abbrev pub RefusedMemoryOnly : {X : Type 0} → Result X Refusal → Type 0
RefusedMemoryOnly r = RefusedOnly (λ _. ⊥) r

-- a refusal is Limit where the bound is passed, and another one where it is not, unless out of memory
abbrev pub IsLimitJustWhere : Type 0 → Refusal → Type 0
IsLimitJustWhere IsOver Limit = IsOver
IsLimitJustWhere IsOver Memory = Unit {0}
IsLimitJustWhere IsOver e = IsOver → ⊥

-- Limit comes exactly when the bound is passed, unless out of memory
abbrev pub LimitJustWhere : {X : Type 0} → Type 0 → Result X Refusal → Type 0
LimitJustWhere IsOver r = MatchResult r (λ _. IsOver → ⊥) (IsLimitJustWhere IsOver)

-- what the bytes of a list of values are refused for
abbrev pub IsOfValues : Refusal → Type 0
IsOfValues Truncated = Unit {0}
IsOfValues Thrift = Unit {0}
IsOfValues Value = Unit {0}
IsOfValues Limit = Unit {0}
IsOfValues _ = ⊥
