-- What the disk's answers leave of a call's answer.
use Rattle.std.proofs.Common.{◌≡◌, ◌≢◌, ◌<◌, ◌≤◌, ◌⊎◌, ◌-◌, ◌^◌, ℕ, ⊎_elim, inl, inr, refl, sym, subst, arith, Result, Ok, Err}
use Rattle.std.specs.Prelude.{IfErr, IsErrOf, IsErrAnd}
use Rattle.disk.specs.Calls.{CountsFailure}
use Rattle.disk.specs.declared.fault.Fault.{Fault}
use Rattle.disk.specs.declared.fault.Fault.TheVariants.{Absent, Exists, Failed, Memory}
use Rattle.vault.specs.inner.Files.{FailsOnly}

two_left : (e : Fault) → e ≢ Absent → e ≢ Exists → (e ≡ Failed) ⊎ (e ≡ Memory)
two_left Absent a x = absurd (a refl)
two_left Exists a x = absurd (x refl)
two_left Failed a x = inl refl
two_left Memory a x = inr refl

pub fails_only : {T : Type 0} (r : Result T Fault) → (IsErrOf r Absent → ⊥) → (IsErrOf r Exists → ⊥) → FailsOnly r
fails_only (Ok x) a e = tt
fails_only (Err f) a e = two_left f (λ is. a (cc is)) (λ is. e (cc is))

pub never : {T : Type 0} (r : Result T Fault) (e : Fault) → IfErr r (λ f. f ≢ e) → IsErrOf r e → ⊥
never (Ok x) e which is = cc is
never (Err f) e which is = which (cc is)

pub failed_only : {T : Type 0} (r : Result T Fault) → IfErr r (λ e. (e ≡ Absent) ⊎ (e ≡ Failed)) → (IsErrOf r Absent → ⊥) → IfErr r (λ e. e ≡ Failed)
failed_only (Ok x) which a = tt
failed_only (Err f) which a = ⊎_elim (λ is. absurd (a (cc is))) (λ is. is) which

-- a fault that is not out of memory, and neither that nothing is there nor that something stands in the way
pub failed_left : {T : Type 0} (r : Result T Fault) → IfErr r (λ e. e ≢ Memory) → (IsErrOf r Absent → ⊥) → (IsErrOf r Exists → ⊥) → IfErr r (λ e. e ≡ Failed)
failed_left (Ok x) which a there = tt
failed_left (Err f) which a there = ⊎_elim (λ is. is) (λ m. absurd (which m)) (two_left f (λ is. a (cc is)) (λ is. there (cc is)))

pub fails_by_failure : {T : Type 0} (r : Result T Fault) → IfErr r (λ e. e ≡ Failed) → FailsOnly r
fails_by_failure (Ok x) failed = tt
fails_by_failure (Err f) failed = inl failed

-- a refusal that `?` passes on
pub exit : {T : Type 0} (P : Result T Fault → Type 0) (r : Result T Fault) (e : Fault) → IsErrAnd r (λ f. f ≡ e) → P (Err e) → P r
exit P (Ok x) e is holds = absurd is
exit P (Err f) e is holds = subst (λ (g : Fault). P (Err g)) (sym is) holds

-- what is counted where the call before was Ok
pub counts_on : {S T : Type 0} (first : Result S Fault) (x : S) (r : Result T Fault) (old mid new : ℕ) → first ≡ Ok x → CountsFailure first old mid → CountsFailure r mid new → CountsFailure r old new
counts_on first x r old mid new ok one two =
    let same : mid ≡ old = one.others (λ is. cc (is, ok)) in
    subst (λ (k : ℕ). CountsFailure r k new) same two

pub counts_exit : {S T : Type 0} (first : Result S Fault) (r : Result T Fault) (e : Fault) (old new : ℕ) → first ≡ Err e → IsErrAnd r (λ f. f ≡ e) → CountsFailure first old new → CountsFailure r old new
counts_exit first r e old new err is one = exit (λ (t : Result _ Fault). CountsFailure t old new) r e is (record {
  later = one.later;
  failed = λ f. one.failed (cc (f, err));
  others = λ other. one.others (λ f. other (cc (f, err)));
})

-- a failure after a call that was Ok
pub grown : (x : Unit {0}) (a b c : ℕ) → CountsFailure {T = Unit {0}} (Ok x) a b → (e : Fault) → e ≡ Failed → CountsFailure {T = Unit {0}} (Err e) b c → (a < c) ⊎ (2 ^ 64 - 1 ≤ a)
grown x a b c first e is second =
    let same : b ≡ a = first.others (λ err. cc err) in
    let more = second.failed (cc is) in
    ⊎_elim (λ lt. inl (omega (arith, lt, same))) (λ top. inr (omega (arith, top, same))) more.grows
