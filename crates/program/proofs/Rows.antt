-- The rows of a file fit, and what a refusal after that says.
use Rattle.std.proofs.Common.{◌≡◌, ◌≢◌, ◌⊎◌, inl, inr, ℕ, List, [], ◌∷◌, ◌++◌, flat_map, Option, Some, None, Result, Ok, Err, refl, subst}
use Rattle.std.specs.Prelude.{IfErr}
use Rattle.std.proofs.lemmas.List.Concat.{flat_map-cons}
use Rattle.bits.specs.declared.refusal.Refusal.{Refusal}
use Rattle.bits.specs.declared.refusal.Refusal.TheVariants.{Memory, Device}
use Rattle.bits.specs.Refusals.{HasCause, RefusedOnly, IsFault}
use Rattle.schema.specs.Values.{ValueTrees}
use Rattle.schema.specs.Shape.{Fields}
use Rattle.schema.specs.Fits.{RowsFit}
use Rattle.metadata.specs.Records.{GroupMeta}
use Rattle.footer.specs.File.{FileMeans, AreGroups}
use Rattle.footer.specs.Faults.{HasFault}
use Rattle.program.specs.Program.{MeansUpTo, HasFaultUpTo}
use Rattle.program.proofs.Endings.{err_weaker}

both_fit : (fs : Fields) (rows others : List ValueTrees) → RowsFit fs rows → RowsFit fs others → RowsFit fs (rows ++ others)
both_fit fs [] others x y = y
both_fit fs (row ∷ rows) others x y = (x.0, both_fit fs rows others x.1 y)

groups_fit : (front : List ℕ) (fs : Fields) (gs : List GroupMeta) (groups : List (List ValueTrees)) → AreGroups front fs gs groups → RowsFit fs (flat_map (λ g. g) groups)
groups_fit front fs [] [] h = tt
groups_fit front fs [] (rows ∷ others) h = absurd h
groups_fit front fs (g ∷ gs) [] h = absurd h
groups_fit front fs (g ∷ gs) (rows ∷ others) h = rw flat_map-cons (both_fit fs rows (flat_map (λ g. g) others) h.1.fit (groups_fit front fs gs others h.2))

-- what a file means fits its schema
pub rows_fit : (bytes : List ℕ) (fs : Fields) (rows : List ValueTrees) → FileMeans bytes fs rows → RowsFit fs rows
rows_fit bytes fs rows means = rw means.held.joined (groups_fit _ fs _ means.held.groups means.held.each)

pub rows_fit_up_to : (limit : Option ℕ) (bytes : List ℕ) (fs : Fields) (rows : List ValueTrees) → MeansUpTo limit bytes fs rows → RowsFit fs rows
rows_fit_up_to None bytes fs rows means = rows_fit bytes fs rows means
rows_fit_up_to (Some limit) bytes fs rows means = rw means.held.joined (groups_fit _ fs _ means.held.groups means.held.each)

device_or_memory : (e : Refusal) → HasCause (λ x. x ≡ Device) e → (e ≡ Device) ⊎ (e ≡ Memory)
device_or_memory Memory h = inr refl
device_or_memory e h = inl h

has_fault : (bytes : List ℕ) (e : Refusal) → HasCause (λ x. x ≡ Device) e → (e ≡ Device) ⊎ HasFault bytes e
has_fault bytes e h = elim (device_or_memory e h) [ inl d ↦ inl d | inr m ↦ inr (rw m tt) ]

-- a writer that fails is no fault of a file that was accepted
pub is_of_device : {X : Type 0} (bytes : List ℕ) (r : Result X Refusal) → RefusedOnly (λ x. x ≡ Device) r → IfErr r (λ e. (e ≡ Device) ⊎ HasFault bytes e)
is_of_device bytes r h = err_weaker (HasCause (λ x. x ≡ Device)) (λ e. (e ≡ Device) ⊎ HasFault bytes e) (has_fault bytes) r h

has_fault_up_to : (limit : Option ℕ) (bytes : List ℕ) (e : Refusal) → HasCause (λ x. x ≡ Device) e → (e ≡ Device) ⊎ HasFaultUpTo limit bytes e
has_fault_up_to None bytes e h = has_fault bytes e h
has_fault_up_to (Some limit) bytes e h = elim (device_or_memory e h) [ inl d ↦ inl d | inr m ↦ inr (rw m tt) ]

pub is_of_device_up_to : {X : Type 0} (limit : Option ℕ) (bytes : List ℕ) (r : Result X Refusal) → RefusedOnly (λ x. x ≡ Device) r → IfErr r (λ e. (e ≡ Device) ⊎ HasFaultUpTo limit bytes e)
is_of_device_up_to limit bytes r h = err_weaker (HasCause (λ x. x ≡ Device)) (λ e. (e ≡ Device) ⊎ HasFaultUpTo limit bytes e) (has_fault_up_to limit bytes) r h

no_other : (P : Type 0) (e : Refusal) → HasCause (λ x. x ≡ Device) e → e ≢ Device → e ≢ Memory → P
no_other P e h d m = elim (device_or_memory e h) [ inl is ↦ absurd (d is) | inr is ↦ absurd (m is) ]

pub is_no_other : {X : Type 0} (P : Type 0) (r : Result X Refusal) → RefusedOnly (λ x. x ≡ Device) r → IfErr r (λ e. e ≢ Device → e ≢ Memory → P)
is_no_other P r h = err_weaker (HasCause (λ x. x ≡ Device)) (λ e. e ≢ Device → e ≢ Memory → P) (no_other P) r h

no_fault : (P : Type 0) (e : Refusal) → HasCause (λ x. x ≡ Device) e → IsFault e → e ≢ Device → P
no_fault P e h fault d = elim (device_or_memory e h) [ inl is ↦ absurd (d is) | inr is ↦ absurd (subst IsFault is fault) ]

pub is_no_fault : {X : Type 0} (P : Type 0) (r : Result X Refusal) → RefusedOnly (λ x. x ≡ Device) r → IfErr r (λ e. IsFault e → e ≢ Device → P)
is_no_fault P r h = err_weaker (HasCause (λ x. x ≡ Device)) (λ e. IsFault e → e ≢ Device → P) (no_fault P) r h

-- what a reader refuses for is no writer that fails
pub no_device : (bytes : List ℕ) (e : Refusal) → HasFault bytes e → e ≢ Device
no_device bytes e h is = subst (HasFault bytes) is h

pub no_device_up_to : (limit : Option ℕ) (bytes : List ℕ) (e : Refusal) → HasFaultUpTo limit bytes e → e ≢ Device
no_device_up_to None bytes e h is = no_device bytes e h is
no_device_up_to (Some limit) bytes e h is = subst (HasFaultUpTo (Some limit) bytes) is h

-- a file that was accepted was so whatever is refused then
pub is_accepted : {X : Type 0} (P : Refusal → Type 0) (Q : Type 0) → Q → (r : Result X Refusal) → IfErr r (λ e. P e ⊎ Q)
is_accepted P Q q (Ok x) = tt
is_accepted P Q q (Err e) = inr q
