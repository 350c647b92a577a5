-- How calls end: why they are refused, and what they did.
use Rattle.std.proofs.Common.{◌≡◌, ◌≢◌, ◌⊎◌, inl, inr, ℕ, Bool, List, Option, Result, Ok, Err, refl, sym, subst, ◌∙◌}
use Rattle.std.specs.Prelude.{Some, IfSome, IfErr}
use Rattle.std.specs.Str.{IsUtf8}
use Rattle.bits.specs.declared.refusal.Refusal.{Refusal}
use Rattle.bits.specs.declared.refusal.Refusal.TheVariants.{Memory, Device, Script}
use Rattle.bits.specs.Refusals.{HasCause}
use Rattle.footer.specs.declared.options.WriteOptions.{WriteOptions}
use Rattle.program.specs.Paths.{Place, HasBytes, HasFront, IsNoText, IsFileRefusal, IsPlaceRefusal, IsUnwritten}
use Rattle.program.specs.Program.{AreRefusedTexts, AreRefusedTextsAt, AreRefusedSources}

-- out of memory, or the cause
pub memory_or : (Cause : Refusal → Type 0) (e : Refusal) → HasCause Cause e → (e ≡ Memory) ⊎ Cause e
memory_or Cause Memory h = inl refl
memory_or Cause e h = inr h

-- what is said of a refusal, said otherwise
pub err_weaker : {X : Type 0} (P Q : Refusal → Type 0) → ((e : Refusal) → P e → Q e) → (r : Result X Refusal) → IfErr r P → IfErr r Q
err_weaker P Q f (Ok x) p = tt
err_weaker P Q f (Err e) p = f e p

-- two things that are said of a refusal
pub both_err : {X : Type 0} (P Q S : Refusal → Type 0) → ((e : Refusal) → P e → Q e → S e) → (r : Result X Refusal) → IfErr r P → IfErr r Q → IfErr r S
both_err P Q S f (Ok x) p q = tt
both_err P Q S f (Err e) p q = f e p q

-- what is said of a refusal of one result is said of the same refusal of another
pub of_same : {X : Type 0} (P : Refusal → Type 0) (r s : Result X Refusal) (e : Refusal) → r ≡ s → r ≡ Err e → IfErr s P → P e
of_same {X} P r s e same is h = subst (λ (t : Result X Refusal). IfErr t P) (sym same ∙ is) h

-- what holds where something is there
pub of_some : {X : Type 0} (P : Type 0) (o : Option X) (x : X) → o ≡ Some x → IfSome o (λ _. P) → P
of_some {X} P o x is h = subst (λ (t : Option X). IfSome t (λ _. P)) is h

-- ---- files

-- a file that cannot be read
pub unread : (place : Place) (Why : List ℕ → Refusal → Type 0) (old : Option (List ℕ)) (e : Refusal) → HasCause (λ x. x ≡ Device) e
    → IsFileRefusal place Why e × IsUnwritten old old e
unread place Why old e h = (inl (memory_or (λ x. x ≡ Device) e h), λ _ _. refl)

-- one whose bytes are refused
pub refused_bytes : (place : Place) (Why : List ℕ → Refusal → Type 0) (bytes : List ℕ) (e : Refusal) → HasFront place bytes → (e ≡ Device) ⊎ Why bytes e
    → IsFileRefusal place Why e
refused_bytes place Why bytes e has h = elim h [ inl d ↦ inl (inr d) | inr w ↦ inr (bytes, has, w) ]

-- but for Memory and Device nothing was written
pub unwritten : {X : Type 0} (old new : Option (List ℕ)) (r : Result X Refusal) → IfErr r (HasCause (λ x. x ≡ Device)) → IfErr r (IsUnwritten old new)
unwritten old new (Ok x) h = tt
unwritten old new (Err e) h = λ d m. elim (memory_or (λ x. x ≡ Device) e h) [ inl is ↦ absurd (m is) | inr is ↦ absurd (d is) ]

-- ---- two texts

module _ (texts : Bool) (options : WriteOptions) (schema_at rows_at : Place) where
  abbrev Refused : Refusal → Type 0
  Refused = AreRefusedSources texts options schema_at rows_at

  pub by_file : (e : Refusal) → HasCause (λ x. x ≡ Device) e → Refused e
  by_file e h = inl (memory_or (λ x. x ≡ Device) e h)

  pub by_schema_bytes : (bytes slice : List ℕ) (e : Refusal) → HasBytes schema_at bytes → slice ≡ bytes → (e ≡ Script) × (IsUtf8 slice → ⊥) → Refused e
  by_schema_bytes bytes slice e has same h = inr (inl (h.0, inl (record { bytes = slice; has = subst (HasBytes schema_at) (sym same) has; no_text = h.1 })))

  pub by_rows_bytes : (bytes slice : List ℕ) (e : Refusal) → HasBytes rows_at bytes → slice ≡ bytes → (e ≡ Script) × (IsUtf8 slice → ⊥) → Refused e
  by_rows_bytes bytes slice e has same h = inr (inl (h.0, inr (record { bytes = slice; has = subst (HasBytes rows_at) (sym same) has; no_text = h.1 })))

  pub by_texts : (schema_text rows_text : List ℕ) (e : Refusal) → HasBytes schema_at schema_text → HasBytes rows_at rows_text
      → AreRefusedTexts texts options schema_text rows_text e → Refused e
  by_texts schema_text rows_text e schema rows h = inr (inr (record { schema_text = schema_text; rows_text = rows_text; schema = schema; rows = rows; why = h }))

-- a refusal of a call whose output was asked once more
pub after_output : (P : Refusal → Type 0) (old mid new : Option (List ℕ)) (e f : Refusal) → f ≡ e → P e → IsUnwritten old mid e → (e ≢ Device → new ≡ mid)
    → P f × IsUnwritten old new f
after_output P old mid new e f same p u w = subst (λ (x : Refusal). P x × IsUnwritten old new x) (sym same) (p, λ d m. w d ∙ u d m)

-- where nothing was written
pub nothing_written : {X : Type 0} (old : Option (List ℕ)) (r : Result X Refusal) → IfErr r (IsUnwritten old old)
nothing_written old (Ok x) = tt
nothing_written old (Err e) = λ _ _. refl

-- a file that is not made, for the output cannot be written
pub no_place : {X : Type 0} (place : Place) (r : Result X Refusal) → IfErr r (HasCause (λ x. x ≡ Device)) → IfErr r (IsPlaceRefusal place)
no_place place (Ok x) h = tt
no_place place (Err e) h = inl (memory_or (λ x. x ≡ Device) e h)
