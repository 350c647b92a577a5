-- What comes of a call, by what comes of its parts.
use Rattle.std.proofs.Common.{◌≡◌, ◌∙◌, ◌⊎◌, inl, inr, ℕ, List, Option, Some, None, Result, Ok, Err, IsErrAnd, OnOk, IfErr, refl, sym, subst, ap}
use Rattle.std.specs.Prelude.{⊤}
use Rattle.std.specs.Prelude.{IsUtf8, option_and_then}
use Rattle.bits.specs.declared.refusal.Refusal.{Refusal}
use Rattle.bits.specs.declared.refusal.Refusal.TheVariants.{Memory, Script}
use Rattle.bits.specs.Refusals.{HasCause}
use Rattle.disk.specs.State.{State as DiskState}
use Rattle.dataset_words.specs.declared.call.Call.{Call}
use Rattle.dataset_words.specs.declared.call.Task.{Task}
use Rattle.places.specs.Places.{Known, StaysKnown, IsKeptFrom}
use Rattle.commands.specs.Calls.{Filtered, filtered, no_filter, CallComes, no_memory, IsFiltered, IsNoFilter, filter_by_words, filter_path, after_at}

-- what holds of a result holds of it once it is an Ok, or an Err
pub done_of : (P : Result ⊤ Refusal → Type 0) (result : Result ⊤ Refusal) → P result → OnOk result (P (Ok tt))
done_of P (Ok x) holds = holds
done_of P (Err e) holds = tt

pub refused_of : (P : Result ⊤ Refusal → Type 0) (result : Result ⊤ Refusal) → P result → IfErr result (λ e. P (Err e))
refused_of P (Ok x) holds = tt
refused_of P (Err e) holds = holds

only_memory : (e : Refusal) → HasCause (λ f. ⊥) e → e ≡ Memory
only_memory Memory has = refl
only_memory e has = absurd has

pub no_memory_of : {P D S : Type 0} {state : D → DiskState} {known : P → Known D} {old new : Known D} {call : Call} {before after : Option (List ℕ)} (result : Result ⊤ Refusal) (e : Refusal)
    → IsErrAnd result (λ f. f ≡ e) → HasCause (λ f. ⊥) e → StaysKnown old new → after ≡ before → CallComes S state known old new call before after result
no_memory_of (Ok x) e is memory stays unprinted = absurd is
no_memory_of (Err f) e is memory stays unprinted = no_memory stays unprinted (ap Err (is ∙ only_memory e memory))

no_some : {path : List ℕ} → None ≡ Some path → ⊥
no_some h = cc

-- the file of a filter has none
module _ {D : Type 0} (known : Known D) (task : Task) (path bytes : List ℕ) (named : filter_path task ≡ Some path) (there : known.file path bytes) where
  by_words : (e : Refusal) → (IsUtf8 bytes → ⊥) ⊎ (filter_by_words task ≡ None) → e ≡ Script → IsNoFilter known path e
  by_words e (inl lacks) is = inr (is, bytes, there, lacks)
  by_words e (inr none) is = absurd (no_some (sym (ap (option_and_then after_at) none) ∙ named))

  pub none_read : (e : Refusal) → HasCause (λ f. (f ≡ Script) × ((IsUtf8 bytes → ⊥) ⊎ (filter_by_words task ≡ None))) e → IsNoFilter known path e
  none_read Memory has = inl tt
  none_read e has = by_words e has.1 has.0

pub no_filter_of : {D : Type 0} {old new : Known D} {call : Call} {ComesOf : Call → Type 0} {Unchanged : Type 0} (result : Result ⊤ Refusal) (path : List ℕ) (e : Refusal)
    → IsErrAnd result (λ f. f ≡ e) → filter_path call.task ≡ Some path → IsKeptFrom old path e → StaysKnown old new → Unchanged
    → Filtered old new call ComesOf Unchanged result
no_filter_of (Ok x) path e is named kept stays unchanged = absurd is
no_filter_of (Err f) path e is named kept stays unchanged = no_filter path e named (inl kept) stays unchanged (ap Err is)

-- the filter was read, and then it comes of the call with it
pub filtered_so : {D : Type 0} {old new : Known D} (ComesOf : Call → Type 0) (Unchanged : Type 0) (call asked own : Call) (result : Result ⊤ Refusal) (path text slice : List ℕ)
    → filter_path call.task ≡ Some path → old.file path text → slice ≡ text → IsFiltered call slice asked → IsUtf8 slice → own ≡ asked
    → ComesOf own → Filtered old new call ComesOf Unchanged result
filtered_so ComesOf Unchanged call asked own result path text slice named there same is utf8 owns comes =
    filtered path text asked named there (subst IsUtf8 same utf8) (subst (λ (t : List ℕ). IsFiltered call t asked) same is) (subst ComesOf owns comes)
