-- What is refused is not accepted.
use Rattle.std.proofs.Common.{◌≡◌, List, refl, sym}
use Rattle.std.specs.Prelude.{◌↔◌, ℕ, Some, None}
use Rattle.std.proofs.lemmas.Option.{none-some}
use Rattle.bits.specs.declared.refusal.Refusal.{Refusal}
use Rattle.bits.specs.declared.refusal.Refusal.TheVariants as refusal
use Rattle.bits.specs.Refusals.{IsFault}
use Rattle.schema.specs.Values.{ValueTrees}
use Rattle.schema.specs.Shape.{Fields}
use Rattle.footer.specs.File.{FileMeans}
use Rattle.footer.specs.Faults.{HasFault}
use Rattle.reports.specs.Verdict.{IsAccepted}

-- where something is refused, it is not so, and there is a refusal
pub is_refused : {A : Type 0} (e : Refusal) → (A → ⊥) → (Some e ≡ None) ↔ A
is_refused e not_so = (λ same. absurd (none-some e (sym same)), λ a. absurd (not_so a))

-- a file that is refused, and not for memory, is not accepted
pub refused_file : (bytes : List ℕ) (e : Refusal) → (e ≡ refusal.Memory → ⊥) → (IsFault e → (fs : Fields) (rows : List ValueTrees) → FileMeans bytes fs rows → ⊥) → HasFault bytes e → IsAccepted bytes → ⊥
refused_file bytes refusal.Limit other only which (fs, rows, means, within) = within which
refused_file bytes refusal.Memory other only which accepted = other refl
refused_file bytes e other only which (fs, rows, means, within) = only tt fs rows means
