-- A removal of rows up to its first group: its checks.
use Rattle.std.proofs.Common.{◌≡◌, ◌≤◌, ◌<◌, Bool, true, false, not, List, [], ◌∷◌, None, Some, Ok, Err, refl, ◌∙◌, ap, arith}
use Rattle.std.specs.Prelude.{Option, nat_lt}
use Rattle.std.proofs.lemmas.Bool.{ltb-true, lt-ltb}
use Rattle.bits.specs.declared.refusal.Refusal.{Refusal}
use Rattle.bits.specs.declared.refusal.Refusal.TheVariants.{Closed, Full, Memory}
use Rattle.bits.specs.Refusals.{HasCause}
use Rattle.schema.specs.Stripe.{leaves_of}
use Rattle.disk.specs.State.{State as DiskState}
use Rattle.filter.specs.Test.{Test}
use Rattle.filter.specs.Terms.{tests_of}
use Rattle.table.specs.Deciding.{Filter as Terms, filter_fault, refusal_in}
use Rattle.table.specs.State.{State}
use Rattle.table.specs.Faults.{first, unless}
use Rattle.table.specs.Checks.{fault, can_count}
use Rattle.table.specs.Calls.{remove, refused}
use Rattle.table.specs.Refusing.{checked, no_memory}
use Rattle.table.proofs.Steady.{stays}
use Rattle.table_state.specs.declared.standing.Core.{Core}
use Rattle.table_state.specs.Stands.{Stands}
use Rattle.table_state.specs.Promises.{ActsFrom}
use Rattle.table_commits.proofs.UnchangedRefusals.{changes_nothing}
use Rattle.table_reads.proofs.TermFaults.{term_fault, never_stale}

module _ {D : Type 0} (state : D → DiskState) (store : Core D) (s : State) (stands : Stands state store s) (is_open : s.closed ≡ false) (terms : Terms) where
  fault_at : (b : Bool) → can_count s.next_group ≡ b → fault s (remove terms) ≡ first (None ∷ unless b Full ∷ filter_fault s.table.schema terms ∷ [])
  fault_at b e = ap (λ (c : Bool). first (unless (not c) Closed ∷ unless (can_count s.next_group) Full ∷ filter_fault s.table.schema terms ∷ [])) is_open
      ∙ ap (λ (c : Bool). first (None ∷ unless c Full ∷ filter_fault s.table.schema terms ∷ [])) e

  pub is_full : 9223372036854775808 ≤ s.next_group → ActsFrom state store store (remove terms) (refused Full) s
  is_full high = changes_nothing state store (remove terms) (refused Full) s stands (checked (fault_at false (by (nat_lt s.next_group 9223372036854775808) refl)) (λ b. cc) (stays s (remove terms) refl))
    where
      by : (b : Bool) → nat_lt s.next_group 9223372036854775808 ≡ b → nat_lt s.next_group 9223372036854775808 ≡ false
      by true e = let low = ltb-true s.next_group 9223372036854775808 e in absurd (omega (arith, low, high))
      by false e = e

  pub out_of_memory : ActsFrom state store store (remove terms) (refused Memory) s
  out_of_memory = changes_nothing state store (remove terms) (refused Memory) s stands (no_memory refl (ap not is_open) refl (stays s (remove terms) refl))

  module _ (low : s.next_group < 9223372036854775808) where
    fault_of_terms : (o : Option Refusal) → filter_fault s.table.schema terms ≡ o → fault s (remove terms) ≡ first (o ∷ [])
    fault_of_terms o e = fault_at true (lt-ltb s.next_group 9223372036854775808 low) ∙ ap (λ (p : Option Refusal). first (None ∷ None ∷ p ∷ [])) e

    has_term_fault : (e : Refusal) → tests_of (leaves_of s.table.schema) terms ≡ Err e → ActsFrom state store store (remove terms) (refused e) s
    has_term_fault e h = changes_nothing state store (remove terms) (refused e) s stands
        (checked (fault_of_terms (Some e) (ap refusal_in h)) (never_stale e (term_fault (leaves_of s.table.schema) terms e h)) (stays s (remove terms) refl))

    pub term_refused : (e : Refusal) → HasCause (λ f. tests_of (leaves_of s.table.schema) terms ≡ Err f) e → ActsFrom state store store (remove terms) (refused e) s
    term_refused Memory cause = out_of_memory
    term_refused e cause = has_term_fault e cause

    pub unfaulted : (tests : List (List Test)) → tests_of (leaves_of s.table.schema) terms ≡ Ok tests → fault s (remove terms) ≡ None
    unfaulted tests made = fault_of_terms None (ap refusal_in made)
