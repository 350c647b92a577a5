-- A refusal that is not InDoubt closes nothing.
use Rattle.std.proofs.Common.{◌≡◌, List, Result, Err, ap}
use Rattle.std.specs.Prelude.{IsErrAnd}
use Rattle.bits.specs.declared.refusal.Refusal.{Refusal}
use Rattle.bits.specs.declared.refusal.Refusal.TheVariants.{InDoubt}
use Rattle.bits.specs.Refusals.{HasCause}
use Rattle.schema.specs.Stripe.{Leaf}
use Rattle.filter.specs.Terms.{Term, tests_of}
use Rattle.vault.proofs.Chained.{refused as passed}
use Rattle.table.specs.Calls.{refused}
use Rattle.table.specs.Refusing.{is_failure}
use Rattle.table_state.specs.declared.standing.Core.{Core}
use Rattle.table_state.specs.Promises.{ClosesInDoubt}
use Rattle.table_reads.proofs.TermFaults.{no_failure}

-- terms are not refused so
pub terms_sure : (leaves : List Leaf) (terms : List (List Term)) (e : Refusal) → HasCause (λ f. tests_of leaves terms ≡ Err f) e → e ≡ InDoubt → ⊥
terms_sure leaves terms e which is = no_failure leaves terms e which (ap (λ (f : Refusal). is_failure (refused f)) is)

-- a refusal that is passed on
pub passed_shut : {D T : Type 0} (new : Core D) (r : Result T Refusal) (e : Refusal) → IsErrAnd r (λ f. f ≡ e) → (e ≡ InDoubt → ⊥) → ClosesInDoubt new r
passed_shut {D} {T} new r e is other = passed (λ (x : Result T Refusal). ClosesInDoubt new x) r e is (λ same. absurd (other (cc)))
