-- How many rows satisfy.
use Rattle.std.proofs.Common.{◌≡◌, ◌==◌, ℕ, true, false, not, List, [], ◌∷◌, map, filter, length, Option, None, Err, refl, sym, ◌∙◌, ap, subst, arith, eqb-true}
use Rattle.bits.specs.declared.refusal.Refusal.{Refusal}
use Rattle.bits.specs.declared.refusal.Refusal.TheVariants.{Memory, Closed}
use Rattle.bits.specs.Refusals.{HasCause}
use Rattle.schema.specs.Stripe.{leaves_of}
use Rattle.filter.specs.Terms.{tests_of}
use Rattle.disk.specs.State.{State as DiskState}
use Rattle.manifest.specs.Groups.{root_of}
use Rattle.table.specs.Table.{Row, rows}
use Rattle.table.specs.Deciding.{Filter, filter_fault, refusal_in}
use Rattle.table.specs.State.{State}
use Rattle.table.specs.Faults.{first, unless}
use Rattle.table.specs.Checks.{fault}
use Rattle.table.specs.Calls.{count, counted, refused}
use Rattle.table.specs.Refusing.{checked, no_memory}
use Rattle.table.proofs.Steady.{stays}
use Rattle.table_state.specs.declared.standing.Core.{Core}
use Rattle.table_commits.specs.Dropping.{rows_in}
use Rattle.table_state.specs.Stands.{Stands}
use Rattle.table_state.specs.Promises.{ActsFrom}
use Rattle.table_commits.proofs.SomeGroups.{rows_counted}
use Rattle.table_commits.proofs.UnchangedRefusals.{changes_nothing}
use Rattle.table_reads.proofs.TermFaults.{term_fault, never_stale}

all_of : (rs : List Row) → filter (λ (r : Row). true) rs ≡ rs
all_of [] = refl
all_of (r ∷ rs) = ap (λ (xs : List Row). r ∷ xs) (all_of rs)

module _ {D : Type 0} (state : D → DiskState) (store : Core D) (is_open : store.closed ≡ false) (s : State) (stands : Stands state store s) where
  sure : s.closed ≡ false
  sure = sym stands.shows.closed ∙ is_open

  pub fault_is : (terms : Filter) → fault s (count terms) ≡ first (None ∷ filter_fault s.table.schema terms ∷ [])
  fault_is terms = ap (λ b. first (unless (not b) Closed ∷ filter_fault s.table.schema terms ∷ [])) sure

  -- with no filter
  counts_none : (n : ℕ) → n ≡ rows_in (root_of store.manifest).groups → ActsFrom state store store (count []) (counted n) s
  counts_none n e = changes_nothing state store (count []) (counted n) s stands (
    fault_is [],
    (
      ap (λ (k : ℕ). counted k) (e ∙ rows_counted (state store.vault.disk) s.table.keys s.table.schema s.next_group (root_of store.manifest).groups s.table.groups (stands.shows.shown sure).version
          ∙ sym (ap (λ (rs : List Row). length rs) (all_of (rows s.table.groups)))),
      refl,
    ),
  )

  pub counts_all : (terms : Filter) → terms ≡ [] → (n : ℕ) → n ≡ rows_in (root_of store.manifest).groups → ActsFrom state store store (count terms) (counted n) s
  counts_all terms none n e = subst (λ (ts : Filter). ActsFrom state store store (count ts) (counted n) s) (sym none) (counts_none n e)

  pub count_poor : (terms : Filter) → ActsFrom state store store (count terms) (refused Memory) s
  count_poor terms = changes_nothing state store (count terms) (refused Memory) s stands (no_memory refl (ap not sure) refl (stays s (count terms) refl))

  term_refused : (terms : Filter) (e : Refusal) → tests_of (leaves_of s.table.schema) terms ≡ Err e → ActsFrom state store store (count terms) (refused e) s
  term_refused terms e h = changes_nothing state store (count terms) (refused e) s stands
      (checked (fault_is terms ∙ ap (λ (o : Option Refusal). first (None ∷ o ∷ [])) (ap refusal_in h)) (never_stale e (term_fault (leaves_of s.table.schema) terms e h)) (stays s (count terms) refl))

  pub count_refused : (terms : Filter) (e : Refusal) → HasCause (λ f. tests_of (leaves_of s.table.schema) terms ≡ Err f) e → ActsFrom state store store (count terms) (refused e) s
  count_refused terms Memory cause = count_poor terms
  count_refused terms e cause = term_refused terms e cause

-- no elements are there, and so none are seen
pub no_terms : {A B : Type 0} (f : A → B) (xs : List A) → (length xs == 0) ≡ true → map f xs ≡ []
no_terms f [] e = refl
no_terms f (x ∷ xs) e = absurd (let z = eqb-true (length (x ∷ xs)) 0 e in omega (arith, z))
