-- An append up to its first file: its checks, and that no rows change nothing.
use Rattle.std.proofs.Common.{◌≡◌, ◌≢◌, ◌≤◌, ◌<◌, ◌⊎◌, ℕ, Bool, true, false, not, nat_lt, List, [], ◌∷◌, length, None, Some, refl, sym, ◌∙◌, ap, arith, ⊎_elim}
use Rattle.std.specs.Prelude.{Option}
use Rattle.std.proofs.lemmas.Bool.{ltb-true, lt-ltb}
use Rattle.std.proofs.lemmas.List.{append-nil}
use Rattle.bits.specs.declared.refusal.Refusal.{Refusal}
use Rattle.bits.specs.declared.refusal.Refusal.TheVariants.{Closed, Full, RowShape, Key, Stale, Memory}
use Rattle.schema.specs.Keys.{key_of_row}
use Rattle.partition.specs.Folders.{AreKeyColumns}
use Rattle.partition.proofs.KeyColumns.{keys_can}
use Rattle.disk.specs.State.{State as DiskState}
use Rattle.table.specs.Table.{Row, Group}
use Rattle.table.specs.InOrder.{in_order}
use Rattle.table.specs.Commits.{appended}
use Rattle.table.specs.State.{State}
use Rattle.table.specs.Faults.{first, unless}
use Rattle.table.specs.Checks.{fault, rows_fault, can_count}
use Rattle.table.specs.Calls.{append, done, refused}
use Rattle.table.specs.Leading.{Leads, IsDone}
use Rattle.table.specs.Refusing.{is_failure, checked, no_memory}
use Rattle.table.proofs.Counters.{counters_cover}
use Rattle.table.proofs.Steady.{stays_there, stays}
use Rattle.table_state.specs.declared.standing.Core.{Core}
use Rattle.table_state.specs.Stands.{Stands}
use Rattle.table_state.specs.Promises.{ActsFrom}
use Rattle.table_commits.proofs.UnchangedRefusals.{changes_nothing}
use Rattle.table_commits.proofs.NumbersHad.{had_same}
use Rattle.table_commits.proofs.GroupsInOrder.{stays_in_order}

of_rows : (e : Refusal) → (e ≡ RowShape) ⊎ (e ≡ Key) → e ≢ Stale
of_rows e cause is = ⊎_elim (λ a. let c : RowShape ≡ Stale = sym a ∙ is in cc) (λ a. let c : Key ≡ Stale = sym a ∙ is in cc) cause

pub no_failure : (e : Refusal) → (e ≡ RowShape) ⊎ (e ≡ Key) → is_failure (refused e) ≡ true → ⊥
no_failure e cause h = ⊎_elim (λ a. let c : false ≡ true = sym (ap (λ (f : Refusal). is_failure (refused f)) a) ∙ h in cc) (λ a. let c : false ≡ true = sym (ap (λ (f : Refusal). is_failure (refused f)) a) ∙ h in cc) cause

module _ {D : Type 0} (state : D → DiskState) (store : Core D) (s : State) (stands : Stands state store s) (is_open : s.closed ≡ false) (given : List Row) where
  pub columns : AreKeyColumns s.table.keys
  columns = keys_can s.table.keys s.table.schema stands.shows.valid.schema.0.differ stands.shows.valid.keys

  fault_at : (b : Bool) → can_count s.next_group ≡ b → fault s (append given) ≡ first (None ∷ unless b Full ∷ rows_fault s.table given ∷ [])
  fault_at b e = ap (λ (c : Bool). first (unless (not c) Closed ∷ unless (can_count s.next_group) Full ∷ rows_fault s.table given ∷ [])) is_open
      ∙ ap (λ (c : Bool). first (None ∷ unless c Full ∷ rows_fault s.table given ∷ [])) e

  pub is_full : 9223372036854775808 ≤ s.next_group → ActsFrom state store store (append given) (refused Full) s
  is_full high = changes_nothing state store (append given) (refused Full) s stands (checked (fault_at false (by (nat_lt s.next_group 9223372036854775808) refl)) (λ b. cc) (stays s (append given) refl))
    where
      by : (b : Bool) → nat_lt s.next_group 9223372036854775808 ≡ b → nat_lt s.next_group 9223372036854775808 ≡ false
      by true e = let low = ltb-true s.next_group 9223372036854775808 e in absurd (omega (arith, low, high))
      by false e = e

  module _ (low : s.next_group < 9223372036854775808) where
    fault_of_rows : (o : Option Refusal) → rows_fault s.table given ≡ o → fault s (append given) ≡ first (o ∷ [])
    fault_of_rows o e = fault_at true (lt-ltb s.next_group 9223372036854775808 low) ∙ ap (λ (p : Option Refusal). first (p ∷ [])) e

    pub has_row_fault : (e : Refusal) → (e ≡ RowShape) ⊎ (e ≡ Key) → rows_fault s.table given ≡ Some e → ActsFrom state store store (append given) (refused e) s
    has_row_fault e cause is = changes_nothing state store (append given) (refused e) s stands (checked (fault_of_rows (Some e) is) (of_rows e cause) (stays s (append given) refl))

    pub fine : rows_fault s.table given ≡ None → fault s (append given) ≡ None
    fine is = fault_of_rows None is

    pub no_rows : rows_fault s.table given ≡ None → given ≡ [] → ActsFrom state store store (append given) (done 0) s
    no_rows is none =
        let leads : Leads s (append given) 0 s.table s.next_group = record {
          made = appended given;
          asked = refl;
          step = record {
            schema = refl;
            keys = refl;
            change = (
              record {
                added = [];
                placed = sym (ap (in_order (λ (h : Group). h.key)) (append-nil s.table.groups) ∙ stays_in_order s.table.groups stands.shows.valid.in_order);
                hold = ap (λ (rs : List Row). in_order (key_of_row s.table.keys) rs) (sym none);
                full = refl;
                fresh = refl;
              },
              ap (λ (rs : List Row). length rs) (sym none),
            );
            table = stands.shows.valid;
            never_falls = omega arith;
            same = λ of_groups same. refl;
          };
          rises = stays_there s (append given);
          covers = (counters_cover s stands.reached).next;
        } in
        let is_done : IsDone s (append given) (done 0) s = record {
          n = 0;
          table = s.table;
          counter = s.next_group;
          leads = leads;
          answers = refl;
          becomes = ap (λ (h : ℕ → Bool). record s { had = h }) (sym (had_same s stands.reached));
        } in
        changes_nothing state store (append given) (done 0) s stands (fine is, is_done)

  pub out_of_memory : ActsFrom state store store (append given) (refused Memory) s
  out_of_memory = changes_nothing state store (append given) (refused Memory) s stands (no_memory refl (ap not is_open) refl (stays s (append given) refl))
