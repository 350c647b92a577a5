-- Rows that were read and accepted, and not made.
use Rattle.std.proofs.Common.{◌≡◌, ◌==◌, ℕ, suc, Bool, true, false, not, List, [], ◌∷◌, length, Option, Some, None, Result, Ok, Err, refl, ap, sym, subst, ◌∙◌, arith}
use Rattle.std.specs.Prelude.{IfOk, is_some, is_none}
use Rattle.std.proofs.lemmas.Bool.Decides.{nat_tests}
use Rattle.bits.specs.declared.refusal.Refusal.{Refusal}
use Rattle.schema.specs.Values.{ValueTrees}
use Rattle.filter.specs.Test.{Test}
use Rattle.scan.specs.declared.group_rows.GroupRows.{GroupRows}
use Rattle.scan.specs.Left.{AreReadFor, AreAccepted, HeldRowsAreOne, rows_held}
use Rattle.scan.specs.Selected.{AreSelected}
use Rattle.table.specs.Table.{Row}
use Rattle.table.specs.Calls.{Answer, batch, ended}
use Rattle.table.specs.History.{next_answer}
use Rattle.table_reads.specs.declared.passing.FetchedRows.{FetchedRows}
use Rattle.table_reads.specs.Passing.{AreReached, batches_with}
use Rattle.table_reads.specs.Shown.{AreShown, IsShownAs}

-- what was read is what was selected
pub reached_selected : HeldRowsAreOne → (tests : List (List Test)) (places : List ℕ) (rows : List ValueTrees) (r : Result (Option GroupRows) Refusal) → IfOk r (AreReadFor tests places rows)
    → IfOk r (λ read. (out : List ValueTrees) → AreReached read out → AreSelected tests places rows out)
reached_selected one tests places rows (Ok None) h = λ out none. subst (AreSelected tests places rows) (sym none) h
reached_selected one tests places rows (Ok (Some g)) h = λ out are. subst (AreSelected tests places rows) (one g h.0 out h.2 are.0) h.1
reached_selected one tests places rows (Err e) h = tt

pub reached_accepted : (r : Result (Option GroupRows) Refusal) → IfOk r AreAccepted → IfOk r (λ read. (out : List ValueTrees) × AreReached read out)
reached_accepted (Ok None) h = ([], refl)
reached_accepted (Ok (Some g)) h = (h.0, (h.1, h.2))
reached_accepted (Err e) h = tt

none_is : (read : Option GroupRows) (rows : List Row) → AreReached read rows → is_none read ≡ (length rows == 0)
none_is None rows none = sym (ap (λ (xs : List Row). length xs == 0) none)
none_is (Some g) [] are = absurd (are.1 refl)
none_is (Some g) (row ∷ rows) are = sym (some_of (length rows))
  where
    some_of : (n : ℕ) → (suc n == 0) ≡ false
    some_of n = grind (arith, nat_tests)

turned : (some over : Bool) → some ≡ not over → over ≡ not some
turned some true is = sym (ap not is)
turned some false is = sym (ap not is)

-- it is over where nothing was read: there are no rows
pub over_is : (read : Option GroupRows) (over : Bool) → is_some read ≡ not over → (rows : List Row) → AreReached read rows → over ≡ (length rows == 0)
over_is read over is rows are = turned (is_some read) over is ∙ none_is read rows are

-- what is answered where nothing was read
pub made_end : (places : List ℕ) (read : Option GroupRows) (rows : List Row) → read ≡ None → AreReached read rows → ended ≡ next_answer (batches_with places rows)
made_end places read rows is are =
    let none : rows ≡ [] = subst (λ (o : Option GroupRows). AreReached o rows) is are in
    ap (λ (xs : List Row). next_answer (batches_with places xs)) (sym none)

batch_of : (places : List ℕ) (rows : List Row) → (rows ≡ [] → ⊥) → batch (record { places = places; rows = rows }) ≡ next_answer (batches_with places rows)
batch_of places [] some = absurd (some refl)
batch_of places (row ∷ rows) some = refl

-- what is answered where rows were read, and were made
pub made_batch : (places own : List ℕ) (read : Option GroupRows) (g : GroupRows) (made : List Row) → read ≡ Some g → ((rows : List ValueTrees) → rows_held g rows → rows ≡ made) → own ≡ places
    → (rows : List Row) → AreReached read rows → batch (record { places = own; rows = made }) ≡ next_answer (batches_with places rows)
made_batch places own read g made is all same rows are =
    let reached : AreReached (Some g) rows = subst (λ (o : Option GroupRows). AreReached o rows) is are in
    ap (λ (ps : List ℕ). batch (record { places = ps; rows = made })) same ∙ ap (λ (xs : List Row). batch (record { places = places; rows = xs })) (sym (all rows reached.0)) ∙ batch_of places rows reached.1

-- the rows as a batch, or the end
pub shown_answer : (places : List ℕ) (read : Option GroupRows) (made : Option FetchedRows) → AreShown places read made → (answer : Answer) → IsShownAs (Ok made) answer → (rows : List Row) × AreReached read rows × (answer ≡ next_answer (batches_with places rows))
shown_answer places None None are answer is = ([], refl, is)
shown_answer places None (Some f) are answer is = absurd are
shown_answer places (Some g) None are answer is = absurd are
shown_answer places (Some g) (Some f) are answer is =
    let reached : AreReached (Some g) is.0 = subst (λ (x : GroupRows). AreReached (Some x) is.0) are.1 is.1 in
    (is.0, reached, is.2 ∙ by is.0 reached.1)
  where
    by : (rows : List Row) → (rows ≡ [] → ⊥) → batch (record { places = f.places.items; rows = rows }) ≡ next_answer (batches_with places rows)
    by [] some = absurd (some refl)
    by (row ∷ rows) some = ap (λ (ps : List ℕ). batch (record { places = ps; rows = row ∷ rows })) are.0

pub shown_some : (places : List ℕ) (read : Option GroupRows) (made : Option FetchedRows) → AreShown places read made → (rows : List Row) → AreReached read rows → (answer : Answer) × IsShownAs (Ok made) answer
shown_some places None None are rows reached = (ended, refl)
shown_some places None (Some f) are rows reached = absurd are
shown_some places (Some g) None are rows reached = absurd are
shown_some places (Some g) (Some f) are rows reached = (batch (record { places = f.places.items; rows = rows }), (rows, subst (λ (x : GroupRows). AreReached (Some x) rows) (sym are.1) reached, refl))
