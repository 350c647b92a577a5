-- Rows that are taken one by one.
use Rattle.std.proofs.Common.{◌≡◌, List, [], ◌∷◌, ◌++◌, sym, ap, ◌∙◌, Result, Ok, Err, append_assoc}
use Rattle.std.specs.Prelude.{Bool, true, false, Option, Some, None}
use Rattle.std.specs.Result.{IsErrAnd}
use Rattle.bits.specs.Faults.{refusal_of}
use Rattle.bits.specs.declared.fault.Fault.{Fault}
use Rattle.bits.specs.declared.refusal.Refusal.{Refusal}
use Rattle.bits.specs.declared.refusal.Refusal.TheVariants.{Memory}
use Rattle.schema.specs.declared.row.Row.{Row}
use Rattle.schema.specs.Values.{ValueTrees}
use Rattle.assemble.specs.Sinks.{Token}
use Rattle.row_group.specs.Left.{TakesRow, TakesRowTo, with_refusal}

-- a refusal that is passed on
pub passes_row : (S T : List ValueTrees → Type 0) (r : Result (Option Row) Refusal) (e : Refusal) → IsErrAnd r (λ f. f ≡ e) → ((rows : List ValueTrees) → S rows → e ≡ Memory) → TakesRow S T r
passes_row S T (Ok (Some row)) e is p = absurd is
passes_row S T (Ok None) e is p = absurd is
passes_row S T (Err f) e is p = λ rows s. is ∙ p rows s

pub passes_shown : (S T : List ValueTrees → Type 0) (from to : List Token → Type 0) (r : Result Bool Refusal) (e : Refusal) → IsErrAnd r (λ f. f ≡ e) → ((rows : List ValueTrees) → S rows → e ≡ Memory) → TakesRowTo S T from to r
passes_shown S T from to (Ok true) e is p = absurd is
passes_shown S T from to (Ok false) e is p = absurd is
passes_shown S T from to (Err f) e is p = λ rows s. is ∙ p rows s

pub passes_fault : (S T : List ValueTrees → Type 0) (from to : List Token → Type 0) (r : Result Bool Fault) (f : Fault) → IsErrAnd r (λ g. g ≡ f) → ((rows : List ValueTrees) → S rows → refusal_of f ≡ Memory) → TakesRowTo S T from to (with_refusal r)
passes_fault S T from to (Ok true) f is p = absurd is
passes_fault S T from to (Ok false) f is p = absurd is
passes_fault S T from to (Err g) f is p = λ rows s. ap refusal_of is ∙ p rows s

-- what stood before stands
pub takes_later : (S R T : List ValueTrees → Type 0) (from to : List Token → Type 0) (r : Result Bool Refusal) → ((rows : List ValueTrees) → S rows → R rows) → TakesRowTo R T from to r → TakesRowTo S T from to r
takes_later S R T from to (Ok true) stood takes = λ rows s. takes rows (stood rows s)
takes_later S R T from to (Ok false) stood takes = λ rows s. takes rows (stood rows s)
takes_later S R T from to (Err e) stood takes = λ rows s. takes rows (stood rows s)

-- one more row was taken
pub one_taken : (all before rest next : List ValueTrees) (row : ValueTrees) → all ≡ before ++ rest → rest ≡ row ∷ next → all ≡ (before ++ row ∷ []) ++ next
one_taken all before rest next row split first = split ∙ ap (λ (t : List ValueTrees). before ++ t) first ∙ sym (append_assoc before (row ∷ []) next)
