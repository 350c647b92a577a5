use Rattle.std.proofs.Common.{◌≡◌, ℕ, List, map, Option, Some, Result, Ok, Err, refl, sym, ap, subst, ◌∙◌}
use Rattle.bits.specs.declared.refusal.Refusal.{Refusal}
use Rattle.bits.specs.Refusals.{HasCause}
use Rattle.bits.proofs.Passing.{passes}
use Rattle.serde_json.specs.View.{view}
use Rattle.filter.specs.Terms.{each_of}
use Rattle.jsonrows.specs.Filters.{◌>>=◌, name_of}
use Rattle.jsonrows.specs.Calls.{columns_of}
use Rattle.jsonrows.proofs.Operands.{of_array}
use Rattle.jsonrows.proofs.CallFaults.{then_fault}
use Rattle.jsonrows.proofs.call_members.columns_of.Goals as goal

-- names are the columns that are wanted
abbrev those : List (List ℕ) → Result (Option (List (List ℕ))) Refusal
those names = Ok (Some names)

pub returns-in_err-names-in-Array-clause-which : goal.returns-in_err-names-in-Array-clause-which
returns-in_err-names-in-Array-clause-which c =
    let same = of_array columns_of (λ ds. each_of name_of ds >>= those) c.args.json.now c.in-Array.items c.as_slice.result.now (λ ds. refl) c.in-Array.is c.as_slice.ensures.value in
    let e = c.in_err-names-in-Array.field-0.0 in
    passes (HasCause (λ x. columns_of (view c.args.json.now) ≡ Err x)) c.from_residual.result e c.from_residual.ensures.1
    (subst (λ (q : Result (Option (List (List ℕ))) Refusal). HasCause (λ x. q ≡ Err x) e) same (then_fault (each_of name_of (map view c.as_slice.result.now)) those e c.in_err-names-in-Array.ensures.which))

pub returns-in_ok-names-in-Array-clause-made : goal.returns-in_ok-names-in-Array-clause-made
returns-in_ok-names-in-Array-clause-made c =
    let same = of_array columns_of (λ ds. each_of name_of ds >>= those) c.args.json.now c.in-Array.items c.as_slice.result.now (λ ds. refl) c.in-Array.is c.as_slice.ensures.value in
    sym same ∙ ap (λ r. r >>= those) c.in_ok-names-in-Array.ensures.made
