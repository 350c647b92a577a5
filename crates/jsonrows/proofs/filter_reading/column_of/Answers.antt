use Rattle.std.proofs.Common.{◌≡◌, Ok, Err, Result, List, subst, refl}
use Rattle.std.specs.Prelude.{IfOk}
use Rattle.bits.specs.declared.refusal.Refusal.{Refusal}
use Rattle.bits.specs.Refusals.{RefusedOnly}
use Rattle.std.proofs.Common.{ℕ}
use Rattle.filter.specs.Terms.{names_of, each_of}
use Rattle.jsonrows.specs.Filters.{name_of, column_of}
use Rattle.jsonrows.proofs.Operands.{of_array}
use Rattle.jsonrows.proofs.filter_reading.column_of.Goals as goal

pub returns-in-Array-clause-made : goal.returns-in-Array-clause-made
returns-in-Array-clause-made c =
    let same = of_array (column_of) (each_of name_of) c.args.json.now c.in-Array.items c.as_slice.result.now (λ ds. refl) c.in-Array.is c.as_slice.ensures.value in
    subst (λ (q : Result (List (List ℕ)) Refusal). IfOk c.names_from.result (λ x. q ≡ Ok (names_of x.items))) same c.names_from.ensures.made

pub returns-in-Array-clause-which : goal.returns-in-Array-clause-which
returns-in-Array-clause-which c =
    let same = of_array (column_of) (each_of name_of) c.args.json.now c.in-Array.items c.as_slice.result.now (λ ds. refl) c.in-Array.is c.as_slice.ensures.value in
    subst (λ (q : Result (List (List ℕ)) Refusal). RefusedOnly (λ e. q ≡ Err e) c.names_from.result) same c.names_from.ensures.which
