use Rattle.std.proofs.Common.{◌≡◌, map, Ok, Err, Result, List, subst, refl}
use Rattle.std.specs.Prelude.{IfOk}
use Rattle.bits.specs.declared.refusal.Refusal.{Refusal}
use Rattle.bits.specs.Refusals.{RefusedOnly}
use Rattle.schema.specs.Views.{leaf_view}
use Rattle.filter.specs.Terms.{Term, terms_view}
use Rattle.jsonrows.specs.Filters.{filter_in_as, filter_of_as}
use Rattle.jsonrows.proofs.Operands.{of_array}
use Rattle.jsonrows.proofs.filter_reading.filter_of.Goals as goal

pub returns-in-Array-clause-made : goal.returns-in-Array-clause-made
returns-in-Array-clause-made c =
    let same = of_array (filter_of_as c.args.texts (map leaf_view c.args.leaves.now)) (filter_in_as c.args.texts (map leaf_view c.args.leaves.now)) c.args.json.now c.in-Array.items c.as_slice.result.now (λ ds. refl) c.in-Array.is c.as_slice.ensures.value in
    subst (λ (q : Result (List (List Term)) Refusal). IfOk c.filter_in.result (λ x. q ≡ Ok (terms_view x.items))) same c.filter_in.ensures.made

pub returns-in-Array-clause-which : goal.returns-in-Array-clause-which
returns-in-Array-clause-which c =
    let same = of_array (filter_of_as c.args.texts (map leaf_view c.args.leaves.now)) (filter_in_as c.args.texts (map leaf_view c.args.leaves.now)) c.args.json.now c.in-Array.items c.as_slice.result.now (λ ds. refl) c.in-Array.is c.as_slice.ensures.value in
    subst (λ (q : Result (List (List Term)) Refusal). RefusedOnly (λ e. q ≡ Err e) c.filter_in.result) same c.filter_in.ensures.which
