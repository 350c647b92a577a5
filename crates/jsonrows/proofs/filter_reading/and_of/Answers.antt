use Rattle.std.proofs.Common.{◌≡◌, map, Ok, Err, Result, List, subst, refl}
use Rattle.std.specs.Prelude.{IfOk}
use Rattle.bits.specs.declared.refusal.Refusal.{Refusal}
use Rattle.bits.specs.Refusals.{RefusedOnly}
use Rattle.schema.specs.Views.{leaf_view}
use Rattle.filter.specs.Terms.{Term, term_view, each_of}
use Rattle.jsonrows.specs.Filters.{term_of_as, and_of_as}
use Rattle.jsonrows.proofs.Operands.{of_array}
use Rattle.jsonrows.proofs.filter_reading.and_of.Goals as goal

pub returns-in-Array-clause-made : goal.returns-in-Array-clause-made
returns-in-Array-clause-made c =
    let same = of_array (and_of_as c.args.texts (map leaf_view c.args.leaves.now)) (each_of (term_of_as c.args.texts (map leaf_view c.args.leaves.now))) c.args.json.now c.in-Array.items c.as_slice.result.now (λ ds. refl) c.in-Array.is c.as_slice.ensures.value in
    subst (λ (q : Result (List Term) Refusal). IfOk c.terms_of.result (λ x. q ≡ Ok (map term_view x.items))) same c.terms_of.ensures.made

pub returns-in-Array-clause-which : goal.returns-in-Array-clause-which
returns-in-Array-clause-which c =
    let same = of_array (and_of_as c.args.texts (map leaf_view c.args.leaves.now)) (each_of (term_of_as c.args.texts (map leaf_view c.args.leaves.now))) c.args.json.now c.in-Array.items c.as_slice.result.now (λ ds. refl) c.in-Array.is c.as_slice.ensures.value in
    subst (λ (q : Result (List Term) Refusal). RefusedOnly (λ e. q ≡ Err e) c.terms_of.result) same c.terms_of.ensures.which
