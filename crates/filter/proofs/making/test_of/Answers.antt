use Rattle.std.proofs.Common.{◌≡◌, ℕ, map, Option, Some, Ok, Err, sym, ap, ◌∙◌, subst}
use Rattle.std.specs.Prelude.{IfOk}
use Rattle.lists.proofs.Slices.{slice_get_map as gets_here}
use Rattle.bits.specs.Refusals.{RefusedOnly}
use Rattle.schema.specs.Stripe.{Leaf}
use Rattle.schema.specs.Views.{leaf_view}
use Rattle.filter.specs.Test.{test_view}
use Rattle.filter.specs.Terms.{names_of, term_view, named_leaf, test_found}
use Rattle.filter.proofs.making.test_of.Goals as goal

pub returns-in-Some-clause-made : goal.returns-in-Some-clause-made
returns-in-Some-clause-made c =
    let leaf = leaf_view c.index-leaves-place.result in
    let there = gets_here leaf_view c.args.leaves.now c.in-Some.place c.index-leaves-place.result c.in-Some.ensures.0 c.index-leaves-place.is in
    let found : named_leaf 0 (map leaf_view c.args.leaves.now) (term_view c.args.term.now).column ≡ Some (c.in-Some.place, leaf) = ap (λ ns. named_leaf 0 (map leaf_view c.args.leaves.now) (names_of ns)) (sym c.as_slice.ensures.value) ∙ c.in-Some.ensures.1 leaf there in
    subst (λ (f : Option (ℕ × Leaf)). IfOk c.test_at.result (λ t. test_found (term_view c.args.term.now) f ≡ Ok (test_view t))) (sym found) c.test_at.ensures.made

pub returns-in-Some-clause-which : goal.returns-in-Some-clause-which
returns-in-Some-clause-which c =
    let leaf = leaf_view c.index-leaves-place.result in
    let there = gets_here leaf_view c.args.leaves.now c.in-Some.place c.index-leaves-place.result c.in-Some.ensures.0 c.index-leaves-place.is in
    let found : named_leaf 0 (map leaf_view c.args.leaves.now) (term_view c.args.term.now).column ≡ Some (c.in-Some.place, leaf) = ap (λ ns. named_leaf 0 (map leaf_view c.args.leaves.now) (names_of ns)) (sym c.as_slice.ensures.value) ∙ c.in-Some.ensures.1 leaf there in
    subst (λ (f : Option (ℕ × Leaf)). RefusedOnly (λ e. test_found (term_view c.args.term.now) f ≡ Err e) c.test_at.result) (sym found) c.test_at.ensures.which
