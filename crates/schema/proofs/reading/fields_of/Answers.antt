use Rattle.std.proofs.Common.{◌∙◌, sym, subst, arith}
use Rattle.std.proofs.lemmas.Bool.{false≢true}
use Rattle.bits.proofs.Passing.{passes}
use Rattle.schema.specs.Elements.{elements_view}
use Rattle.schema.specs.Views.{field_views}
use Rattle.schema.specs.Law.{AllDiffer, names}
use Rattle.schema.specs.Faults.{HasFault}
use Rattle.schema.proofs.Trees.{no_tree, large_list, fault_list, twins_list, made_list}
use Rattle.schema.proofs.Limits.{within}
use Rattle.schema.proofs.Forest.{tallest-read}
use Rattle.schema.proofs.reading.fields_of.Goals as goal

pub returns-then-not-is_tree-clause-which : goal.returns-then-not-is_tree-clause-which
returns-then-not-is_tree-clause-which c = no_tree _ (λ t. false≢true (sym c.if-not-is_tree.true ∙ c.is_tree.ensures.1 t))

pub returns-then-count_typed-gt-MOST_LEAVES-clause-which : goal.returns-then-count_typed-gt-MOST_LEAVES-clause-which
returns-then-count_typed-gt-MOST_LEAVES-clause-which c = let n = c.count_typed.ensures in large_list _ (c.is_tree.ensures.0 c.if-not-is_tree.false) (omega (arith, n))

pub returns-in_err-fields-clause-which : goal.returns-in_err-fields-clause-which
returns-in_err-fields-clause-which c =
    passes (HasFault (elements_view c.args.elements.now)) c.from_residual.result c.in_err-fields.field-0.0 c.from_residual.ensures.1
    (fault_list c.args.elements.now c.index-elements-0.result c.children.result c.in_err-fields.field-0.0 c.index-elements-0.is (c.is_tree.ensures.0 c.if-not-is_tree.false) c.children.ensures c.in_err-fields.ensures.which)

pub returns-then-not-branch-clause-which : goal.returns-then-not-branch-clause-which
returns-then-not-branch-clause-which c =
    twins_list c.args.elements.now c.index-elements-0.result c.children.result (field_views c.in_ok-fields.fields.items) c.index-elements-0.is (c.is_tree.ensures.0 c.if-not-is_tree.false) c.children.ensures c.in_ok-fields.ensures.stands
    (λ d. false≢true (sym c.if-not-branch.true ∙ c.in_ok-names_differ.ensures.names_differ.1 (subst (λ xs. AllDiffer (names (field_views xs))) (sym c.as_slice.ensures.value) d)))

pub returns-clause-stands : goal.returns-clause-stands
returns-clause-stands c =
    made_list c.args.elements.now c.index-elements-0.result c.children.result (field_views c.in_ok-fields.fields.items) c.index-elements-0.is (c.is_tree.ensures.0 c.if-not-is_tree.false) c.children.ensures c.in_ok-fields.ensures.stands
    (subst (λ xs. AllDiffer (names (field_views xs))) c.as_slice.ensures.value (c.in_ok-names_differ.ensures.names_differ.0 c.if-not-branch.false))

pub returns-clause-within : goal.returns-clause-within
returns-clause-within c =
    let n = c.count_typed.ensures in
    let few = c.if-count_typed-gt-MOST_LEAVES.false in
    within (elements_view c.args.elements.now) (field_views c.in_ok-fields.fields.items)
    (made_list c.args.elements.now c.index-elements-0.result c.children.result (field_views c.in_ok-fields.fields.items) c.index-elements-0.is (c.is_tree.ensures.0 c.if-not-is_tree.false) c.children.ensures c.in_ok-fields.ensures.stands
    (subst (λ xs. AllDiffer (names (field_views xs))) c.as_slice.ensures.value (c.in_ok-names_differ.ensures.names_differ.0 c.if-not-branch.false)))
    (tallest-read 32 _ (field_views c.in_ok-fields.fields.items) c.in_ok-fields.ensures.stands)
    (omega (arith, n, few))

pub returns-clause-shallow : goal.returns-clause-shallow
returns-clause-shallow c = tallest-read 32 _ (field_views c.in_ok-fields.fields.items) c.in_ok-fields.ensures.stands
