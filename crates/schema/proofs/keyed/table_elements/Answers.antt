use Rattle.std.proofs.Common.{◌≡◌, ◌+◌, ◌++◌, ◌∷◌, [], ℕ, List, None, drop, length, ap, sym, subst, ◌∙◌, arith}
use Rattle.std.proofs.lemmas.List.{drop_all, length-map}
use Rattle.schema.specs.declared.field.Field.{Field as CodeField}
use Rattle.schema.specs.declared.element.Element.{Element as CodeElement}
use Rattle.schema.specs.Shape.{no_fields, count}
use Rattle.schema.specs.Elements.{Element, elements_view}
use Rattle.schema.specs.Listed.{group_element, root_name}
use Rattle.schema.specs.Views.{field_views}
use Rattle.schema.specs.Keys.{key_column_view, key_columns_view}
use Rattle.schema.proofs.Few.{count_leaves}
use Rattle.schema.specs.Fronts.{fields_after}
use Rattle.schema.specs.inner.Keyed.{IsMade}
use Rattle.schema.proofs.FieldViews.{after_views, count_views, some_after}
use Rattle.schema.proofs.TableFields.{begun, whole, unfinished}
use Rattle.schema.proofs.keyed.table_elements.Goals as goal

pub root_element-requires : goal.root_element-requires
root_element-requires c =
    let many = count_leaves 0 c.args.stored.now c.leaves.ensures.valid.1 in
    let size = count_views c.fields-fields.result.now in
    let same = ap count c.fields-fields.ensures in
    let few = c.requires.few in
    omega (arith, many, size, same, few)

pub loop-place-init : goal.loop-place-init
loop-place-init c =
    let n = length c.args.keys.now + length c.fields-fields.result.now in
    let first : elements_view c.push.new.self.items ≡ group_element root_name None None n ∷ [] =
    ap elements_view (c.in_ok-push.ensures.items ∙ ap (λ (xs : List CodeElement). xs ++ c.in_ok-root.root ∷ []) c.new-elements.ensures.items) ∙ ap (λ (e : Element). e ∷ []) c.in_ok-root.ensures.element_is in
    record {
      made = subst (λ (es : List Element). IsMade (key_columns_view c.args.keys.now) c.args.stored.now 0 0 es n) (sym first) (begun (key_columns_view c.args.keys.now) c.args.stored.now n);
      from = λ es e. ap (drop 1) e;
    }

pub place_one-requires-clause-few : goal.place_one-requires-clause-few
place_one-requires-clause-few c =
    let size = count_views c.fields-fields.result.now in
    let same = ap count c.fields-fields.ensures in
    omega (arith, size, same, c.loop-place-test.true)

pub returns-then-next-fields-clause-made : goal.returns-then-next-fields-clause-made
returns-then-next-fields-clause-made c =
    let keys = key_columns_view c.args.keys.now in
    let stored = c.args.stored.now in
    let xs = c.fields-fields.result.now in
    let n = length c.args.keys.now + length xs in
    let size = count_views xs in
    let same = ap count c.fields-fields.ensures in
    let place : c.loop-place.place ≡ n = omega (arith, c.loop-place-test.false, c.loop-place.auto) in
    let total : n ≡ length keys + count stored = omega (arith, size, same, length-map c.args.keys.now key_column_view) in
    let none : fields_after c.loop-place.next stored ≡ no_fields =
    ap (fields_after c.loop-place.next) (sym c.fields-fields.ensures) ∙ after_views c.loop-place.next xs ∙ ap (λ (ys : List CodeField). field_views ys) (drop_all c.loop-place.next xs (omega arith)) in
    whole keys stored c.loop-place.next n (elements_view c.loop-place.elements.items)
    (subst (λ (p : ℕ). IsMade keys stored p c.loop-place.next (elements_view c.loop-place.elements.items) n) place c.loop-place.invariant.made) none total

pub returns-else-next-fields-clause-made : goal.returns-else-next-fields-clause-made
returns-else-next-fields-clause-made c =
    let keys = key_columns_view c.args.keys.now in
    let stored = c.args.stored.now in
    let xs = c.fields-fields.result.now in
    let n = length c.args.keys.now + length xs in
    let size = count_views xs in
    let same = ap count c.fields-fields.ensures in
    let place : c.loop-place.place ≡ n = omega (arith, c.loop-place-test.false, c.loop-place.auto) in
    let total : n ≡ length keys + count stored = omega (arith, size, same, length-map c.args.keys.now key_column_view) in
    let later = some_after xs c.loop-place.next (omega arith) in
    let some = ap (fields_after c.loop-place.next) (sym c.fields-fields.ensures) ∙ after_views c.loop-place.next xs ∙ later.1.1 in
    unfinished keys stored c.loop-place.next n (elements_view c.loop-place.elements.items) later.0 later.1.0
    (subst (λ (p : ℕ). IsMade keys stored p c.loop-place.next (elements_view c.loop-place.elements.items) n) place c.loop-place.invariant.made) some total
