use Rattle.std.proofs.Common.{◌≡◌, ◌+◌, ◌++◌, ◌∷◌, [], List, Some, None, drop, ap, sym, subst, ◌∙◌, arith}
use Rattle.std.specs.Prelude.{option_map}
use Rattle.std.proofs.lemmas.List.{drop_more, drop_all, length-map, map-append as map-both}
use Rattle.schema.specs.declared.field.Field.{Field as CodeField}
use Rattle.schema.specs.Shape.{field, no_fields}
use Rattle.schema.specs.Elements.{Element, element_view, elements_view}
use Rattle.schema.specs.Listed.{listings}
use Rattle.schema.specs.Views.{field_view, field_views}
use Rattle.schema.specs.Keys.{key_column_view, key_columns_view}
use Rattle.schema.specs.Fronts.{fields_after}
use Rattle.schema.specs.inner.Keyed.{key_at, IsMade}
use Rattle.schema.proofs.FieldViews.{after_views}
use Rattle.schema.proofs.TableFields.{key_placed, other_placed, hole}
use Rattle.schema.proofs.keyed.place_one.Goals as goal

pub returns-in-Some-clause-placed : goal.returns-in-Some-clause-placed
returns-in-Some-clause-placed c =
    let keys = key_columns_view c.args.keys.now in
    let stored = c.args.stored.now in
    let out = elements_view c.args.out.now.items in
    let k = key_column_view c.in-Some.key.now in
    let here : key_at c.args.place keys ≡ Some k = sym c.key_at.ensures ∙ ap (option_map (λ x. key_column_view x.now)) c.in-Some.is in
    let pushed : elements_view c.push.new.self.items ≡ out ++ element_view c.in_ok-element.element ∷ [] = ap elements_view c.in_ok-push.ensures.items ∙ map-both element_view c.args.out.now.items (c.in_ok-element.element ∷ []) in
    let all = pushed ∙ ap (λ (e : Element). out ++ e ∷ []) c.in_ok-element.ensures.element_is in
    (subst (λ (es : List Element). IsMade keys stored (c.args.place + 1) c.args.next es c.args.total) (sym all) (key_placed keys stored c.args.place c.args.next c.args.total out k c.requires.made here), c.requires.from)

pub returns-then-next-fields-clause-placed : goal.returns-then-next-fields-clause-placed
returns-then-next-fields-clause-placed c =
    let keys = key_columns_view c.args.keys.now in
    let stored = c.args.stored.now in
    let xs = c.fields-fields.result.now in
    let here : key_at c.args.place keys ≡ None = sym c.key_at.ensures ∙ ap (option_map (λ x. key_column_view x.now)) c.in_default.is in
    let none : fields_after c.args.next stored ≡ no_fields =
    ap (fields_after c.args.next) (sym c.fields-fields.ensures) ∙ after_views c.args.next xs ∙ ap (λ (ys : List CodeField). field_views ys) (drop_all c.args.next xs (omega arith)) in
    hole keys stored c.args.place c.args.next c.args.total (elements_view c.args.out.now.items) c.requires.made here none (let few = c.requires.few in omega (arith, few, length-map c.args.keys.now key_column_view))

pub push_field-requires : goal.push_field-requires
push_field-requires c =
    let stored = c.args.stored.now in
    let xs = c.fields-fields.result.now in
    let n = c.args.next in
    let f = c.index-fields-next.result in
    let here : drop n xs ≡ f ∷ drop (n + 1) xs = drop_more xs n f (omega arith) ∙ ap (λ (y : CodeField). y ∷ drop (n + 1) xs) (sym c.index-fields-next.is) in
    let split : fields_after n stored ≡ field (field_view f) (field_views (drop (n + 1) xs)) =
    ap (fields_after n) (sym c.fields-fields.ensures) ∙ after_views n xs ∙ ap (λ (ys : List CodeField). field_views ys) here in
    (listings (field_views (drop (n + 1) xs)), c.requires.from (elements_view c.elements.result.now) c.elements.ensures ∙ ap listings split)

pub returns-clause-placed : goal.returns-clause-placed
returns-clause-placed c =
    let keys = key_columns_view c.args.keys.now in
    let stored = c.args.stored.now in
    let out = elements_view c.args.out.now.items in
    let xs = c.fields-fields.result.now in
    let n = c.args.next in
    let f = c.index-fields-next.result in
    let rest = field_views (drop (n + 1) xs) in
    let here : drop n xs ≡ f ∷ drop (n + 1) xs = drop_more xs n f (omega arith) ∙ ap (λ (y : CodeField). y ∷ drop (n + 1) xs) (sym c.index-fields-next.is) in
    let split : fields_after n stored ≡ field (field_view f) rest =
    ap (fields_after n) (sym c.fields-fields.ensures) ∙ after_views n xs ∙ ap (λ (ys : List CodeField). field_views ys) here in
    let later : fields_after (n + 1) stored ≡ rest = ap (fields_after (n + 1)) (sym c.fields-fields.ensures) ∙ after_views (n + 1) xs in
    let none : key_at c.args.place keys ≡ None = sym c.key_at.ensures ∙ ap (option_map (λ x. key_column_view x.now)) c.in_default.is in
    let begins = c.requires.from (elements_view c.elements.result.now) c.elements.ensures ∙ ap listings split in
    let behind = c.in_ok-behind.ensures.behind (listings rest) begins in (
      subst (λ (es : List Element). IsMade keys stored (c.args.place + 1) (n + 1) es c.args.total) (sym c.in_ok-behind.ensures.adds) (other_placed keys stored c.args.place n c.args.total out (field_view f) rest c.requires.made none split),
      (λ es e. ap (drop c.in_ok-behind.behind) (e ∙ sym c.elements.ensures) ∙ behind ∙ ap listings (sym later)),
    )
