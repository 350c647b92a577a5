use Rattle.std.proofs.Common.{◌≡◌, ◌+◌, ◌∷◌, List, length, drop, ap, sym, ◌∙◌, arith, length-append}
use Rattle.std.proofs.lemmas.List.{drop_more}
use Rattle.schema.specs.declared.field.Field.{Field as CodeField}
use Rattle.schema.specs.Listed.{listing, listings}
use Rattle.schema.specs.Views.{field_view, field_views}
use Rattle.schema.proofs.key_elements.+sizes.Goals as goal

pub count_elements_each-loop-field-preserved : goal.count_elements_each-loop-field-preserved
count_elements_each-loop-field-preserved t c =
    let xs = c.args.fields.now in
    let i = c.loop-field.field-index in
    let f = c.field-item.result in
    let here : drop i xs ≡ f ∷ drop (i + 1) xs = drop_more xs i f (omega arith) ∙ ap (λ (y : CodeField). y ∷ drop (i + 1) xs) (sym c.field-item.is) in
    let all = ap (λ (ys : List CodeField). length (listings (field_views ys))) here ∙ length-append (listing (field_view f)) (listings (field_views (drop (i + 1) xs))) in
    omega (arith, all, c.loop-field.invariant, c.count_elements-total.ensures)
