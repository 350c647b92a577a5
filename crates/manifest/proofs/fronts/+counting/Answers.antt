use Rattle.std.proofs.Common.{◌≡◌, ◌+◌, ◌∷◌, List, length, drop, ap, sym, ◌∙◌, arith}
use Rattle.std.proofs.lemmas.List.{drop_more}
use Rattle.schema.specs.declared.field.Field.{Field as CodeField}
use Rattle.schema.specs.Stripe.{leaves_of}
use Rattle.schema.specs.Views.{field_view, field_views}
use Rattle.schema.proofs.FieldViews.{one_more}
use Rattle.manifest.proofs.fronts.+counting.Goals as goal

pub count_leaves_each-loop-field-preserved : goal.count_leaves_each-loop-field-preserved
count_leaves_each-loop-field-preserved t c =
    let xs = c.args.fields.now in
    let i = c.loop-field.field-index in
    let f = c.field-item.result in
    let here : drop i xs ≡ f ∷ drop (i + 1) xs = drop_more xs i f (omega arith) ∙ ap (λ (y : CodeField). y ∷ drop (i + 1) xs) (sym c.field-item.is) in
    let all = ap (λ (ys : List CodeField). length (leaves_of (field_views ys))) here ∙ one_more (field_view f) (field_views (drop (i + 1) xs)) in
    omega (arith, all, c.loop-field.invariant, c.count_leaves-total.ensures)
