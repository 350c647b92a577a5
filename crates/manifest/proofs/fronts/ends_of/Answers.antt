use Rattle.std.proofs.Common.{◌≡◌, ◌+◌, ◌∷◌, ◌++◌, ℕ, List, length, drop, ap, sym, ◌∙◌, arith, append_assoc}
use Rattle.std.proofs.lemmas.List.{drop_more}
use Rattle.schema.specs.declared.field.Field.{Field as CodeField}
use Rattle.schema.specs.Stripe.{leaves, leaves_of}
use Rattle.schema.specs.Views.{field_view, field_views}
use Rattle.manifest.specs.inner.Reading.{ends_from}
use Rattle.schema.proofs.FieldViews.{one_more}
use Rattle.manifest.proofs.fronts.ends_of.Goals as goal

pub loop-field-preserved : goal.loop-field-preserved
loop-field-preserved c =
    let xs = c.args.fields.now in
    let i = c.loop-field.field-index in
    let f = c.field-item.result in
    let t = c.loop-field.total in
    let here : drop i xs ≡ f ∷ drop (i + 1) xs = drop_more xs i f (omega arith) ∙ ap (λ (y : CodeField). y ∷ drop (i + 1) xs) (sym c.field-item.is) in
    let more = ap (λ (ys : List CodeField). length (leaves_of (field_views ys))) here ∙ one_more (field_view f) (field_views (drop (i + 1) xs)) in
    let counted : c.count_leaves-total.result ≡ length (leaves (field_view f)) = c.count_leaves-total.ensures in
    record {
      all =
          ap (λ (es : List ℕ). es ++ ends_from (t + c.count_leaves-total.result) (field_views (drop (i + 1) xs))) c.in_ok-push.ensures.items
          ∙ append_assoc c.loop-field.ends.items _ _
          ∙ ap (λ (n : ℕ). c.loop-field.ends.items ++ (t + n) ∷ ends_from (t + n) (field_views (drop (i + 1) xs))) counted
          ∙ ap (λ (ys : List CodeField). c.loop-field.ends.items ++ ends_from t (field_views ys)) (sym here)
          ∙ c.loop-field.invariant.all;
      left = omega (arith, more, c.loop-field.invariant.left, counted);
    }
