use Rattle.std.proofs.Common.{◌≡◌, ◌+◌, ◌∷◌, List, drop, ap, sym, ◌∙◌, subst, arith, inl, inr}
use Rattle.std.proofs.lemmas.Bool.{cases_lt}
use Rattle.std.proofs.lemmas.List.{drop_more, drop_all}
use Rattle.schema.specs.declared.field.Field.{Field as CodeField}
use Rattle.schema.specs.Shape.{field}
use Rattle.schema.specs.Views.{field_view, field_views}
use Rattle.schema.specs.Fronts.{fields_after, AreOptional}
use Rattle.schema.proofs.FieldViews.{after_views}
use Rattle.manifest.proofs.FrontEnds.{optional_at}
use Rattle.manifest.proofs.fronts.least_of.Goals as goal
use Rattle.manifest.proofs.fronts.least_of.Goals.{then-not-is_optional, else-not-is_optional}

pub loop-at-preserved : goal.loop-at-preserved
loop-at-preserved c =
    let xs = c.args.fields.now in
    let i = c.loop-at.at in
    let f = c.index-fields-at.result in
    let here : drop i xs ≡ f ∷ drop (i + 1) xs = drop_more xs i f (omega arith) ∙ ap (λ (y : CodeField). y ∷ drop (i + 1) xs) (sym c.index-fields-at.is) in
    let split : fields_after i (field_views xs) ≡ field (field_view f) (field_views (drop (i + 1) xs)) = after_views i xs ∙ ap (λ (ys : List CodeField). field_views ys) here in
    let next : fields_after (i + 1) (field_views xs) ≡ field_views (drop (i + 1) xs) = after_views (i + 1) xs in
    elim c.if-not-is_optional.branch [
      | then-not-is_optional w ↦ rw w.least-is record {
        some = omega arith;
        optional = λ h. h;
        needed = λ n one within h. elim (cases_lt i n) [
          | inl lt ↦ omega (arith, lt)
          | inr ge ↦ absurd (c.is_optional.ensures.no w.if-not-is_optional.true (optional_at n i (field_views xs) (field_views (drop (i + 1) xs)) (field_view f) ge split h))
        ];
      }
      | else-not-is_optional w ↦ rw w.least-is record {
        some = c.loop-at.invariant.some;
        optional = λ h. c.loop-at.invariant.optional (subst AreOptional (sym split) (c.is_optional.ensures.yes w.if-not-is_optional.false, subst AreOptional next h));
        needed = c.loop-at.invariant.needed;
      }
    ]

pub returns-clause-optional : goal.returns-clause-optional
returns-clause-optional c =
    let xs = c.args.fields.now in
    c.loop-at.invariant.optional (subst AreOptional (sym (after_views c.loop-at.at xs ∙ ap (λ (ys : List CodeField). field_views ys) (drop_all c.loop-at.at xs (omega arith)))) tt)
