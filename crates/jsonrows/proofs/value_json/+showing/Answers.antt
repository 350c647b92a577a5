use Rattle.std.proofs.Common.{◌≡◌, ◌∷◌, ◌+◌, ◌-◌, drop, refl, sym, ap, subst, ◌∙◌, arith}
use Rattle.std.proofs.lemmas.List.{drop_more, drop_all}
use Rattle.std.specs.Prelude.{IfOk}
use Rattle.bits.specs.Refusals.{HasCause, RefusedOnly}
use Rattle.bits.proofs.Passing.{passes}
use Rattle.serde_json.specs.Data as json
use Rattle.serde_json.specs.View.{view}
use Rattle.serde_json.proofs.Views.{view-Array}
use Rattle.schema.specs.Values.{view as value_view, views, each}
use Rattle.schema.specs.Views.{field_view, field_views}
use Rattle.schema.specs.Fits.{fits, fits_inside, fits_each}
use Rattle.schema.proofs.Views.{fits_each-lengths}
use Rattle.rowtext.specs.Json.{inside_json_as, field_json_as, members_json_as}
use Rattle.jsonrows.specs.inner.ValueJson.{IsShownSo, IsMisfit}
use Rattle.jsonrows.proofs.ShownValues.{list_fits, list_json, item_misfit, all_fit, all_shown, member_misfit}
use Rattle.jsonrows.proofs.PresentValues.{not_null, present_json, present_fits}
use Rattle.jsonrows.proofs.value_json.+showing.Goals as goal

pub field_json-returns-in_err-all-in-List-clause-which : goal.field_json-returns-in_err-all-in-List-clause-which
field_json-returns-in_err-all-in-List-clause-which t c =
    let f = field_view c.args.field.now in
    let e = c.in_err-all-in-List.field-0.0 in
    let same = list_fits f c.args.value.now c.in-List.items c.as_slice.result.now (sym c.repetition.ensures ∙ c.in-Repeated.is) c.in-List.is c.as_slice.ensures.value in
    passes (HasCause (IsMisfit (fits f _))) c.from_residual.result e c.from_residual.ensures.1 (subst (λ b. HasCause (IsMisfit b) e) same c.in_err-all-in-List.ensures.which)

pub field_json-returns-in_ok-all-in-List-clause-shown : goal.field_json-returns-in_ok-all-in-List-clause-shown
field_json-returns-in_ok-all-in-List-clause-shown t c =
    let f = field_view c.args.field.now in
    let repeated = sym c.repetition.ensures ∙ c.in-Repeated.is in
    let same = list_fits f c.args.value.now c.in-List.items c.as_slice.result.now repeated c.in-List.is c.as_slice.ensures.value in
    let shown = list_json c.args.texts f c.args.value.now c.in-List.items c.as_slice.result.now repeated c.in-List.is c.as_slice.ensures.value in
    let made = c.in_ok-all-in-List.ensures.shown in
    (sym same ∙ made.0, view-Array c.in_ok-all-in-List.all ∙ ap json.array made.1 ∙ shown)

pub items_json-returns-in_err-shown-clause-which : goal.items_json-returns-in_err-shown-clause-which
items_json-returns-in_err-shown-clause-which t c =
    let l = c.loop-item in
    let xs = c.args.items.now in
    let v = c.item-item.result in
    let e = c.in_err-shown.field-0.0 in
    let here : drop l.item-index xs ≡ v ∷ drop (l.item-index + 1) xs = drop_more xs l.item-index v (omega arith) ∙ ap (λ y. y ∷ drop (l.item-index + 1) xs) (sym c.item-item.is) in
    passes (HasCause (IsMisfit (each (fits_inside (field_view c.args.field.now)) (views xs)))) c.from_residual-in_err-shown.result e c.from_residual-in_err-shown.ensures.1
    (item_misfit (fits_inside (field_view c.args.field.now)) xs (drop (l.item-index + 1) xs) l.item-index v e here l.invariant.fit c.in_err-shown.ensures.which)

pub items_json-returns-clause-shown : goal.items_json-returns-clause-shown
items_json-returns-clause-shown t c =
    let l = c.loop-item in
    let xs = c.args.items.now in
    let none = drop_all l.item-index xs (omega arith) in (
      all_fit (fits_inside (field_view c.args.field.now)) xs (drop l.item-index xs) none l.invariant.fit,
      all_shown (inside_json_as c.args.texts (field_view c.args.field.now)) _ xs (drop l.item-index xs) none l.invariant.made,
    )

pub members_json-returns-then-fields-values-clause-which : goal.members_json-returns-then-fields-values-clause-which
members_json-returns-then-fields-values-clause-which t c = (refl, fits_each-lengths c.args.fields.now c.args.values.now c.if-fields-values.true)

pub members_json-returns-in_err-shown-clause-which : goal.members_json-returns-in_err-shown-clause-which
members_json-returns-in_err-shown-clause-which t c =
    let l = c.loop-i in
    let fs = c.args.fields.now in
    let vs = c.args.values.now in
    let f = c.index-fields-i.result in
    let v = c.index-values-i.result in
    let i = l.i - 1 in
    let e = c.in_err-shown.field-0.0 in
    let at : drop i fs ≡ f ∷ drop (i + 1) fs = drop_more fs i f (omega arith) ∙ ap (λ y. y ∷ drop (i + 1) fs) (sym c.index-fields-i.is) in
    let there : drop i vs ≡ v ∷ drop (i + 1) vs = drop_more vs i v (omega arith) ∙ ap (λ y. y ∷ drop (i + 1) vs) (sym c.index-values-i.is) in
    passes (HasCause (IsMisfit (fits_each (field_views fs) (views vs)))) c.from_residual.result e c.from_residual.ensures.1
    (member_misfit fs (drop (i + 1) fs) vs (drop (i + 1) vs) i f v e at there c.in_err-shown.ensures.which)

pub members_json-returns-clause-shown : goal.members_json-returns-clause-shown
members_json-returns-clause-shown t c =
    let l = c.loop-i in
    let fs = c.args.fields.now in
    let vs = c.args.values.now in
    let none : l.i ≡ 0 = omega arith in (
      ap (λ n. fits_each (field_views (drop n fs)) (views (drop n vs))) (sym none) ∙ l.invariant.fit,
      l.invariant.made ∙ ap (λ n. members_json_as c.args.texts (field_views (drop n fs)) (views (drop n vs))) none,
    )

pub field_json-returns-in_default : goal.field_json-returns-in_default
field_json-returns-in_default t c =
    let f = field_view c.args.field.now in
    let v = value_view c.args.value.now in
    let r = c.inside_json-in_default.result in
    let optional = sym c.repetition.ensures ∙ c.in-Optional.is in
    let there = not_null c.args.value.now c.in_default.not-Null in
    let fit = sym (present_fits f v optional there) in
    let shown = sym (present_json c.args.texts f v optional there) in
    record {
      shown = subst (λ b. IfOk r (λ json. IsShownSo b (field_json_as c.args.texts f v) (view json))) fit (subst (λ d. IfOk r (λ json. IsShownSo (fits_inside f v) d (view json))) shown c.inside_json-in_default.ensures.shown);
      which = subst (λ b. RefusedOnly (IsMisfit b) r) fit c.inside_json-in_default.ensures.which;
    }
