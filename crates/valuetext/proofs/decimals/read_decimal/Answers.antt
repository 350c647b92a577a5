use Rattle.std.proofs.Common.{◌≡◌, refl, sym, ◌∙◌, arith, subst, to_z, of_z, to_z-of_z, FitsSigned}
use Rattle.std.specs.Int.{w128}
use Rattle.valuetext.specs.Decimals.{IsDecimalNumber}
use Rattle.valuetext.proofs.DecimalTexts.{shown_is, reads_made, printed_same, product_same, fits_decimal}
use Rattle.valuetext.proofs.SameTexts.{told_apart, told_same}
use Rattle.valuetext.proofs.decimals.read_decimal.Goals as goal

pub returns-then-places-scale-clause-none : goal.returns-then-places-scale-clause-none
returns-then-places-scale-clause-none c = λ _ number range h.
    let s = shown_is h.0 h.1 c.args.text.now h.4 in
    omega (arith, s.0, h.2, c.places_in-places.ensures, c.if-places-scale.true)

pub returns-in_default-clause-none : goal.returns-in_default-clause-none
returns-in_default-clause-none c = λ _ number range h.
    let s = shown_is h.0 h.1 c.args.text.now h.4 in
    c.in_default.ensures.none refl (subst (λ z. IsDecimalNumber z) (sym s.1) h.4.1)

pub returns-then-ne-clause-none : goal.returns-then-ne-clause-none
returns-then-ne-clause-none c = λ _ number range h.
    let s = shown_is h.0 h.1 c.args.text.now h.4 in
    let shown : c.in-Some.shown ≡ h.1 = c.in-Some.ensures.number ∙ s.1 in
    let fits : FitsSigned w128 c.in-Some.shown = fits_decimal c.in-Some.shown h.1 shown h.4.1 in
    let back : to_z w128 (of_z w128 c.in-Some.shown) ≡ c.in-Some.shown = to_z-of_z fits in
    told_apart _ _ _ c.ne.ensures c.if-ne.true
    (c.as_bytes.ensures.value ∙ c.deref.ensures.0 ∙ printed_same _ h.0 _ h.1 _ _ c.decimal_text-printed.ensures h.4 (c.places_in-places.ensures ∙ s.0) (back ∙ shown))

pub returns-clause-number : goal.returns-clause-number
returns-clause-number c =
    let same = told_same _ _ _ c.ne.ensures c.if-ne.false in
    reads_made c.args.scale c.places_in-places.result _ _ c.args.text.now c.with_missing.result (omega arith) c.with_missing.ensures.number c.decimal_text-printed.ensures
    (sym (c.as_bytes.ensures.value ∙ c.deref.ensures.0) ∙ same)

pub returns-clause-none : goal.returns-clause-none
returns-clause-none c = λ none number range h.
    let s = shown_is h.0 h.1 c.args.text.now h.4 in
    let shown : c.in-Some.shown ≡ h.1 = c.in-Some.ensures.number ∙ s.1 in
    let fits : FitsSigned w128 c.in-Some.shown = fits_decimal c.in-Some.shown h.1 shown h.4.1 in
    let back : to_z w128 (of_z w128 c.in-Some.shown) ≡ c.in-Some.shown = to_z-of_z fits in
    c.with_missing.ensures.none none
    (subst (λ z. IsDecimalNumber z) (product_same c.args.scale h.0 c.places_in-places.result h.1 _ number h.3 (sym (c.places_in-places.ensures ∙ s.0)) (sym (back ∙ shown))) range)
