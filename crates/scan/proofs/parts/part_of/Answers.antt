use Rattle.std.proofs.Common.{◌≡◌, ◌<◌, ◌==◌, ℕ, List, length, map, vec_len, eqb-true, ap, sym, subst, false, ◌∙◌}
use Rattle.std.proofs.lemmas.Bool.{false≢true}
use Rattle.std.proofs.lemmas.List.{nil_from_length as empty_when}
use Rattle.schema.specs.Cutting.{IsCutTo}
use Rattle.schema.specs.Keys.{key_columns_view, places_of}
use Rattle.schema.specs.Stripe.{leaves_of}
use Rattle.schema.specs.declared.value.Value.{Value}
use Rattle.schema.specs.Values.{ValueTree, no_values, views}
use Rattle.filter.specs.Test.{tests_in}
use Rattle.scan.specs.inner.Fills.{fill_view, filled}
use Rattle.scan.specs.inner.Uses.{numbers_of}
use Rattle.scan.proofs.Selecting.{are_places, cut_memory, some_when}
use Rattle.scan.proofs.UseLaws.{uses_length}
use Rattle.scan.proofs.parts.part_of.Goals as goal

pub returns-then-is_empty-clause-stands : goal.returns-then-is_empty-clause-stands
returns-then-is_empty-clause-stands c =
    let none : length c.in_ok-numbers.numbers.items ≡ 0 = sym c.in_ok-numbers.numbers.ok.0 ∙ eqb-true (vec_len c.in_ok-numbers.numbers) 0 (sym c.is_empty.ensures ∙ c.if-is_empty.true) in
    let numbers = ap (numbers_of false 0) (sym (c.as_slice.ensures.value ∙ c.in_ok-uses.ensures.stands)) ∙ sym c.in_ok-numbers.ensures.stands ∙ empty_when c.in_ok-numbers.numbers.items none in (
      numbers,
      c.in_ok-completed.ensures.stands
          ∙ ap (λ (vs : List Value). filled (map fill_view c.as_slice-then-is_empty.result.now) (views vs)) c.new.ensures.items
          ∙ ap (λ (f : List (ℕ × ValueTree)). filled f no_values) (ap (map fill_view) c.as_slice-then-is_empty.ensures.value ∙ c.in_ok-fills.ensures.stands),
    )

pub returns-in_err-cut-clause-which : goal.returns-in_err-cut-clause-which
returns-in_err-cut-clause-which c =
    let keys = places_of (key_columns_view c.args.keys.now) in
    let fs = c.args.schema.now in
    let us = c.as_slice.result.now in
    let are = c.as_slice.ensures.value ∙ c.in_ok-uses.ensures.stands in
    let numbers : c.as_slice-2.result.now ≡ numbers_of false 0 us = c.as_slice-2.ensures.value ∙ c.in_ok-numbers.ensures.stands in
    let leaf_count = ap length are ∙ uses_length (tests_in c.args.filter.now) keys c.args.group.now.width c.args.places.now 0 (leaves_of fs) in
    let some : 0 < length c.as_slice-2.result.now = some_when c.as_slice-2.result.now
    (λ none. false≢true (sym c.if-is_empty.false ∙ c.is_empty.ensures ∙ ap (λ (n : ℕ). n == 0) (c.in_ok-numbers.numbers.ok.0 ∙ ap length (sym c.as_slice-2.ensures.value) ∙ none))) in
    cut_memory c.as_slice-2.result.now fs c.from_residual-in_err-cut.result c.in_err-cut.field-0.0 c.from_residual-in_err-cut.ensures.1 (are_places false fs us leaf_count c.as_slice-2.result.now numbers some) c.in_err-cut.ensures.which

pub returns-clause-stands : goal.returns-clause-stands
returns-clause-stands c =
    let numbers = c.as_slice-2.ensures.value ∙ c.in_ok-numbers.ensures.stands ∙ ap (numbers_of false 0) c.as_slice.ensures.value in
    (c.in_ok-uses.ensures.stands, subst (λ (ns : List ℕ). IsCutTo ns c.args.schema.now c.in_ok-cut.cut) numbers c.in_ok-cut.ensures.stands, c.leaves.ensures.valid)
