use Rattle.std.proofs.Common.{◌≡◌, ◌+◌, ◌∷◌, length, drop, true≢false, refl, sym, ap, ◌∙◌, arith}
use Rattle.std.proofs.lemmas.List.{drop_more, drop_all, nil_from_length as nothing_left}
use Rattle.std.specs.Vec.Iter.{into_iter_items}
use Rattle.serde_json.specs.View.{items_view}
use Rattle.schema.specs.Views.{field_view}
use Rattle.rowtext.specs.Reading.{items_read, inside_read_as}
use Rattle.rowtext.proofs.Joined.{behind, goes_on, stops, ends, fails}
use Rattle.rowtext.proofs.Taken.{takes, none_left-empty, none_left-more, repeated_read}
use Rattle.rowtext.proofs.row_reading.+reading.Goals as goal

pub field_from-returns-in-Some-2 : goal.field_from-returns-in-Some-2
field_from-returns-in-Some-2 t c =
    rw (c.in-Some.is, c.in-Array.is) (repeated_read c.args.texts _ c.in-Array.items c.in-Some-2.values (sym c.repetition-2.ensures ∙ c.in-Repeated.is) (rw c.in-Some-2.is at c.in_ok-values-in-Array.ensures))

pub items_from-loop-item-preserved : goal.items_from-loop-item-preserved
items_from-loop-item-preserved t c =
    let l = c.loop-item in
    let read = items_read (inside_read_as c.args.texts (field_view c.args.field.now)) in
    let step = c.in-Some.ensures.steps.0 in
    let gone = c.in-Some.ensures.steps.1 in
    let short = ap length step in
    let was = l.invariant.1 in
    let here = l.invariant.0 ∙ ap (λ xs. behind l.all.items (read (items_view xs))) step in (
      goes_on l.all.items c.in-Some-2.value _ _ _ (rw c.in-Some-2.is at c.in_ok-value.ensures) here ∙ ap (λ vs. behind vs (read (items_view (into_iter_items c.next.new.self)))) (sym c.in_ok-push.ensures.items),
      omega arith,
    )

pub items_from-returns : goal.items_from-returns
items_from-returns t c =
    let l = c.loop-item in
    let read = items_read (inside_read_as c.args.texts (field_view c.args.field.now)) in
    let none = nothing_left (into_iter_items l.item-iterator) (sym l.invariant.1 ∙ c.in-None.ensures.steps.0) in
    ends l.all.items _ _ (ap (λ xs. read (items_view xs)) none) l.invariant.0 ∙ ap (λ xs. read (items_view xs)) c.into_iter-item-iterator.ensures.into_iter_gives.0

pub members_from_as-returns-in_default : goal.members_from_as-returns-in_default
members_from_as-returns-in_default t c =
    let l = c.loop-field in
    let f = c.field-item.result in
    let here : drop l.field-index c.args.fields.now ≡ f ∷ drop (l.field-index + 1) c.args.fields.now = drop_more c.args.fields.now l.field-index f (omega arith) ∙ ap (λ y. y ∷ drop (l.field-index + 1) c.args.fields.now) (sym c.field-item.is) in
    let taken = takes c.args.texts _ _ f c.name.result.now l.members.entries _ c.remove-member.result here c.name.ensures c.remove-member.ensures.value c.remove-member.ensures.entries in
    stops l.all.items _ _ _ (rw c.in_default.is at c.in_ok-value.ensures) (l.invariant ∙ ap (behind l.all.items) taken)

pub members_from_as-loop-field-preserved : goal.members_from_as-loop-field-preserved
members_from_as-loop-field-preserved t c =
    let l = c.loop-field in
    let f = c.field-item.result in
    let here : drop l.field-index c.args.fields.now ≡ f ∷ drop (l.field-index + 1) c.args.fields.now = drop_more c.args.fields.now l.field-index f (omega arith) ∙ ap (λ y. y ∷ drop (l.field-index + 1) c.args.fields.now) (sym c.field-item.is) in
    let taken = takes c.args.texts _ _ f c.name.result.now l.members.entries _ c.remove-member.result here c.name.ensures c.remove-member.ensures.value c.remove-member.ensures.entries in
    rw c.in_ok-push.ensures.items (goes_on l.all.items c.in-Some.value _ _ _ (rw c.in-Some.is at c.in_ok-value.ensures) (l.invariant ∙ ap (behind l.all.items) taken))

pub members_from_as-returns-then-are_all_taken : goal.members_from_as-returns-then-are_all_taken
members_from_as-returns-then-are_all_taken t c =
    let l = c.loop-field in
    let none = drop_all l.field-index c.args.fields.now (omega arith) in
    ends l.all.items _ _ (none_left-empty c.args.texts _ _ none (c.if-are_all_taken.ensures.0 refl)) l.invariant

pub members_from_as-returns : goal.members_from_as-returns
members_from_as-returns t c =
    let l = c.loop-field in
    let none = drop_all l.field-index c.args.fields.now (omega arith) in
    fails l.all.items _ _ (none_left-more c.args.texts _ _ none (λ h. true≢false (sym (c.if-are_all_taken.ensures.1 h)))) l.invariant
