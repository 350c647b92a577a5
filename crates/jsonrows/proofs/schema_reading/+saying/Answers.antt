use Rattle.std.proofs.Common.{◌≡◌, ◌+◌, ◌-◌, ◌∷◌, suc, drop, option_map, option_and_then, to_z, of_z, w32, rules, sym, ap, ◌∙◌, arith}
use Rattle.std.proofs.lemmas.List.{drop_more}
use Rattle.serde_json.specs.Find.{as_str}
use Rattle.serde_json.specs.View.{view, items_view}
use Rattle.serde_json.proofs.Views.{items_len-items_view}
use Rattle.jsonrows.specs.SchemaJson.{repetitions}
use Rattle.jsonrows.specs.inner.SchemaReading.{word_of, group_said, fields_said, said_below}
use Rattle.jsonrows.specs.inner.SchemaViews.{said_view, saids}
use Rattle.jsonrows.proofs.Said.{after, said_more, said_below-more, says_group, saids-push, group_says}
use Rattle.jsonrows.proofs.schema_reading.+saying.Goals as goal

pub say_field-returns-in_default-2 : goal.say_field-returns-in_default-2
say_field-returns-in_default-2 t c =
    let d = view c.args.json.now in
    let number_is : to_z w32 (of_z w32 c.in-Some-word_of.repetition) ≡ c.in-Some-word_of.repetition = search rules in
    let counts = c.len.ensures ∙ c.in-Some-as_array.fields.now.ok.0 ∙ sym (items_len-items_view c.in-Some-as_array.fields.now.items) in
    group_says (said_below c.args.deep) d _ c.in-Some.name.now c.in-Some-word_of.repetition (items_view c.in-Some-as_array.fields.now.items) _
    (c.in-Some.ensures ∙ ap (option_and_then as_str) c.get.ensures) (c.in-Some-word_of.ensures ∙ ap (option_and_then (word_of repetitions)) c.get-2.ensures) c.in-Some-get.ensures c.in-Some-as_array.ensures
    (rw c.in_default-2.is at c.in_ok-said.ensures ∙ ap (λ z. group_said c.in-Some.name.now z d c.len.result) number_is ∙ ap (group_said c.in-Some.name.now c.in-Some-word_of.repetition d) counts)

pub say_field-returns : goal.say_field-returns
say_field-returns t c =
    let d = view c.args.json.now in
    let number_is : to_z w32 (of_z w32 c.in-Some-word_of.repetition) ≡ c.in-Some-word_of.repetition = search rules in
    let vs = c.in-Some-as_array.fields.now in
    let s = said_view c.in-Some-2.said in
    let counts = c.len.ensures ∙ vs.ok.0 ∙ sym (items_len-items_view vs.items) in
    let said = group_says (said_below c.args.deep) d _ c.in-Some.name.now c.in-Some-word_of.repetition (items_view vs.items) _
    (c.in-Some.ensures ∙ ap (option_and_then as_str) c.get.ensures) (c.in-Some-word_of.ensures ∙ ap (option_and_then (word_of repetitions)) c.get-2.ensures) c.in-Some-get.ensures c.in-Some-as_array.ensures
    (rw c.in-Some-2.is at c.in_ok-said.ensures ∙ ap (λ z. group_said c.in-Some.name.now z d c.len.result) number_is ∙ ap (group_said c.in-Some.name.now c.in-Some-word_of.repetition d) counts) in
    let lower : c.args.deep ≡ suc (c.args.deep - 1) = omega (arith, c.if-deep-eq0.false) in
    let below = said_below-more c.args.deep (c.args.deep - 1) (items_view vs.items) lower ∙ ap (λ xs. fields_said (said_below (c.args.deep - 1)) (items_view xs)) (sym c.as_slice.ensures.value) in
    says_group (saids c.args.all.now.items) (saids c.push.new.self.items) _ s _ _ c.say_fields.result
    (ap saids c.in_ok-push.ensures.items ∙ saids-push c.args.all.now.items c.in-Some-2.said)
    (sym said ∙ ap (option_map (λ all. s ∷ all)) below) c.say_fields.ensures

pub say_fields-loop-field-preserved : goal.say_fields-loop-field-preserved
say_fields-loop-field-preserved t c =
    let l = c.loop-field in
    let f = c.field-item.result in
    let xs = c.args.fields.now in
    let here : drop l.field-index xs ≡ f ∷ drop (l.field-index + 1) xs = drop_more xs l.field-index f (omega arith) ∙ ap (λ y. y ∷ drop (l.field-index + 1) xs) (sym c.field-item.is) in
    let split = l.invariant ∙ ap (λ ys. after (saids l.all.items) (fields_said (said_below c.args.deep) (items_view ys))) here in
    said_more _ _ _ _ _ _ (rw c.if-not-branch.false at c.in_ok-say_field.ensures) split
