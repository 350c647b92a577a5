use Rattle.std.proofs.Common.{◌<◌, ◌∷◌, [], None, codes, nat_abs, w32, sym, ap, ◌∙◌, arith}
use Rattle.std.proofs.lemmas.Int.{to_z_pos}
use Rattle.serde_json.specs.View.{view, items_view}
use Rattle.serde_json.proofs.Views.{items_len-items_view}
use Rattle.jsonrows.specs.inner.SchemaReading.{said_of_group, fields_said, said_below}
use Rattle.jsonrows.specs.inner.SchemaViews.{saids}
use Rattle.jsonrows.proofs.Said.{after, all_say, too_many_say}
use Rattle.jsonrows.proofs.schema_reading.all_said.Goals as goal

pub returns-then-count-ge-MOST_FIELDS : goal.returns-then-count-ge-MOST_FIELDS
returns-then-count-ge-MOST_FIELDS c =
    let vs = c.in-Some.fields.now in
    too_many_say (view c.args.json.now) (items_view vs.items) c.len-count.result c.in-Some.ensures (c.len-count.ensures ∙ vs.ok.0 ∙ sym (items_len-items_view vs.items)) (omega (arith, c.if-count-ge-MOST_FIELDS.true))

pub returns-then-branch : goal.returns-then-branch
returns-then-branch c =
    let vs = c.in-Some.fields.now in
    let few : c.len-count.result < 2147483648 = omega (arith, c.if-count-ge-MOST_FIELDS.false) in
    let now = ap saids c.in_ok-all.ensures.items ∙ ap (λ s. s ∷ []) c.in_ok-root.ensures ∙ ap (λ z. said_of_group (codes "schema") None (nat_abs z) None ∷ []) (to_z_pos w32 c.len-count.result few) in
    all_say (view c.args.json.now) (items_view vs.items) c.len-count.result _ _ c.in-Some.ensures (c.len-count.ensures ∙ vs.ok.0 ∙ sym (items_len-items_view vs.items)) few now
    (rw c.if-branch.true at c.in_ok-say_fields.ensures ∙ ap (λ xs. after (saids c.in_ok-all.all.items) (fields_said (said_below 64) (items_view xs))) c.as_slice.ensures.value)
