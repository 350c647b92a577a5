use Rattle.std.proofs.Common.{◌≡◌, map, Ok, Err, sym, ap, ◌∙◌}
use Rattle.bits.specs.Refusals.{HasCause}
use Rattle.bits.proofs.Passing.{passes}
use Rattle.jsonrows.proofs.Operands.{list_seen, list_fault}
use Rattle.serde_json.specs.View.{view}
use Rattle.std.specs.Prelude.{option_map}
use Rattle.schema.specs.Values.{view as value_view}
use Rattle.schema.specs.Views.{leaf_type_view}
use Rattle.filter.specs.Terms.{each_of}
use Rattle.jsonrows.specs.Filters.{list_value, value_of_as}
use Rattle.rowtext.proofs.Forms.{view-List}
use Rattle.jsonrows.proofs.Made.{one_more_made}
use Rattle.jsonrows.proofs.filter_reading.+values.Goals as goal

pub values_of-loop-item-preserved : goal.values_of-loop-item-preserved
values_of-loop-item-preserved t c =
    one_more_made view (value_view) (value_of_as c.args.texts (option_map (λ t. leaf_type_view t.now) c.args.leaf_type)) c.args.items.now c.loop-item.item-index c.item-item.result c.loop-item.values.items c.push.new.self.items c.in_ok-value.value _ c.loop-item-test.true c.item-item.is c.in_ok-push.ensures.items c.in_ok-value.ensures.made c.loop-item.invariant

pub value_of-returns-in_err-values-in-Array-clause-which : goal.value_of-returns-in_err-values-in-Array-clause-which
value_of-returns-in_err-values-in-Array-clause-which t c =
    let leaf_type = option_map (λ t. leaf_type_view t.now) c.args.leaf_type in
    let d = view c.args.json.now in
    let same = list_seen c.args.texts leaf_type c.args.json.now c.in-Array.items c.as_slice.result.now c.in-Array.is c.as_slice.ensures.value in
    let e = c.in_err-values-in-Array.field-0.0 in
    passes (HasCause (λ x. value_of_as c.args.texts leaf_type d ≡ Err x)) c.from_residual.result e c.from_residual.ensures.1 (list_fault c.args.texts leaf_type d (each_of (value_of_as c.args.texts leaf_type) (map view c.as_slice.result.now)) same e c.in_err-values-in-Array.ensures.which)

pub value_of-returns-in_ok-values-in-Array-clause-made : goal.value_of-returns-in_ok-values-in-Array-clause-made
value_of-returns-in_ok-values-in-Array-clause-made t c =
    let leaf_type = option_map (λ t. leaf_type_view t.now) c.args.leaf_type in
    let same = list_seen c.args.texts leaf_type c.args.json.now c.in-Array.items c.as_slice.result.now c.in-Array.is c.as_slice.ensures.value in
    sym same ∙ ap list_value c.in_ok-values-in-Array.ensures.made ∙ ap Ok (sym (view-List c.in_ok-values-in-Array.values))
