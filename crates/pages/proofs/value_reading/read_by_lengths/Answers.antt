use Rattle.std.proofs.Common.{◌≡◌, List, length, map, subst, ◌∙◌, rules}
use Rattle.bits.specs.Refusals.{IsFault}
use Rattle.bits.proofs.Passing.{passes}
use Rattle.schema.specs.declared.borrowed.ValueRef.{ValueRef}
use Rattle.schema.specs.Borrowed.{value_ref_view}
use Rattle.schema.specs.Views.{leaf_type_view}
use Rattle.std.proofs.lemmas.List.{length-map}
use Rattle.pages.specs.declared.encoding.Encoding.TheVariants.{DeltaLengthByteArray}
use Rattle.pages.specs.inner.Reading.{AllFit, StandInNoChunk}
use Rattle.pages.proofs.ListedValues.{lengths_stand, no_lengths, other_lengths}
use Rattle.pages.proofs.value_reading.read_by_lengths.Goals as goal

pub returns-in_err-values-in-ByteArray-clause-only : goal.returns-in_err-values-in-ByteArray-clause-only
returns-in_err-values-in-ByteArray-clause-only c =
    let t = leaf_type_view c.args.leaf_type.now in
    passes (λ e. IsFault e → StandInNoChunk t DeltaLengthByteArray c.args.bytes.now c.args.count) c.from_residual.result c.in_err-values-in-ByteArray.field-0.0 c.from_residual.ensures.1
    (λ fault. no_lengths t c.args.bytes.now c.args.count c.in-ByteArray.is (c.in_err-values-in-ByteArray.ensures.only fault))

pub returns-in_err-check_values-in-ByteArray-clause-only : goal.returns-in_err-check_values-in-ByteArray-clause-only
returns-in_err-check_values-in-ByteArray-clause-only c =
    let t = leaf_type_view c.args.leaf_type.now in
    let items = c.in_ok-values-in-ByteArray.values.items in
    let size : length items ≡ c.args.count = search rules in
    passes (λ e. IsFault e → StandInNoChunk t DeltaLengthByteArray c.args.bytes.now c.args.count) c.from_residual-in_err-check_values-in-ByteArray.result c.in_err-check_values-in-ByteArray.field-0.0 c.from_residual-in_err-check_values-in-ByteArray.ensures.1
    (λ fault. other_lengths c.one_byte_list.ensures t c.args.bytes.now c.args.count (map value_ref_view items) c.in_ok-values-in-ByteArray.field-0-1 c.in-ByteArray.is (length-map items value_ref_view ∙ size) c.in_ok-values-in-ByteArray.ensures.stands
    (subst (λ (vs : List ValueRef). AllFit t (map value_ref_view vs) → ⊥) c.deref.ensures.value (c.in_err-check_values-in-ByteArray.ensures.only fault)))

pub returns-in_ok-check_values-in-ByteArray-clause-stands : goal.returns-in_ok-check_values-in-ByteArray-clause-stands
returns-in_ok-check_values-in-ByteArray-clause-stands c =
    let t = leaf_type_view c.args.leaf_type.now in
    let items = c.in_ok-values-in-ByteArray.values.items in
    let size : length items ≡ c.args.count = search rules in
    lengths_stand t c.args.bytes.now c.args.count (map value_ref_view items) c.in_ok-values-in-ByteArray.field-0-1 c.in-ByteArray.is (length-map items value_ref_view ∙ size) c.in_ok-values-in-ByteArray.ensures.stands
    (subst (λ (vs : List ValueRef). AllFit t (map value_ref_view vs)) c.deref.ensures.value c.in_ok-check_values-in-ByteArray.ensures.fit)
