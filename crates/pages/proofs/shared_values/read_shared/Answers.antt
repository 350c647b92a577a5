use Rattle.std.proofs.Common.{ℕ, List, map, subst}
use Rattle.bits.specs.Refusals.{IsFault}
use Rattle.bits.proofs.Passing.{passes}
use Rattle.schema.specs.Views.{leaf_type_view}
use Rattle.schema.specs.Values.{bytes}
use Rattle.delta.specs.ValuesLeft.{values_left}
use Rattle.pages.specs.declared.encoding.Encoding.TheVariants.{DeltaByteArray}
use Rattle.pages.specs.inner.Reading.{AllFit, StandInNoChunk}
use Rattle.pages.proofs.ListedValues.{of_bytes, over_of_bytes, prefixes_stand, no_prefixes, other_prefixes}
use Rattle.pages.proofs.SharedValues.{prefixed_count}
use Rattle.pages.proofs.shared_values.read_shared.Goals as goal

pub returns-in_err-checked-clause-only : goal.returns-in_err-checked-clause-only
returns-in_err-checked-clause-only c =
    let t = leaf_type_view c.args.leaf_type.now in
    let kind = of_bytes t (c.has_bytes.ensures.0 c.if-not-has_bytes.false) in
    passes (λ e. IsFault e → StandInNoChunk t DeltaByteArray c.args.bytes.now c.args.count) c.from_residual.result c.in_err-checked.field-0.0 c.from_residual.ensures.1
    (λ fault. no_prefixes t c.args.bytes.now c.args.count kind (c.in_err-checked.ensures.only fault))

pub returns-in_err-check_shared-clause-only : goal.returns-in_err-check_shared-clause-only
returns-in_err-check_shared-clause-only c =
    let t = leaf_type_view c.args.leaf_type.now in
    let kind = of_bytes t (c.has_bytes.ensures.0 c.if-not-has_bytes.false) in
    passes (λ e. IsFault e → StandInNoChunk t DeltaByteArray c.args.bytes.now c.args.count) c.from_residual-in_err-check_shared.result c.in_err-check_shared.field-0.0 c.from_residual-in_err-check_shared.ensures.1
    (λ fault. other_prefixes c.one_prefixed_list.ensures t c.args.bytes.now c.args.count (values_left c.in_ok-checked.checked) c.in_ok-checked.field-0-1 kind c.in_ok-checked.ensures.stands (c.in_err-check_shared.ensures.only fault))

pub returns-in_err-values-clause-only : goal.returns-in_err-values-clause-only
returns-in_err-values-clause-only c =
    let t = leaf_type_view c.args.leaf_type.now in
    let kind = of_bytes t (c.has_bytes.ensures.0 c.if-not-has_bytes.false) in
    passes (λ e. IsFault e → StandInNoChunk t DeltaByteArray c.args.bytes.now c.args.count) c.from_residual-in_err-values.result c.in_err-values.field-0.0 c.from_residual-in_err-values.ensures.1
    (λ fault. no_prefixes t c.args.bytes.now c.args.count kind (c.in_err-values.ensures.only fault))

pub returns-clause-stands : goal.returns-clause-stands
returns-clause-stands c =
    let t = leaf_type_view c.args.leaf_type.now in
    let text = c.args.bytes.now in
    let n = c.args.count in
    let kind = of_bytes t (c.has_bytes.ensures.0 c.if-not-has_bytes.false) in
    let here = c.in_ok-values.values in
    let used = c.in_ok-values.field-0-1 in
    let same = (c.one_prefixed_list.ensures n text (values_left c.in_ok-checked.checked) (values_left here) c.in_ok-checked.field-0-1 used c.in_ok-checked.ensures.stands c.in_ok-values.ensures.stands).0 in
    prefixes_stand t text n (values_left here) used kind (prefixed_count text n (values_left here) used c.in_ok-values.ensures.stands) c.in_ok-values.ensures.stands
    (subst (λ (ts : List (List ℕ)). AllFit t (map bytes ts)) same c.in_ok-check_shared.ensures.fit)

pub returns-clause-within_limits : goal.returns-clause-within_limits
returns-clause-within_limits c = λ over.
    let has = c.has_bytes.ensures.0 c.if-not-has_bytes.false in
    c.in_ok-values.ensures.limit ((over_of_bytes c.args.leaf_type.now.kind c.args.bytes.now c.args.count has).1 over)
