use Rattle.std.proofs.Common.{◌≡◌, List, length, map, refl, ap, ◌∙◌, rules}
use Rattle.bits.specs.Refusals.{IsFault}
use Rattle.bits.proofs.Passing.{passes}
use Rattle.schema.specs.Borrowed.{value_ref_view}
use Rattle.schema.specs.Views.{leaf_type_view}
use Rattle.std.specs.Prelude.{ℤ, All}
use Rattle.std.specs.Int.{w32, w64}
use Rattle.schema.specs.declared.value.Kind.TheVariants.{Int32, Int64}
use Rattle.schema.specs.Values.{integer}
use Rattle.plain.specs.Plain.{IsOfKind}
use Rattle.pages.specs.declared.encoding.Encoding.TheVariants.{DeltaBinaryPacked}
use Rattle.pages.specs.inner.Reading.{StandInAnyChunk, StandInNoChunk}
use Rattle.pages.proofs.ListedValues.{deltas_stand, no_numbers, no_long_numbers, if_ok_both}
use Rattle.pages.proofs.value_reading.read_numbers.Goals as goal

pub returns-in_err-numbers-in-Int32-clause-only : goal.returns-in_err-numbers-in-Int32-clause-only
returns-in_err-numbers-in-Int32-clause-only c =
    let t = leaf_type_view c.args.leaf_type.now in
    passes (λ e. IsFault e → StandInNoChunk t DeltaBinaryPacked c.args.bytes.now c.args.count) c.from_residual.result c.in_err-numbers-in-Int32.field-0.0 c.from_residual.ensures.1
    (λ fault. no_numbers t c.args.bytes.now c.args.count c.in-Int32.is (c.in_err-numbers-in-Int32.ensures.only fault))

pub returns-in_ok-numbers-in-Int32-clause-stands : goal.returns-in_ok-numbers-in-Int32-clause-stands
returns-in_ok-numbers-in-Int32-clause-stands c =
    let t = leaf_type_view c.args.leaf_type.now in
    let text = c.args.bytes.now in
    let n = c.args.count in
    let numbers = c.in_ok-numbers-in-Int32.numbers.items in
    let size : length numbers ≡ n = search rules in
    if_ok_both (λ vs. map value_ref_view vs.items ≡ map integer c.deref.result.now) (λ vs. All (IsOfKind Int32) (map value_ref_view vs.items)) (λ vs. StandInAnyChunk t DeltaBinaryPacked text n (map value_ref_view vs.items)) c.integers_of.result
    (λ vs are kinds. deltas_stand t Int32 w32 text n (map value_ref_view vs.items) numbers c.in_ok-numbers-in-Int32.field-0-1 c.what_is_of_a_kind_fits_it.ensures c.in-Int32.is (λ a. refl) (λ d p. p)
    (are ∙ ap (λ (zs : List ℤ). map integer zs) c.deref.ensures.value) kinds size c.in_ok-numbers-in-Int32.ensures.stands) c.integers_of.ensures.are c.integers_of.ensures.of_kind

pub returns-in_err-numbers-in-Int64-clause-only : goal.returns-in_err-numbers-in-Int64-clause-only
returns-in_err-numbers-in-Int64-clause-only c =
    let t = leaf_type_view c.args.leaf_type.now in
    passes (λ e. IsFault e → StandInNoChunk t DeltaBinaryPacked c.args.bytes.now c.args.count) c.from_residual-in_err-numbers-in-Int64.result c.in_err-numbers-in-Int64.field-0.0 c.from_residual-in_err-numbers-in-Int64.ensures.1
    (λ fault. no_long_numbers t c.args.bytes.now c.args.count c.in-Int64.is (c.in_err-numbers-in-Int64.ensures.only fault))

pub returns-in_ok-numbers-in-Int64-clause-stands : goal.returns-in_ok-numbers-in-Int64-clause-stands
returns-in_ok-numbers-in-Int64-clause-stands c =
    let t = leaf_type_view c.args.leaf_type.now in
    let text = c.args.bytes.now in
    let n = c.args.count in
    let numbers = c.in_ok-numbers-in-Int64.numbers.items in
    let size : length numbers ≡ n = search rules in
    if_ok_both (λ vs. map value_ref_view vs.items ≡ map integer c.deref-in-Int64.result.now) (λ vs. All (IsOfKind Int64) (map value_ref_view vs.items)) (λ vs. StandInAnyChunk t DeltaBinaryPacked text n (map value_ref_view vs.items)) c.long_integers_of.result
    (λ vs are kinds. deltas_stand t Int64 w64 text n (map value_ref_view vs.items) numbers c.in_ok-numbers-in-Int64.field-0-1 c.what_is_of_a_kind_fits_it.ensures c.in-Int64.is (λ a. refl) (λ d p. p)
    (are ∙ ap (λ (zs : List ℤ). map integer zs) c.deref-in-Int64.ensures.value) kinds size c.in_ok-numbers-in-Int64.ensures.stands) c.long_integers_of.ensures.are c.long_integers_of.ensures.of_kind
