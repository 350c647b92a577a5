use Rattle.std.proofs.Common.{◌≡◌, ℕ, List, length, map, ap, subst, ◌∙◌, rules}
use Rattle.bits.specs.Refusals.{IsFault}
use Rattle.bits.proofs.Passing.{passes}
use Rattle.schema.specs.Borrowed.{value_ref_view}
use Rattle.schema.specs.Views.{leaf_type_view}
use Rattle.std.specs.Prelude.{◌==◌}
use Rattle.std.proofs.lemmas.List.{map-id}
use Rattle.schema.specs.Values.{boolean}
use Rattle.hybrid_rle.specs.Hybrid.{IsHybrid}
use Rattle.pages.specs.declared.encoding.Encoding.TheVariants.{Rle}
use Rattle.pages.specs.inner.Reading.{StandInAnyChunk, StandInNoChunk}
use Rattle.pages.proofs.ListedValues.{booleans_stand, no_booleans, if_ok}
use Rattle.pages.proofs.value_reading.read_booleans.Goals as goal

pub returns-in_err-numbers-in-Boolean-clause-only : goal.returns-in_err-numbers-in-Boolean-clause-only
returns-in_err-numbers-in-Boolean-clause-only c =
    let t = leaf_type_view c.args.leaf_type.now in
    passes (λ e. IsFault e → StandInNoChunk t Rle c.args.bytes.now c.args.count) c.from_residual-in_err-numbers-in-Boolean.result c.in_err-numbers-in-Boolean.field-0.0 c.from_residual-in_err-numbers-in-Boolean.ensures.1
    (λ fault. no_booleans t c.args.bytes.now c.in_ok-section-in-Boolean.section.now c.in_ok-section-in-Boolean.field-0-1.now c.args.count c.in-Boolean.is c.in_ok-section-in-Boolean.ensures.stands (c.in_err-numbers-in-Boolean.ensures.only fault))

pub returns-in_ok-numbers-in-Boolean-clause-stands : goal.returns-in_ok-numbers-in-Boolean-clause-stands
returns-in_ok-numbers-in-Boolean-clause-stands c =
    let t = leaf_type_view c.args.leaf_type.now in
    let text = c.args.bytes.now in
    let n = c.args.count in
    let inside = c.in_ok-section-in-Boolean.section.now in
    let numbers = c.in_ok-numbers-in-Boolean.numbers.items in
    let used = c.in_ok-numbers-in-Boolean.field-0-1 in
    let size : length numbers ≡ n = search rules in
    let packed : IsHybrid 1 inside n numbers used = subst (λ (ls : List ℕ). IsHybrid 1 inside n ls used) (map-id numbers) c.in_ok-numbers-in-Boolean.ensures.stands in
    if_ok (λ vs. map value_ref_view vs.items ≡ map (λ x. boolean (x == 1)) c.deref.result.now) (λ vs. StandInAnyChunk t Rle text n (map value_ref_view vs.items)) c.booleans_of.result
    (λ vs are. booleans_stand t text inside c.in_ok-section-in-Boolean.field-0-1.now numbers n used (map value_ref_view vs.items) c.in-Boolean.is c.in_ok-section-in-Boolean.ensures.stands packed size
    (are ∙ ap (λ (xs : List ℕ). map (λ x. boolean (x == 1)) xs) c.deref.ensures.value)) c.booleans_of.ensures.are
