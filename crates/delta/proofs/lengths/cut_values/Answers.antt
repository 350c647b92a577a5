use Rattle.std.proofs.Common.{◌≡◌, ℕ, List, [], ◌∷◌, ◌++◌, ◌≤◌, ◌∙◌, length, get_or, map, take, drop, ap, subst, arith, rules, FitsSigned}
use Rattle.std.specs.Int.{w32, cast_signed, cast_unsigned}
use Rattle.std.proofs.lemmas.Int.{to_z-of_z}
use Rattle.std.specs.Prelude.{pos}
use Rattle.std.proofs.lemmas.List.{map-append, length-drop}
use Rattle.std.proofs.lemmas.List.Elements.{All-push}
use Rattle.bits.specs.Refusals.{IsFault}
use Rattle.bits.proofs.Passing.{passes, passes_limit}
use Rattle.schema.specs.Values.{ValueTree, bytes}
use Rattle.delta.specs.ByteDeltas.{IsCutLong}
use Rattle.delta.specs.inner.Cut.{NoneAreCut, IsLong}
use Rattle.delta.proofs.Cutting.{cutting_goes_on, cutting_fails, cutting_long, cutting_not_over, cutting_ends, cutting_ends_short, turn_limit}
use Rattle.delta.proofs.lengths.cut_values.Goals as goal

pub returns-in_err-size-clause-only : goal.returns-in_err-size-clause-only
returns-in_err-size-clause-only g c =
    let lengths = c.args.lengths.now in
    let text = c.args.bytes.now in
    let i = c.loop-announced.announced-index in
    let at = c.loop-announced.at in
    let element = get_or lengths i (pos 0) in
    let z = cast_signed w32 (cast_unsigned w32 element) in
    let fits : FitsSigned w32 element = search rules in
    let same : z ≡ element = to_z-of_z w32 element fits in
    passes (λ e. IsFault e → NoneAreCut lengths text) c.from_residual-in_err-size.result c.in_err-size.field-0.0 c.from_residual-in_err-size.ensures.1
    (λ fault.
    let none : (size : ℕ) → z ≡ pos size → size ≤ length (drop at text) → ⊥ = subst (λ (t : List ℕ). (size : ℕ) → z ≡ pos size → size ≤ length t → ⊥) c.split_at.ensures.back (c.in_err-size.ensures.only fault) in
    cutting_fails lengths text (map g.T.Holds.held c.loop-announced.values.items) at i z c.loop-announced-test.true same none c.loop-announced.invariant.cutting)

pub returns-in_err-size-clause-limit : goal.returns-in_err-size-clause-limit
returns-in_err-size-clause-limit g c =
    let lengths = c.args.lengths.now in
    let text = c.args.bytes.now in
    let i = c.loop-announced.announced-index in
    let at = c.loop-announced.at in
    let element = get_or lengths i (pos 0) in
    let z = cast_signed w32 (cast_unsigned w32 element) in
    let fits : FitsSigned w32 element = search rules in
    let same : z ≡ element = to_z-of_z w32 element fits in
    let values = map g.T.Holds.held c.loop-announced.values.items in
    passes_limit (IsCutLong lengths text) c.from_residual-in_err-size.result c.in_err-size.field-0.0 c.from_residual-in_err-size.ensures.1
    (turn_limit (IsLong z) (IsCutLong lengths text) c.in_err-size.field-0.0 (λ long. cutting_long lengths text values at i z c.loop-announced-test.true same long c.loop-announced.invariant.cutting)
    (λ fault not_long over.
    let none : (size : ℕ) → z ≡ pos size → size ≤ length (drop at text) → ⊥ = subst (λ (t : List ℕ). (size : ℕ) → z ≡ pos size → size ≤ length t → ⊥) c.split_at.ensures.back (c.in_err-size.ensures.only fault) in
    cutting_not_over lengths text values at i z c.loop-announced-test.true same not_long none c.loop-announced.invariant.cutting over)
    c.in_err-size.ensures.limit)

pub loop-announced-preserved : goal.loop-announced-preserved
loop-announced-preserved g c =
    let held = g.T.Holds.held in
    let lengths = c.args.lengths.now in
    let text = c.args.bytes.now in
    let i = c.loop-announced.announced-index in
    let at = c.loop-announced.at in
    let element = get_or lengths i (pos 0) in
    let z = cast_signed w32 (cast_unsigned w32 element) in
    let fits : FitsSigned w32 element = search rules in
    let same : z ≡ element = to_z-of_z w32 element fits in
    let size = c.in_ok-size.size in
    let here = c.split_at-in-loop-announced.result.0.now in
    let value = c.in_ok-of_bytes.field-0 in
    let values = c.loop-announced.values.items in
    let room : size ≤ length (drop at text) = subst (λ (t : List ℕ). size ≤ length t) c.split_at.ensures.back c.in_ok-size.ensures.within in
    let cut : here ≡ take size (drop at text) = c.split_at-in-loop-announced.ensures.front ∙ ap (λ (t : List ℕ). take size t) c.split_at.ensures.back in
    let put : map held c.push.new.self.items ≡ map held values ++ bytes here ∷ [] = ap (λ t. map held t) c.in_ok-push.ensures.items ∙ map-append held values (value ∷ []) ∙ ap (λ (v : ValueTree). map held values ++ v ∷ []) c.in_ok-of_bytes.ensures.stands in
    record {
      within = omega (arith, room, length-drop at text, c.loop-announced.invariant.within);
      count = omega (arith, c.in_ok-push.ensures.len, c.loop-announced.invariant.count);
      made = rw c.in_ok-push.ensures.items (All-push g.T.Holds.IsMade values value c.loop-announced.invariant.made c.in_ok-of_bytes.ensures.made);
      cutting = cutting_goes_on lengths text here (map held values) (map held c.push.new.self.items) at i size z c.loop-announced-test.true same c.in_ok-size.ensures.stands room c.in_ok-size.ensures.limit cut put c.loop-announced.invariant.cutting;
    }

pub returns-clause-limit : goal.returns-clause-limit
returns-clause-limit g c =
    cutting_ends_short c.args.lengths.now c.args.bytes.now (map g.T.Holds.held c.loop-announced.values.items) c.loop-announced.at c.loop-announced.announced-index c.loop-announced-test.false c.loop-announced.invariant.cutting

pub returns-clause-stands : goal.returns-clause-stands
returns-clause-stands g c =
    cutting_ends c.args.lengths.now c.args.bytes.now (map g.T.Holds.held c.loop-announced.values.items) c.loop-announced.at c.loop-announced.announced-index c.loop-announced-test.false c.loop-announced.invariant.cutting
