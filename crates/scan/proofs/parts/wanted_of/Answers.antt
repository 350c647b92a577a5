use Rattle.std.proofs.Common.{◌≡◌, ◌<◌, length, true, false, ap, sym, ◌∙◌, arith}
use Rattle.schema.specs.Cutting.{is_among}
use Rattle.schema.specs.Shape.{count}
use Rattle.scan.proofs.Filling.{field_count}
use Rattle.scan.proofs.Segments.{place_taken, place_passed, no_place_left}
use Rattle.scan.proofs.parts.wanted_of.Goals as goal

pub loop-place-preserved-then-not-contains : goal.loop-place-preserved-then-not-contains
loop-place-preserved-then-not-contains c =
    let n = c.loop-place.place-counter in
    let total : count c.args.schema.now ≡ length c.fields-place-end.result.now = ap count (sym c.fields-place-end.ensures) ∙ field_count c.fields-place-end.result.now in
    let more : n < count c.args.schema.now = (let t = c.loop-place-test.true in omega (arith, total, t)) in
    let away : is_among c.args.places.now n ≡ false = sym c.contains.ensures.value ∙ c.if-not-contains.true in
    place_passed c.args.places.now n (count c.args.schema.now) more c.loop-place.wanted.items away ∙ c.loop-place.invariant

pub loop-place-preserved : goal.loop-place-preserved
loop-place-preserved c =
    let n = c.loop-place.place-counter in
    let total : count c.args.schema.now ≡ length c.fields-place-end.result.now = ap count (sym c.fields-place-end.ensures) ∙ field_count c.fields-place-end.result.now in
    let more : n < count c.args.schema.now = (let t = c.loop-place-test.true in omega (arith, total, t)) in
    let here : is_among c.args.places.now n ≡ true = sym c.contains.ensures.value ∙ c.if-not-contains.false in
    place_taken c.args.places.now n (count c.args.schema.now) more c.loop-place.wanted.items c.push.new.self.items here c.in_ok-push.ensures.items ∙ c.loop-place.invariant

pub returns-clause-stands : goal.returns-clause-stands
returns-clause-stands c =
    let total : count c.args.schema.now ≡ length c.fields-place-end.result.now = ap count (sym c.fields-place-end.ensures) ∙ field_count c.fields-place-end.result.now in
    let none = c.loop-place-test.false in
    sym (no_place_left c.args.places.now c.loop-place.place-counter (count c.args.schema.now) (omega (arith, total, none)) c.loop-place.wanted.items) ∙ c.loop-place.invariant
