use Rattle.std.proofs.Common.{◌<◌, ◌≤◌, ◌∙◌, length, sym, arith}
use Rattle.schema.specs.Keys.{key_columns_view, places_of}
use Rattle.table_reads.proofs.PlacesOfColumns.{place_gone, place_made, all_made}
use Rattle.table_reads.proofs.showing.stored_places.Goals as goal

pub loop-place-preserved-then-has_place : goal.loop-place-preserved-then-has_place
loop-place-preserved-then-has_place c =
    let keys = places_of (key_columns_view c.args.keys.now) in
    let n = c.loop-place.place in
    let low : n < length c.args.fields.now = omega arith in
    place_gone keys c.args.fields.now n low c.loop-place.places.items (sym c.has_place.ensures ∙ c.if-has_place.true) ∙ c.loop-place.invariant

pub loop-place-preserved : goal.loop-place-preserved
loop-place-preserved c =
    let keys = places_of (key_columns_view c.args.keys.now) in
    let n = c.loop-place.place in
    let low : n < length c.args.fields.now = omega arith in
    place_made keys c.args.fields.now n low c.loop-place.places.items c.push.new.self.items (sym c.has_place.ensures ∙ c.if-has_place.false) c.in_ok-push.ensures.items ∙ c.loop-place.invariant

pub returns-clause-made : goal.returns-clause-made
returns-clause-made c =
    let keys = places_of (key_columns_view c.args.keys.now) in
    let n = c.loop-place.place in
    let past : length c.args.fields.now ≤ n = omega arith in
    all_made keys c.args.fields.now n past c.loop-place.places.items ∙ c.loop-place.invariant
