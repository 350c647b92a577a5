use Rattle.std.proofs.Common.{arith}
use Rattle.std.proofs.lemmas.List.{length-map}
use Rattle.plain.specs.Plain.{HasSpelling, spelling}
use Rattle.plain.proofs.PlacedTexts.{placed_none, next_fits, next_placed, all_placed}
use Rattle.plain.proofs.Seen.{seen_all}
use Rattle.plain.proofs.placing.place_each.Goals as goal

pub loop-value-init : goal.loop-value-init
loop-value-init g c = placed_none c.args.room.now c.args.start

pub place_value-at-requires-clause-spelled : goal.place_value-at-requires-clause-spelled
place_value-at-requires-clause-spelled g c = rw c.lend.ensures.stands (seen_all (HasSpelling c.args.kind) g.V.Lends.lent c.args.values.now c.loop-value.value-index c.value-item.result c.loop-value-test.true c.value-item.is c.requires.spelled)

pub place_value-at-requires-clause-fits : goal.place_value-at-requires-clause-fits
place_value-at-requires-clause-fits g c = rw c.lend.ensures.stands (next_fits (spelling c.args.kind) g.V.Lends.lent c.args.values.now c.loop-value.value-index c.value-item.result c.args.room.now c.loop-value.room c.args.start c.loop-value.at c.loop-value-test.true c.value-item.is c.requires.fits c.loop-value.invariant)

pub loop-value-preserved : goal.loop-value-preserved
loop-value-preserved g c =
    next_placed (spelling c.args.kind) g.V.Lends.lent c.args.values.now c.loop-value.value-index c.value-item.result c.args.room.now c.loop-value.room c.place_value-at.new.room c.args.start c.loop-value.at c.place_value-at.result c.loop-value-test.true c.value-item.is c.loop-value.invariant
    (rw c.lend.ensures.stands at c.place_value-at.ensures)

pub returns : goal.returns
returns g c =
    all_placed (spelling c.args.kind) g.V.Lends.lent c.args.values.now c.loop-value.value-index c.args.room.now c.loop-value.room c.args.start c.loop-value.at
    (let end = c.loop-value-test.false in omega (arith, end, length-map c.args.values.now g.V.Lends.lent)) c.loop-value.invariant
