use Rattle.std.proofs.Common.{◌≡◌, ◌<◌, ◌∙◌, get_or, length, map, sym, arith}
use Rattle.std.proofs.lemmas.List.{length-map}
use Rattle.hybrid_rle.proofs.Putting.{seen_at, eight_more, eight_all}
use Rattle.hybrid_rle.proofs.writing.eight_numbers.Goals as goal

pub loop-i-preserved : goal.loop-i-preserved
loop-i-preserved g c =
    let seen = g.T.Number.seen in
    let numbers = c.args.numbers.now in
    let i = c.loop-i.i in
    let lt : i < length numbers = omega (arith, c.min-i-end.ensures, c.loop-i-test.true) in
    let here : get_or (map seen numbers) i 0 ≡ c.number.result = seen_at seen numbers i c.index-numbers-i.result lt c.index-numbers-i.is ∙ sym c.number.ensures in
    eight_more (map seen numbers) c.loop-i.eight i c.number.result (omega (arith, c.min-i-end.ensures, c.loop-i-test.true)) (omega (arith, length-map numbers seen, lt)) here c.loop-i.invariant

pub returns : goal.returns
returns g c =
    let seen = g.T.Number.seen in
    let numbers = c.args.numbers.now in
    eight_all (map seen numbers) c.loop-i.eight c.loop-i.i (omega (arith, length-map numbers seen, c.min-i-end.ensures, c.loop-i-test.false)) c.loop-i.invariant
