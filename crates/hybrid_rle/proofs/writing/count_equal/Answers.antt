use Rattle.std.proofs.Common.{◌≡◌, ◌<◌, ◌∙◌, get_or, length, map, sym, arith}
use Rattle.std.proofs.lemmas.List.{length-map}
use Rattle.hybrid_rle.proofs.Putting.{seen_at, equal_more}
use Rattle.hybrid_rle.proofs.writing.count_equal.Goals as goal

pub loop-i-preserved : goal.loop-i-preserved
loop-i-preserved g c =
    let seen = g.T.Number.seen in
    let numbers = c.args.numbers.now in
    let i = c.loop-i.i in
    let lt : i < length numbers = omega (arith, c.min-most.ensures, c.loop-i-test.true) in
    let here = seen_at seen numbers i c.index-numbers-i.result lt c.index-numbers-i.is in
    let first = seen_at seen numbers 0 c.index-numbers-0.result (omega arith) c.index-numbers-0.is in
    let same : get_or (map seen numbers) i 0 ≡ get_or (map seen numbers) 0 0 = here ∙ sym c.number.ensures ∙ c.if-number.false ∙ c.number-in-loop-i.ensures ∙ sym first in
    equal_more (map seen numbers) i (omega (arith, length-map numbers seen, lt)) same c.loop-i.invariant
