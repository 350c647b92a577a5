use Rattle.std.proofs.Common.{◌≡◌, ◌<◌, ◌+◌, ◌&&◌, Bool, true, false, length, drop, ap, sym, ◌∙◌, arith}
use Rattle.schema.specs.Values.{view, views}
use Rattle.filter.specs.Same.{same, same_each}
use Rattle.filter.proofs.Same.{decides_same, each_differs, each_here}
use Rattle.filter.proofs.equality.are_same.Goals as goal

pub returns-then-a-b : goal.returns-then-a-b
returns-then-a-b c = sym (each_differs c.args.a.now c.args.b.now c.if-a-b.true)

pub returns-then-not-same : goal.returns-then-not-same
returns-then-not-same c =
    let a = c.args.a.now in
    let b = c.args.b.now in
    let i = c.loop-i.i in
    let x = c.index-a-i.result in
    let y = c.index-b-i.result in
    let fewer : i < length b = (let t = c.loop-i-test.true in let s = c.if-a-b.false in omega (arith, t, s)) in
    let differs : same (view x) (view y) ≡ false = sym (decides_same c.same.result (view x) (view y) c.same.ensures) ∙ c.if-not-same.true in
    sym (ap (λ (t : Bool). t && same_each (views (drop (i + 1) a)) (views (drop (i + 1) b))) differs) ∙ sym (each_here a b i x y c.loop-i-test.true fewer c.index-a-i.is c.index-b-i.is) ∙ c.loop-i.invariant

pub loop-i-preserved : goal.loop-i-preserved
loop-i-preserved c =
    let a = c.args.a.now in
    let b = c.args.b.now in
    let i = c.loop-i.i in
    let x = c.index-a-i.result in
    let y = c.index-b-i.result in
    let fewer : i < length b = (let t = c.loop-i-test.true in let s = c.if-a-b.false in omega (arith, t, s)) in
    let equal : same (view x) (view y) ≡ true = sym (decides_same c.same.result (view x) (view y) c.same.ensures) ∙ c.if-not-same.false in
    sym (ap (λ (t : Bool). t && same_each (views (drop (i + 1) a)) (views (drop (i + 1) b))) equal) ∙ sym (each_here a b i x y c.loop-i-test.true fewer c.index-a-i.is c.index-b-i.is) ∙ c.loop-i.invariant
