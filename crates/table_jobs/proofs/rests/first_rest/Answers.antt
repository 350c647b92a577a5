use Rattle.std.proofs.Common.{◌++◌, arith, ⊎_elim}
use Rattle.std.proofs.lemmas.List.{length-append}
use Rattle.gather.specs.KeyBuffers.{HoldsGroup}
use Rattle.table_jobs.proofs.RestsTaken.{placed}
use Rattle.table_jobs.proofs.RunByRun.{lengths_same}
use Rattle.table_jobs.proofs.rests.first_rest.Goals as goal

pub loop-i-preserved : goal.loop-i-preserved
loop-i-preserved c fs full rests held long short =
    let at = c.index-groups-i in
    let here = placed fs c.args.size c.args.groups.now full rests held long short c.loop-i.i at.result c.loop-i-test.true at.is c.len.result c.len.ensures.counted in
    let so_far = c.loop-i.invariant fs full rests held long short in
    let enough = c.if-len-size.false in
    ⊎_elim (λ p. let below = p.0 in omega (arith, below)) (λ p. let less = p.1 in absurd (omega (arith, less, enough))) here

pub returns-then-len-size-clause-is : goal.returns-then-len-size-clause-is
returns-then-len-size-clause-is c fs full rests held long short =
    let at = c.index-groups-i in
    let here = placed fs c.args.size c.args.groups.now full rests held long short c.loop-i.i at.result c.loop-i-test.true at.is c.len.result c.len.ensures.counted in
    let so_far = c.loop-i.invariant fs full rests held long short in
    let less = c.if-len-size.true in
    ⊎_elim (λ p. let more = p.1 in absurd (omega (arith, more, less))) (λ p. let above = p.0 in omega (arith, so_far, above)) here

pub returns-clause-is : goal.returns-clause-is
returns-clause-is c fs full rests held long short =
    let so_far = c.loop-i.invariant fs full rests held long short in
    let all = lengths_same (HoldsGroup fs) c.args.groups.now (full ++ rests) held in
    let sum = length-append full rests in
    omega (arith, so_far, all, sum, c.loop-i-test.false)
