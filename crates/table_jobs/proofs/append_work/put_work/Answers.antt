use Rattle.std.proofs.Common.{◌≡◌, ◌<◌, List, length, get_or, slice_index_or, ◌∙◌, ap, subst, arith}
use Rattle.std.specs.Prelude.{slice_set}
use Rattle.table_state.specs.declared.jobs.OpenJob.{OpenJob}
use Rattle.table_jobs.proofs.WorkReplaced.{put_here, put_none}
use Rattle.table_jobs.proofs.append_work.put_work.Goals as goal

pub returns-then-jobs-i : goal.returns-then-jobs-i
returns-then-jobs-i c =
    let same = c.loop-i.invariant.same in
    let is = subst (λ (xs : List OpenJob). c.index-jobs-i.result ≡ get_or xs c.loop-i.i c.index-jobs-i.result) same c.index-jobs-i.is in
    let low = subst (λ (xs : List OpenJob). c.loop-i.i < length xs) same (omega (arith, c.loop-i-test.true)) in
    ap (λ (xs : List OpenJob). slice_set xs c.loop-i.i record { number = (slice_index_or xs c.loop-i.i c.index-jobs-i-then-jobs-i.result).number; work = c.args.work }) same
    ∙ put_here c.args.number c.args.work c.args.jobs.now c.loop-i.i c.index-jobs-i-then-jobs-i.result c.index-jobs-i.result low is (ap (λ (x : OpenJob). x.number) c.index-jobs-i.is ∙ c.if-jobs-i.true) c.loop-i.invariant.none

pub returns : goal.returns
returns c = c.loop-i.invariant.same ∙ put_none c.args.number c.args.work c.args.jobs.now c.loop-i.i (omega (arith, c.loop-i-test.false)) c.loop-i.invariant.none
