use Rattle.std.proofs.Common.{◌≡◌, ◌<◌, ℕ, zero, suc, List, [], ◌∷◌, length, get_or, slice_index_or, Some, None, sym, ◌∙◌, ap, subst, arith}
use Rattle.std.specs.Prelude.{slice_set}
use Rattle.std.proofs.lemmas.Option.{same_Some as some_is}
use Rattle.table_state.specs.declared.jobs.OpenJob.{OpenJob}
use Rattle.table_state.specs.Lookups.{job_at}
use Rattle.table_reads.specs.Stepping.{HasRead, kept_rows}
use Rattle.table_jobs.proofs.WorkReplaced.{put_here, found_at, found_none}
use Rattle.table_jobs.proofs.reading_on.push_read.Goals as goal

again_is : (xs : List OpenJob) (i : ℕ) (x y : OpenJob) → i < length xs → x ≡ get_or xs i x → y ≡ get_or xs i y → x ≡ y
again_is [] i x y low a b = absurd (omega (arith, low))
again_is (z ∷ zs) zero x y low a b = a ∙ sym b
again_is (z ∷ zs) (suc i) x y low a b = again_is zs i x y (omega (arith, low)) a b

pub returns-then-jobs-i-clause-pushed : goal.returns-then-jobs-i-clause-pushed
returns-then-jobs-i-clause-pushed c x there =
    let old = c.args.jobs.now in
    let n = c.args.number in
    let i = c.loop-i.i in
    let same = c.loop-i.invariant.same in
    let w = c.push_work.new.work in
    let is = subst (λ (xs : List OpenJob). c.index-jobs-i.result ≡ get_or xs i c.index-jobs-i.result) same c.index-jobs-i.is in
    let again = subst (λ (xs : List OpenJob). c.index-jobs-i-then-jobs-i.result ≡ get_or xs i c.index-jobs-i-then-jobs-i.result) same c.index-jobs-i-then-jobs-i.is in
    let low = subst (λ (xs : List OpenJob). i < length xs) same (omega (arith, c.loop-i-test.true)) in
    let number : c.index-jobs-i.result.number ≡ n = ap (λ (y : OpenJob). y.number) c.index-jobs-i.is ∙ c.if-jobs-i.true in
    let one : c.index-jobs-i-then-jobs-i.result ≡ x = again_is old i c.index-jobs-i-then-jobs-i.result c.index-jobs-i.result low again is ∙ some_is c.index-jobs-i.result x (sym (found_at n old i c.index-jobs-i.result low is number c.loop-i.invariant.none) ∙ there) in (
      w,
      ap (λ (xs : List OpenJob). slice_set xs i record { number = (slice_index_or xs i c.index-jobs-i-then-jobs-i.result).number; work = w }) same
          ∙ put_here n w old i c.index-jobs-i-then-jobs-i.result c.index-jobs-i.result low is number c.loop-i.invariant.none,
      subst (λ (y : OpenJob). HasRead (kept_rows c.args.rows c.push_work.result) y.work w) (sym c.index-jobs-i-then-jobs-i.is ∙ one) c.push_work.ensures.pushed,
    )

pub returns-clause-pushed : goal.returns-clause-pushed
returns-clause-pushed c x there =
    let none : job_at c.args.number c.args.jobs.now ≡ None = found_none c.args.number c.args.jobs.now c.loop-i.i (omega (arith, c.loop-i-test.false)) c.loop-i.invariant.none in
    let both : None ≡ Some x = sym none ∙ there in
    absurd (cc)
