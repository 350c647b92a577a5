use Rattle.std.proofs.Common.{List, ℕ, map, subst}
use Rattle.bits.specs.Refusals.{IsFault}
use Rattle.bits.proofs.Passing.{passes}
use Rattle.hybrid_rle.specs.Hybrid.{IsBody, IsRun}
use Rattle.hybrid_rle.specs.inner.Taken.{IsTaken, Lacks}
use Rattle.hybrid_rle.proofs.Taking.{run_taken, run_lacks, no_header}
use Rattle.hybrid_rle.proofs.reading.take_run.Goals as goal
use Rattle.hybrid_rle.proofs.reading.take_run.Goals.{then-header-eq0+in_ok-size, else-header-eq0+in_ok-size-2}

pub returns-in_err-header-clause-only : goal.returns-in_err-header-clause-only
returns-in_err-header-clause-only g c =
    passes (λ e. IsFault e → Lacks (IsRun c.args.width) c.args.bytes.now c.args.left) c.from_residual.result c.in_err-header.field-0.0 c.from_residual.ensures.1
    (λ fault. no_header c.args.width c.args.left c.args.bytes.now (c.in_err-header.ensures.only fault))

pub returns-in_err-size-clause-only : goal.returns-in_err-size-clause-only
returns-in_err-size-clause-only g c =
    passes (λ e. IsFault e → Lacks (IsRun c.args.width) c.args.bytes.now c.args.left) c.from_residual-in_err-size.result c.in_err-size.field-0.0 c.from_residual-in_err-size.ensures.1
    (λ fault. run_lacks c.args.width c.in_ok-header.header c.in_ok-header.at c.args.left c.args.bytes.now c.in_ok-header.ensures.alone (subst (λ (t : List ℕ). Lacks (IsBody c.args.width c.in_ok-header.header) t c.args.left) c.split_at.ensures.back (c.in_err-size.ensures.only fault)))

pub returns-in_err-size-2-clause-only : goal.returns-in_err-size-2-clause-only
returns-in_err-size-2-clause-only g c =
    passes (λ e. IsFault e → Lacks (IsRun c.args.width) c.args.bytes.now c.args.left) c.from_residual-in_err-size-2.result c.in_err-size-2.field-0.0 c.from_residual-in_err-size-2.ensures.1
    (λ fault. run_lacks c.args.width c.in_ok-header.header c.in_ok-header.at c.args.left c.args.bytes.now c.in_ok-header.ensures.alone (subst (λ (t : List ℕ). Lacks (IsBody c.args.width c.in_ok-header.header) t c.args.left) c.split_at.ensures.back (c.in_err-size-2.ensures.only fault)))

pub returns-clause-numbers : goal.returns-clause-numbers
returns-clause-numbers g c =
    let w = c.args.width in
    let h = c.in_ok-header.header in
    let seen = g.T.Number.seen in
    let old = map seen c.args.numbers.now.items in
    elim c.if-header-eq0.branch [
      | then-header-eq0+in_ok-size b ↦
          let new = map seen b.take_repeated.new.numbers.items in
          let taken = subst (λ (t : List ℕ). IsTaken (IsBody w h) t c.args.left old new b.in_ok-size.size) c.split_at.ensures.back b.in_ok-size.ensures.numbers in
          rw (b.numbers-is, b.size-is) (run_taken w h c.in_ok-header.at c.args.left b.in_ok-size.size c.args.bytes.now old new c.in_ok-header.ensures.stands taken)
      | else-header-eq0+in_ok-size-2 b ↦
          let new = map seen b.take_packed.new.numbers.items in
          let taken = subst (λ (t : List ℕ). IsTaken (IsBody w h) t c.args.left old new b.in_ok-size-2.size) c.split_at.ensures.back b.in_ok-size-2.ensures.numbers in
          rw (b.numbers-is, b.size-is) (run_taken w h c.in_ok-header.at c.args.left b.in_ok-size-2.size c.args.bytes.now old new c.in_ok-header.ensures.stands taken)
    ]
