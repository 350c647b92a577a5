use Rattle.std.proofs.Common.{length, map}
use Rattle.hybrid_rle.proofs.Hybrids.{hybrid_narrow}
use Rattle.hybrid_rle.proofs.Putting.{fault_says}
use Rattle.hybrid_rle.proofs.writing.encode.Goals as goal

pub returns-then-is_err-clause-only : goal.returns-then-is_err-clause-only
returns-then-is_err-clause-only g c =
    let xs = map g.T.Number.seen c.args.numbers.now in
    fault_says c.put_runs-done.result (λ unfit bytes used p. unfit (hybrid_narrow c.args.width (length xs) used bytes xs p)) c.put_runs-done.ensures.unfit
