use Rattle.std.proofs.Common.{◌≡◌, List, arith}
use Rattle.std.specs.Prelude.{pos}
use Rattle.std.proofs.lemmas.Int.{ints}
use Rattle.bits.specs.Refusals.{IsFault}
use Rattle.bits.proofs.Passing.{passes}
use Rattle.schema.specs.Values.{ValueTrees}
use Rattle.metadata.specs.Views.{group_meta_view}
use Rattle.row_group.specs.Chunks.{GroupMeans}
use Rattle.row_group.specs.Limits.{large_chunk}
use Rattle.row_group.proofs.Passed.{passed}
use Rattle.row_group.proofs.GroupRows.{means, rows_of_group, not_over}
use Rattle.row_group.proofs.rows.check_group.Goals as goal

pub returns-in_err-check_rows-clause-only : goal.returns-in_err-check_rows-clause-only
returns-in_err-check_rows-clause-only c =
    let fs = c.args.schema.now in
    let g = group_meta_view c.args.meta.now in
    passes (λ e. IsFault e → (rows : List ValueTrees) → GroupMeans c.args.front.now fs g rows → ⊥) c.from_residual-in_err-check_rows.result c.in_err-check_rows.field-0.0 c.from_residual-in_err-check_rows.ensures.1
    (λ fault rows h.
    let e = c.in_ok-count.ensures.count_is in
    let number : g.num_rows ≡ pos c.in_ok-count.count = omega (arith, ints) in
    c.in_err-check_rows.ensures.only fault rows (rows_of_group c.args.front.now fs g c.in_ok-count.count number rows h))

pub returns-in_err-check_rows-clause-limit : goal.returns-in_err-check_rows-clause-limit
returns-in_err-check_rows-clause-limit c = λ limit. large_chunk (c.in_err-check_rows.ensures.limit (passed c.from_residual-in_err-check_rows.result c.in_err-check_rows.field-0.0 _ c.from_residual-in_err-check_rows.ensures.1 limit))

pub returns-clause-stands : goal.returns-clause-stands
returns-clause-stands c =
    let fs = c.args.schema.now in
    let g = group_meta_view c.args.meta.now in
    let front = c.args.front.now in
    let n = c.in_ok-count.count in
    let e = c.in_ok-count.ensures.count_is in
    let number : g.num_rows ≡ pos n = omega (arith, ints) in
    let h = c.in_ok-check_rows.ensures.stands in
    (h.rows, record { means = means front fs g n number h; within_limits = not_over front fs g n (λ many. c.in_ok-count.ensures.within_limits (omega (arith, ints, many))) h })
