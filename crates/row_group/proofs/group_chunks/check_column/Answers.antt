use Rattle.std.proofs.Common.{List}
use Rattle.bits.specs.Refusals.{IsFault}
use Rattle.bits.proofs.Passing.{passes}
use Rattle.schema.specs.Stripe.{Entry}
use Rattle.schema.specs.Views.{leaf_view}
use Rattle.metadata.specs.Views.{column_meta_view}
use Rattle.row_group.specs.Chunks.{ColumnMeans}
use Rattle.row_group.proofs.Passed.{passed}
use Rattle.row_group.proofs.Starts.{IsStart, at_start, over_here, over_there, column_there}
use Rattle.row_group.proofs.group_chunks.check_column.Goals as goal

pub returns-in_err-start-clause-only : goal.returns-in_err-start-clause-only
returns-in_err-start-clause-only c =
    passes (λ e. IsFault e → (es : List Entry) → ColumnMeans c.args.front.now (column_meta_view c.args.meta.now) (leaf_view c.args.leaf.now) es → ⊥)
    c.from_residual.result c.in_err-start.field-0.0 c.from_residual.ensures.1 (λ fault es m. c.in_err-start.ensures.only fault m.start m.starts)

pub returns-in_err-start-clause-limit : goal.returns-in_err-start-clause-limit
returns-in_err-start-clause-limit c = λ limit. absurd (c.in_err-start.ensures.limit (passed c.from_residual.result c.in_err-start.field-0.0 _ c.from_residual.ensures.1 limit))

pub returns-in_err-check_chunk-clause-only : goal.returns-in_err-check_chunk-clause-only
returns-in_err-check_chunk-clause-only c =
    let m = column_meta_view c.args.meta.now in
    let leaf = leaf_view c.args.leaf.now in
    let front = c.args.front.now in
    let start = c.in_ok-start.start in
    let bytes = c.from.result.now in
    let i : IsStart front m start bytes = record { starts = c.in_ok-start.ensures.stands; alone = c.in_ok-start.ensures.alone; here = c.from.ensures } in
    passes (λ e. IsFault e → (es : List Entry) → ColumnMeans front m leaf es → ⊥) c.from_residual-in_err-check_chunk.result c.in_err-check_chunk.field-0.0 c.from_residual-in_err-check_chunk.ensures.1
    (λ fault es k. let w = at_start front m leaf start bytes i es k in c.in_err-check_chunk.ensures.only fault es w.0 w.1)

pub returns-in_err-check_chunk-clause-limit : goal.returns-in_err-check_chunk-clause-limit
returns-in_err-check_chunk-clause-limit c = λ limit.
    let m = column_meta_view c.args.meta.now in
    let leaf = leaf_view c.args.leaf.now in
    let front = c.args.front.now in
    let start = c.in_ok-start.start in
    let bytes = c.from.result.now in
    let i : IsStart front m start bytes = record { starts = c.in_ok-start.ensures.stands; alone = c.in_ok-start.ensures.alone; here = c.from.ensures } in
    over_there front m leaf start bytes i (c.in_err-check_chunk.ensures.limit (passed c.from_residual-in_err-check_chunk.result c.in_err-check_chunk.field-0.0 _ c.from_residual-in_err-check_chunk.ensures.1 limit))

pub returns-clause-stands : goal.returns-clause-stands
returns-clause-stands c =
    let m = column_meta_view c.args.meta.now in
    let leaf = leaf_view c.args.leaf.now in
    let front = c.args.front.now in
    let start = c.in_ok-start.start in
    let bytes = c.from.result.now in
    let i : IsStart front m start bytes = record { starts = c.in_ok-start.ensures.stands; alone = c.in_ok-start.ensures.alone; here = c.from.ensures } in
    let s = c.in_ok-check_chunk.ensures.stands in
    (s.0, column_there front m leaf start bytes i s.0 _ s.1)

pub returns-clause-within_limits : goal.returns-clause-within_limits
returns-clause-within_limits c =
    let m = column_meta_view c.args.meta.now in
    let leaf = leaf_view c.args.leaf.now in
    let front = c.args.front.now in
    let start = c.in_ok-start.start in
    let bytes = c.from.result.now in
    let i : IsStart front m start bytes = record { starts = c.in_ok-start.ensures.stands; alone = c.in_ok-start.ensures.alone; here = c.from.ensures } in
    λ over. c.in_ok-check_chunk.ensures.within_limits (over_here front m leaf start bytes i over)
