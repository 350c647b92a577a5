use Rattle.std.proofs.Common.{arith}
use Rattle.bits.specs.Refusals.{IsFault, HasCause}
use Rattle.bits.specs.Codec.{NothingStands}
use Rattle.bits.proofs.Passing.{passes}
use Rattle.schema.specs.Views.{leaf_view}
use Rattle.metadata.specs.Views.{column_meta_view}
use Rattle.row_group.specs.Chunks.{ChunkMeans}
use Rattle.row_group.specs.Limits.{IsOfChunks}
use Rattle.row_group.specs.Left.{pages_view}
use Rattle.row_group.proofs.Passed.{passed_is}
use Rattle.row_group.proofs.WholeChunk.{IsRecord, refused_which, chunk_refused, chunk_over, not_codec, chunk_whole, chunk_of_rest, passes_shorter, whole_short}
use Rattle.row_group.proofs.chunk_reading.check_chunk.Goals as goal

pub returns-in_err-skip_entries-clause-only : goal.returns-in_err-skip_entries-clause-only
returns-in_err-skip_entries-clause-only c =
    let m = column_meta_view c.args.meta.now in
    let leaf = leaf_view c.args.leaf.now in
    let r : IsRecord m leaf c.in_ok-count.count = record { is = c.in_ok-count.ensures.of_leaf; count = c.in_ok-count.ensures.count; few = c.in_ok-count.ensures.within_limits } in
    passes (λ e. IsFault e → NothingStands (ChunkMeans m leaf c.args.bytes.now)) c.from_residual-in_err-skip_entries.result c.in_err-skip_entries.field-0.0 c.from_residual-in_err-skip_entries.ensures.1
    (chunk_refused m leaf c.args.bytes.now c.in_ok-count.count (pages_view c.new-pages.result) _ c.new-pages.ensures r c.in_err-skip_entries.ensures.refused)

pub returns-in_err-skip_entries-clause-limit : goal.returns-in_err-skip_entries-clause-limit
returns-in_err-skip_entries-clause-limit c = λ limit.
    let m = column_meta_view c.args.meta.now in
    let leaf = leaf_view c.args.leaf.now in
    let r : IsRecord m leaf c.in_ok-count.count = record { is = c.in_ok-count.ensures.of_leaf; count = c.in_ok-count.ensures.count; few = c.in_ok-count.ensures.within_limits } in
    chunk_over m leaf c.args.bytes.now c.in_ok-count.count (pages_view c.new-pages.result) c.in_err-skip_entries.field-0.0 c.new-pages.ensures r c.in_err-skip_entries.ensures.refused
    (passed_is c.from_residual-in_err-skip_entries.result c.in_err-skip_entries.field-0.0 _ c.from_residual-in_err-skip_entries.ensures.1 limit)

pub returns-in_err-skip_entries-clause-codec : goal.returns-in_err-skip_entries-clause-codec
returns-in_err-skip_entries-clause-codec c = λ codec.
    absurd (not_codec (pages_view c.new-pages.result) c.in_err-skip_entries.field-0.0 c.in_err-skip_entries.ensures.refused (passed_is c.from_residual-in_err-skip_entries.result c.in_err-skip_entries.field-0.0 _ c.from_residual-in_err-skip_entries.ensures.1 codec))

pub returns-in_err-skip_entries-clause-which : goal.returns-in_err-skip_entries-clause-which
returns-in_err-skip_entries-clause-which c = passes (HasCause IsOfChunks) c.from_residual-in_err-skip_entries.result c.in_err-skip_entries.field-0.0 c.from_residual-in_err-skip_entries.ensures.1 (refused_which (pages_view c.new-pages.result) _ c.in_err-skip_entries.ensures.refused)

pub overflow_sub-result : goal.overflow_sub-result
overflow_sub-result c =
    let s = c.in_ok-skip_entries.ensures.stands in
    let short = passes_shorter (leaf_view c.args.leaf.now) c.args.bytes.now c.in_ok-count.count (pages_view c.new-pages.result) (pages_view c.skip_entries.new.pages) _ c.new-pages.ensures s.1 in
    omega (arith, short)

pub returns-clause-stands : goal.returns-clause-stands
returns-clause-stands c =
    let m = column_meta_view c.args.meta.now in
    let leaf = leaf_view c.args.leaf.now in
    let n = c.in_ok-count.count in
    let r : IsRecord m leaf n = record { is = c.in_ok-count.ensures.of_leaf; count = c.in_ok-count.ensures.count; few = c.in_ok-count.ensures.within_limits } in
    let s = c.in_ok-skip_entries.ensures.stands in
    let w = chunk_whole m leaf c.args.bytes.now n (pages_view c.new-pages.result) (pages_view c.skip_entries.new.pages) _ c.new-pages.ensures s.1 in
    (s.0, chunk_of_rest m leaf c.args.bytes.now n r s.0 _ w.holds)

pub returns-clause-within_limits : goal.returns-clause-within_limits
returns-clause-within_limits c =
    let m = column_meta_view c.args.meta.now in
    let leaf = leaf_view c.args.leaf.now in
    let n = c.in_ok-count.count in
    let r : IsRecord m leaf n = record { is = c.in_ok-count.ensures.of_leaf; count = c.in_ok-count.ensures.count; few = c.in_ok-count.ensures.within_limits } in
    let s = c.in_ok-skip_entries.ensures.stands in
    let w = chunk_whole m leaf c.args.bytes.now n (pages_view c.new-pages.result) (pages_view c.skip_entries.new.pages) _ c.new-pages.ensures s.1 in
    whole_short m leaf c.args.bytes.now n _ _ r w
