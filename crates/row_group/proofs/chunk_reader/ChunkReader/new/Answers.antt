use Rattle.schema.specs.Views.{leaf_view}
use Rattle.metadata.specs.Views.{column_meta_view}
use Rattle.row_group.specs.Left.{pages_view}
use Rattle.row_group.proofs.WholeChunk.{IsRecord}
use Rattle.row_group.proofs.ChunkReaders.{reads_chunk}
use Rattle.row_group.proofs.Causes.{chunk_causes}
use Rattle.row_group.proofs.chunk_reader.ChunkReader.new.Goals as goal

pub returns-clause-stands : goal.returns-clause-stands
returns-clause-stands c =
    let m = column_meta_view c.args.meta.now in
    let leaf = leaf_view c.args.leaf.now in
    let r : IsRecord m leaf c.in_ok-count.count = record { is = c.in_ok-count.ensures.of_leaf; count = c.in_ok-count.ensures.count; few = c.in_ok-count.ensures.within_limits } in
    reads_chunk m leaf c.args.bytes.now c.in_ok-count.count (pages_view c.new.result) c.new.ensures r

pub returns-clause-causes : goal.returns-clause-causes
returns-clause-causes c =
    let m = column_meta_view c.args.meta.now in
    let leaf = leaf_view c.args.leaf.now in
    let r : IsRecord m leaf c.in_ok-count.count = record { is = c.in_ok-count.ensures.of_leaf; count = c.in_ok-count.ensures.count; few = c.in_ok-count.ensures.within_limits } in
    chunk_causes m leaf c.args.bytes.now c.in_ok-count.count (pages_view c.new.result) c.new.ensures r
