use Rattle.std.proofs.Common.{map}
use Rattle.schema.specs.Views.{leaf_view}
use Rattle.schema.specs.Cutting.{is_among, at_places}
use Rattle.metadata.specs.Views.{chunk_meta_view}
use Rattle.row_group.specs.inner.Readers.{IsReaderOf}
use Rattle.row_group.proofs.InOrder.{UpTo}
use Rattle.row_group.proofs.WantedChunks.{left_at}
use Rattle.row_group.proofs.wanted_chunks.wanted_readers.Given as goal

abbrev pub invariant-loop-place : goal.invariant-loop-place
invariant-loop-place l =
    UpTo (IsReaderOf l.front) (at_places l.wanted (map chunk_meta_view l.meta.columns.items)) (at_places l.wanted (map leaf_view l.leaves))
    (left_at (is_among l.wanted) chunk_meta_view l.meta.columns.items l.place-counter) (left_at (is_among l.wanted) leaf_view l.leaves l.place-counter) l.readers.items
