use Rattle.std.proofs.Common.{map, drop}
use Rattle.schema.specs.Views.{leaf_view}
use Rattle.metadata.specs.Views.{chunk_meta_view}
use Rattle.row_group.specs.inner.Readers.{IsReaderOf}
use Rattle.row_group.proofs.InOrder.{UpTo}
use Rattle.row_group.proofs.group_chunks.readers_of.Given as goal

abbrev pub invariant-loop-place : goal.invariant-loop-place
invariant-loop-place l = UpTo (IsReaderOf l.front) (map chunk_meta_view l.meta.columns.items) (map leaf_view l.leaves) (map chunk_meta_view (drop l.place l.meta.columns.items)) (map leaf_view (drop l.place l.leaves)) l.readers.items
