use Rattle.std.proofs.Common.{map, drop}
use Rattle.metadata.specs.Views.{chunk_meta_view}
use Rattle.row_group.specs.inner.Counts.{HaveCounts}
use Rattle.row_group.proofs.rows.have_counts.Given as goal

-- all have this many exactly when those that are left do
abbrev pub invariant-loop-chunk : goal.invariant-loop-chunk
invariant-loop-chunk l = record {
  whole : HaveCounts l.count (map chunk_meta_view (drop l.chunk-index l.chunk-items)) → HaveCounts l.count (map chunk_meta_view l.meta.columns.items);
  left : HaveCounts l.count (map chunk_meta_view l.meta.columns.items) → HaveCounts l.count (map chunk_meta_view (drop l.chunk-index l.chunk-items));
}
