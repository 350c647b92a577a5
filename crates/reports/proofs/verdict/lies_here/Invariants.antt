use Rattle.std.proofs.Common.{◌≡◌, map, drop}
use Rattle.std.specs.Prelude.{None}
use Rattle.std.specs.List.{AllByRecursion}
use Rattle.metadata.specs.Records.{ChunkMeta}
use Rattle.metadata.specs.Views.{chunk_meta_view}
use Rattle.reports.proofs.verdict.lies_here.Given as goal

-- all lie here just where those that are left do
abbrev pub invariant-loop-chunk : goal.invariant-loop-chunk
invariant-loop-chunk l = record {
  whole : AllByRecursion (λ (c : ChunkMeta). c.file_path ≡ None) (map chunk_meta_view (drop l.chunk-index l.chunk-items)) → AllByRecursion (λ (c : ChunkMeta). c.file_path ≡ None) (map chunk_meta_view l.group.columns.items);
  left : AllByRecursion (λ (c : ChunkMeta). c.file_path ≡ None) (map chunk_meta_view l.group.columns.items) → AllByRecursion (λ (c : ChunkMeta). c.file_path ≡ None) (map chunk_meta_view (drop l.chunk-index l.chunk-items));
}
