use Rattle.std.proofs.Common.{◌≡◌, ◌+◌, map, drop}
use Rattle.metadata.specs.Views.{chunk_meta_view}
use Rattle.manifest.specs.KeptChunks.{sizes_of}
use Rattle.manifest.proofs.chunk_records.size_of.Given as goal

-- what is left makes the sum whole
abbrev pub invariant-loop-chunk : goal.invariant-loop-chunk
invariant-loop-chunk l = l.size + sizes_of (map chunk_meta_view (drop l.chunk-index l.chunks)) ≡ sizes_of (map chunk_meta_view l.chunks)
