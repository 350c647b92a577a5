use Rattle.std.proofs.Common.{◌≡◌, ◌++◌, ◌≤◌, List, map, drop, length}
use Rattle.metadata.specs.Records.{ChunkMeta}
use Rattle.metadata.specs.Views.{chunk_meta_view}
use Rattle.manifest.specs.Handles.{records_of}
use Rattle.manifest.specs.KeptChunks.{AreRestsOf}
use Rattle.manifest.proofs.chunk_records.ChunkRecords.to_chunks.Given as goal

-- those so far and those that are left are all
abbrev pub invariant-loop-end : goal.invariant-loop-end
invariant-loop-end l = (left : List ChunkMeta) × (map chunk_meta_view l.chunks.items ++ left ≡ records_of l.self) × AreRestsOf l.self.bytes.items l.at (drop l.end-index l.end-items) left
